-- One Set after the other.
use Rattle.std.proofs.Common.{◌≡◌, ℕ, zero, suc, ◌+◌, ◌-◌, ◌<◌, List, [], ◌++◌, sym, ap, ◌∙◌, arith, append_assoc, append-nil}
use Rattle.generated_sets.specs.Draws.{state_behind, drawn_at}
use Rattle.generated_sets.specs.Connections.{frames_of_set, frames_of_sets}

first_of_more : (left stream state next drawn : ℕ) → next ≡ state_behind state → drawn ≡ drawn_at next
    → frames_of_sets (suc left) stream state ≡ frames_of_set stream drawn ++ frames_of_sets left (stream + 2) next
first_of_more left stream state next drawn is at =
    ap (λ (n : ℕ). frames_of_set stream (drawn_at n) ++ frames_of_sets left (stream + 2) n) (sym is)
    ∙ ap (λ (d : ℕ). frames_of_set stream d ++ frames_of_sets left (stream + 2) next) (sym at)

-- the next Set is there
pub one_more : (out : List ℕ) (left stream state next drawn : ℕ) (new whole : List ℕ) → 0 < left → next ≡ state_behind state → drawn ≡ drawn_at next
    → out ++ frames_of_sets left stream state ≡ whole → new ≡ out ++ frames_of_set stream drawn → new ++ frames_of_sets (left - 1) (stream + 2) next ≡ whole
one_more out zero stream state next drawn new whole some is at all added = absurd (omega (arith, some))
one_more out (suc left) stream state next drawn new whole some is at all added =
    let less : suc left - 1 ≡ left = omega arith in
    let rest = frames_of_sets left (stream + 2) next in
    ap (λ (n : ℕ). new ++ frames_of_sets n (stream + 2) next) less
    ∙ ap (λ (octets : List ℕ). octets ++ rest) added
    ∙ append_assoc out (frames_of_set stream drawn) rest
    ∙ ap (λ (octets : List ℕ). out ++ octets) (sym (first_of_more left stream state next drawn is at))
    ∙ all

-- none is left
pub none_left : (out : List ℕ) (left stream state : ℕ) (front sets farewell new : List ℕ) → left ≡ 0
    → out ++ frames_of_sets left stream state ≡ front ++ sets → new ≡ out ++ farewell → new ≡ front ++ sets ++ farewell
none_left out left stream state front sets farewell new none all added =
    let here : out ≡ front ++ sets = sym (append-nil out) ∙ ap (λ (n : ℕ). out ++ frames_of_sets n stream state) (sym none) ∙ all in
    added ∙ ap (λ (octets : List ℕ). octets ++ farewell) here

-- The turns of a session are steps of the history that they are in.
use Rattle.std.proofs.Common.{◌≡◌, ℕ, List, [], ◌∷◌, ◌++◌, refl, ap, ◌∙◌, append_assoc}
use Rattle.std.specs.List.{AllByRecursion}
use Rattle.base_kinds.specs.declared.entry.Entry.{Entry}
use Rattle.book_port.specs.Follows.{Turn, Follows, GoesOn}
use Rattle.book_port.proofs.Following.{follows_goes_on}
use Rattle.program.specs.headline.Terms.{IsPrefix, IsAt}

pub prefix_again : (one two h : List Entry) → IsPrefix one two → IsPrefix two h → IsPrefix one h
prefix_again one two h first second =
    (first.0 ++ second.0, second.1 ∙ ap (λ l. l ++ second.0) first.1 ∙ append_assoc one first.0 second.0)

pub turns_are_prefixes : (author : ℕ) (seen : List Entry) (turns : List Turn) (h : List Entry) → AllByRecursion GoesOn turns → Follows author seen turns h → AllByRecursion (IsAt h) turns
turns_are_prefixes author seen [] h go follow = tt
turns_are_prefixes author seen (turn ∷ turns) h go follow =
    let left : IsPrefix turn.left h = follows_goes_on author turn.left turns h go.1 follow.1 in
    let here : IsPrefix turn.found turn.left = (go.0.more, go.0.whole) in
    (record { found = prefix_again turn.found turn.left h here left; left = left }, turns_are_prefixes author turn.left turns h go.1 follow.1)

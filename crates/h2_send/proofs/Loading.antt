-- Octets on the stream that has a number.
use Rattle.std.proofs.Common.{◌≡◌, ℕ, suc, ◌+◌, ◌≤◌, Bool, true, false, cond, not, List, [], ◌∷◌, length, set, get_or, refl, ap, ◌∙◌, arith}
use Rattle.std.specs.Prelude.{if◌then◌else◌}
use Rattle.std.specs.List.{position_or_len}
use Rattle.h2_windows.specs.Streams.{is_stream}
use Rattle.h2_windows.specs.Holding.{counted}
use Rattle.h2_windows.specs.declared.stream.Stream.{Stream}
use Rattle.h2_send.specs.Offers.{loaded, with_octets}

-- a stream with these octets, part by part
pub with_parts : (octets : List ℕ) (s : Stream) (taken : ℕ) (pending : List ℕ) → taken ≡ counted (s.taken + length octets) → pending ≡ octets → record { id = s.id; begun = true; credit = s.credit; taken = taken; pending = pending } ≡ with_octets octets s
with_parts octets s taken pending counts is =
    ap (λ n. let t : Stream = record { id = s.id; begun = true; credit = s.credit; taken = n; pending = pending } in t) counts ∙ ap (λ os. let t : Stream = record { id = s.id; begun = true; credit = s.credit; taken = counted (s.taken + length octets); pending = os } in t) is

at_if : (is : Bool) (octets : List ℕ) (n m : ℕ) (s t d : Stream) (streams others : List Stream) → n ≡ cond (not is) (1 + m) 0 → t ≡ with_octets octets (get_or (s ∷ streams) n d) → (t ≡ with_octets octets (get_or streams m d) → set streams m t ≡ others) → set (s ∷ streams) n t ≡ (if is then with_octets octets s ∷ streams else s ∷ others)
at_if true octets n m s t d streams others place value rest = ap (λ k. set (s ∷ streams) k t) place ∙ ap (λ x. x ∷ streams) (value ∙ ap (λ k. with_octets octets (get_or (s ∷ streams) k d)) place)
at_if false octets n m s t d streams others place value rest =
    let more : 1 + m ≡ suc m = omega arith in
    let next : n ≡ suc m = place ∙ more in
    ap (λ k. set (s ∷ streams) k t) next ∙ ap (λ ss. s ∷ ss) (rest (value ∙ ap (λ k. with_octets octets (get_or (s ∷ streams) k d)) next))

-- the stream at its place is changed
pub loaded_at : (id : ℕ) (octets : List ℕ) (n : ℕ) (t d : Stream) (streams : List Stream) → n ≡ position_or_len (is_stream id) streams → t ≡ with_octets octets (get_or streams n d) → set streams n t ≡ loaded id octets streams
loaded_at id octets n t d [] place value = refl
loaded_at id octets n t d (s ∷ streams) place value = at_if (is_stream id s) octets n (position_or_len (is_stream id) streams) s t d streams (loaded id octets streams) place value (λ same. loaded_at id octets (position_or_len (is_stream id) streams) t d streams refl same)

none_if : (is : Bool) (s t : Stream) (m k : ℕ) (streams others : List Stream) → suc k ≤ cond (not is) (1 + m) 0 → (k ≤ m → streams ≡ others) → s ∷ streams ≡ (if is then t ∷ streams else s ∷ others)
none_if true s t m k streams others less rest = absurd (omega (arith, less))
none_if false s t m k streams others less rest = ap (λ ss. s ∷ ss) (rest (omega (arith, less)))

-- no stream has the number
pub loaded_none : (id : ℕ) (octets : List ℕ) (streams : List Stream) → length streams ≤ position_or_len (is_stream id) streams → streams ≡ loaded id octets streams
loaded_none id octets [] less = refl
loaded_none id octets (s ∷ streams) less = none_if (is_stream id s) s (with_octets octets s) (position_or_len (is_stream id) streams) (length streams) streams (loaded id octets streams) less (λ l. loaded_none id octets streams l)

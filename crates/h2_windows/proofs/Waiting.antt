-- How much waits on streams.
use Rattle.std.proofs.Common.{◌≡◌, ℕ, zero, suc, ◌+◌, ◌-◌, ◌^◌, ◌≤◌, List, [], ◌∷◌, length, drop, refl, ap, ◌∙◌, arith}
use Rattle.h2_windows.specs.Holding.{waiting, counted}
use Rattle.h2_windows.specs.declared.stream.Stream.{Stream}

none_left : (n : ℕ) (streams : List Stream) → length streams ≤ n → waiting (drop n streams) ≡ 0
none_left zero [] all = refl
none_left (suc n) [] all = refl
none_left zero (s ∷ streams) all = absurd (omega (arith, all))
none_left (suc n) (s ∷ streams) all = none_left n streams (omega (arith, all))

as_it_is : (n : ℕ) → n ≤ 2 ^ 64 - 1 → counted (n + 0) ≡ n
as_it_is n fits = grind (arith, fits)

-- behind the last stream
pub counted_all : (n count : ℕ) (streams : List Stream) → length streams ≤ n → count ≤ 2 ^ 64 - 1 → counted (waiting streams) ≡ counted (count + waiting (drop n streams)) → count ≡ counted (waiting streams)
counted_all n count streams all fits is = let e = is ∙ ap (λ w. counted (count + w)) (none_left n streams all) ∙ as_it_is count fits in grind (arith, e)

-- Lists of which something is left.
use Rattle.std.proofs.Common.{◌≡◌, ℕ, zero, suc, ◌+◌, ◌<◌, ◌≤◌, List, [], ◌∷◌, length, drop, refl, subst, arith}

pub all_dropped : {A : Type 0} (said : ℕ) (items : List A) → said ≤ length items → drop said items ≡ [] → said ≡ length items
all_dropped zero [] le none = refl
all_dropped zero (item ∷ items) le none = absurd cc
all_dropped (suc said) [] le none = absurd (omega (arith, le))
all_dropped (suc said) (item ∷ items) le none = let rest = all_dropped said items (omega (arith, le)) none in omega (arith, rest)

first_left_so : {A : Type 0} (said : ℕ) (items : List A) → said < length items → (first : A) × (drop said items ≡ first ∷ drop (suc said) items)
first_left_so zero [] lt = absurd (omega (arith, lt))
first_left_so zero (item ∷ items) lt = (item, refl)
first_left_so (suc said) [] lt = absurd (omega (arith, lt))
first_left_so (suc said) (item ∷ items) lt = first_left_so said items (omega (arith, lt))

pub first_left : {A : Type 0} (said : ℕ) (items : List A) → said < length items → (first : A) × (drop said items ≡ first ∷ drop (said + 1) items)
first_left {A} said items lt =
    let left = first_left_so said items lt in
    let more : suc said ≡ said + 1 = omega arith in
    (left.0, subst (λ (n : ℕ). drop said items ≡ left.0 ∷ drop n items) more left.1)

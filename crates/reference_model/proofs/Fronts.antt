-- What is found among the fronts of a path.
use Rattle.std.proofs.Common.{◌≡◌, ℕ, zero, suc, ◌<◌, ◌≤◌, ◌+◌, List, [], ◌∷◌, Bool, true, false, ◌||◌, length, take, map, refl, ap, ◌∙◌, arith}
use Rattle.std.specs.List.{list_any}
use Rattle.base_kinds.specs.declared.path.Elem.{Elem}
use Rattle.base_kinds.specs.Match.{prefixes, covers, matches}

any-map : (f : List Elem → Bool) (g : List Elem → List Elem) (paths : List (List Elem)) → list_any f (map g paths) ≡ list_any (λ path. f (g path)) paths
any-map f g [] = refl
any-map f g (path ∷ paths) = ap (λ b. f (g path) || b) (any-map f g paths)

found : (f : List Elem → Bool) (path : List Elem) (n : ℕ) → f (take n path) ≡ true → list_any f (prefixes path) ≡ true
found f [] zero h = rw h refl
found f [] (suc n) h = rw h refl
found f (elem ∷ elems) zero h = rw h refl
found f (elem ∷ elems) (suc n) h = let rest = any-map f (λ front. elem ∷ front) (prefixes elems) ∙ found (λ front. f (elem ∷ front)) elems n h in grind (arith, rest)

missed : (f : List Elem → Bool) (path : List Elem) → ((n : ℕ) → n ≤ length path → f (take n path) ≡ false) → list_any f (prefixes path) ≡ false
missed f [] none = let h = none 0 (omega arith) in rw h refl
missed f (elem ∷ elems) none =
    let here = none 0 (omega arith) in
    let rest = any-map f (λ front. elem ∷ front) (prefixes elems) ∙ missed (λ front. f (elem ∷ front)) elems (λ n le. none (suc n) (omega arith)) in
    rw (here, rest) refl

-- a front that matches is enough
pub some_front : (pattern path : List Elem) (n : ℕ) → matches pattern (take n path) ≡ true → covers pattern path ≡ true
some_front pattern path n h = found (matches pattern) path n h

pub no_front : (pattern path : List Elem) → ((n : ℕ) → n < length path + 1 → matches pattern (take n path) ≡ false) → covers pattern path ≡ false
no_front pattern path none = missed (matches pattern) path (λ n le. none n (omega arith))

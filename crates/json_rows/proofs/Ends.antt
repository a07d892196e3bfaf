-- The names of a path are those above its last element, and that element's.
use Rattle.std.proofs.Common.{◌≡◌, ℕ, zero, suc, ◌-◌, List, [], ◌∷◌, ◌++◌, length, take, ap, Some, arith}
use Rattle.std.specs.List.{slice_get}
use Rattle.base_kinds.specs.declared.path.Elem.{Elem}
use Rattle.base_kinds.specs.Schema.{names_of}

one_more : (path : List Elem) (n : ℕ) (last : Elem) → slice_get path n ≡ Some last → length path ≡ suc n → names_of path ≡ names_of (take n path) ++ last.name ∷ []
one_more [] n last is long = absurd (omega (arith, long))
one_more (elem ∷ []) zero last is long = let same : elem ≡ last = cc in ap (λ e. e.name ∷ []) same
one_more (elem ∷ other ∷ others) zero last is long = absurd (omega (arith, long))
one_more (elem ∷ elems) (suc n) last is long = ap (λ names. elem.name ∷ names) (one_more elems n last is (omega (arith, long)))

pub names_above_last : (path : List Elem) (last : Elem) → slice_get path (length path - 1) ≡ Some last → names_of path ≡ names_of (take (length path - 1) path) ++ last.name ∷ []
names_above_last [] last is = absurd (cc)
names_above_last (elem ∷ elems) last is = one_more (elem ∷ elems) (length (elem ∷ elems) - 1) last is (omega arith)

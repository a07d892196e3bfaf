-- The last of some names, and the last element of a path.
use Rattle.std.proofs.Common.{◌≡◌, ℕ, List, [], ◌∷◌, ◌++◌, ◌==◌, Bool, true, false, length, refl, arith}
use Rattle.std.proofs.lemmas.Bool.Decides.{nat_tests}
use Rattle.std.specs.Prelude.{IsTrue, ◌↔◌}
use Rattle.base_kinds.specs.declared.path.Elem.{Elem}
use Rattle.base_kinds.specs.Ancestors.{own_name}
use Rattle.json_text.specs.Trees.{ends_plain}

pub own_name-last : (front : List (List ℕ)) (name : List ℕ) → own_name (front ++ name ∷ []) ≡ name
own_name-last [] name = refl
own_name-last (first ∷ []) name = refl
own_name-last (first ∷ second ∷ others) name = own_name-last (second ∷ others) name

pub ends_plain-last : (front : List Elem) (elem : Elem) → ends_plain (front ++ elem ∷ []) ≡ (length elem.keys == 0)
ends_plain-last [] elem = refl
ends_plain-last (first ∷ []) elem = refl
ends_plain-last (first ∷ second ∷ others) elem = ends_plain-last (second ∷ others) elem

pub empty_is : {A : Type 0} (xs : List A) (is : Bool) → (IsTrue is ↔ (xs ≡ [])) → is ≡ (length xs == 0)
empty_is [] true both = refl
empty_is [] false both = let no : IsTrue false = both.1 refl in absurd cc
empty_is (x ∷ xs) true both = let none = both.0 refl in absurd cc
empty_is (x ∷ xs) false both = grind (arith, nat_tests)

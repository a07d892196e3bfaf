-- The names of a node that end in a name.
use Rattle.std.proofs.Common.{◌≡◌, ℕ, List, [], ◌∷◌, ◌++◌, refl, ap, ◌∙◌}
use Rattle.base_kinds.specs.Ancestors.{parent_names, own_name}

pub parent_of_end : (names front : List (List ℕ)) (name : List ℕ) → names ≡ front ++ name ∷ [] → parent_names names ≡ front
parent_of_end names front name is = ap parent_names is ∙ last front name
  where
    last : (front : List (List ℕ)) (name : List ℕ) → parent_names (front ++ name ∷ []) ≡ front
    last [] name = refl
    last (a ∷ []) name = refl
    last (a ∷ b ∷ front) name = ap (λ rest. a ∷ rest) (last (b ∷ front) name)

pub parent_of_none : (names : List (List ℕ)) → names ≡ [] → parent_names names ≡ []
parent_of_none names is = ap parent_names is

pub own_of_end : (names front : List (List ℕ)) (name : List ℕ) → names ≡ front ++ name ∷ [] → own_name names ≡ name
own_of_end names front name is = ap own_name is ∙ last front name
  where
    last : (front : List (List ℕ)) (name : List ℕ) → own_name (front ++ name ∷ []) ≡ name
    last [] name = refl
    last (a ∷ []) name = refl
    last (a ∷ b ∷ front) name = last (b ∷ front) name

-- Paths above others: the prefixes of a path, the path without its last element, and a leaf right below.
use Rattle.std.specs.Prelude.{ℕ, List, [], ◌∷◌, ◌++◌}
use Rattle.base_kinds.specs.declared.path.Elem.{Elem}

-- the fronts of a path that end in an element, each with that element, where this much stands before them
abbrev pub path_steps_from : List Elem → List Elem → List (List Elem × Elem)
path_steps_from front [] = []
path_steps_from front (elem ∷ elems) =
    (front ++ elem ∷ [], elem) ∷ path_steps_from (front ++ elem ∷ []) elems

abbrev pub path_steps : List Elem → List (List Elem × Elem)
path_steps path = path_steps_from [] path

-- the fronts that are shorter than the path: the instances that it stands below, the root first
abbrev pub ancestors_from : List Elem → List Elem → List (List Elem)
ancestors_from front [] = []
ancestors_from front (elem ∷ elems) = front ∷ ancestors_from (front ++ elem ∷ []) elems

abbrev pub ancestors : List Elem → List (List Elem)
ancestors path = ancestors_from [] path

-- the path of the leaf with this name below the instance
abbrev pub child : List Elem → List ℕ → List Elem
child parent name = parent ++ record { name = name; keys = [] } ∷ []

-- the path without its last element
abbrev pub parent_of : List Elem → List Elem
parent_of [] = []
parent_of (elem ∷ []) = []
parent_of (elem ∷ other ∷ others) = elem ∷ parent_of (other ∷ others)

-- the names of a node's parent
abbrev pub parent_names : List (List ℕ) → List (List ℕ)
parent_names [] = []
parent_names (name ∷ []) = []
parent_names (name ∷ other ∷ others) = name ∷ parent_names (other ∷ others)

-- the name of the node itself
abbrev pub own_name : List (List ℕ) → List ℕ
own_name [] = []
own_name (name ∷ []) = name
own_name (name ∷ other ∷ others) = own_name (other ∷ others)

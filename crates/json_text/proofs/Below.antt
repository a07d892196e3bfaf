-- Rows below an instance, and their nodes.
use Rattle.std.proofs.Common.{◌≡◌, ℕ, ◌≤◌, List, [], ◌∷◌, ◌++◌, length, map, Bool, true, false, true≢false, Option, Some, None, Ordering, Less, Equal, Greater, bytes_eq, refl, sym, ap, subst, ◌∙◌, append_assoc}
use Rattle.std.specs.Prelude.{slice_get}
use Rattle.std.specs.List.{list_all}
use Rattle.std.specs.Ordering.{ordering_then}
use Rattle.std.specs.Cmp.Lexicographic.{slice_cmp}
use Rattle.std.proofs.lemmas.Bool.{and_parts}
use Rattle.std.proofs.lemmas.Cmp.{tied_itself}
use Rattle.std.proofs.lemmas.List.{map-append}
use Rattle.base_kinds.specs.declared.path.Elem.{Elem}
use Rattle.base_kinds.specs.declared.operation.Row.{Row}
use Rattle.base_kinds.specs.Paths.{path_cmp, text_cmp, key_cmp}
use Rattle.base_kinds.specs.Schema.{SchemaNode, names_of, same_names, node_of, node_at}
use Rattle.base_kinds.specs.Valid.{if_some, step_has_node, row_has_nodes, row_has_type, has_just_keys}
use Rattle.base_kinds.specs.Ancestors.{path_steps_from, path_steps}
use Rattle.history_laws.proofs.PathOrder.{elem_total}
use Rattle.json_text.specs.laws.Rows.{IsWhole, row_ordered, step_ordered, in_name_order}
use Rattle.schema_core.proofs.NodeLemmas.{same_decides}
use Rattle.json_text.proofs.Parts.{apart, equal_texts}

-- what passes the test for each front of a path passes it for the front that ends here
pub front_passes : (test : List Elem × Elem → Bool) (front here : List Elem) (elem : Elem) (rest : List Elem) → list_all test (path_steps_from front (here ++ elem ∷ rest)) ≡ true → test (front ++ (here ++ elem ∷ []), elem) ≡ true
front_passes test front [] elem rest all = (and_parts _ (list_all test (path_steps_from (front ++ elem ∷ []) rest)) all).0
front_passes test front (first ∷ here) elem rest all =
    let later = front_passes test (front ++ first ∷ []) here elem rest (and_parts (test (front ++ first ∷ [], first)) _ all).1 in
    subst (λ (path : List Elem). test (path, elem) ≡ true) (append_assoc front (first ∷ []) (here ++ elem ∷ [])) later

pub some_of : {A : Type 0} (found : Option A) (test : A → Bool) → if_some found test ≡ true → (a : A) × (found ≡ Some a) × (test a ≡ true)
some_of None test is = absurd (true≢false (sym is))
some_of (Some a) test is = (a, refl, is)

pub names_below : (here : List Elem) (elem : Elem) → names_of (here ++ elem ∷ []) ≡ names_of here ++ elem.name ∷ []
names_below here elem = map-append (λ (e : Elem). e.name) here (elem ∷ [])

pub get_seam : (here : List Elem) (elem : Elem) (rest : List Elem) → slice_get (here ++ elem ∷ rest) (length here) ≡ Some elem
get_seam [] elem rest = refl
get_seam (first ∷ here) elem rest = get_seam here elem rest

pub prefix_cmp : (here xs ys : List Elem) → path_cmp (here ++ xs) (here ++ ys) ≡ path_cmp xs ys
prefix_cmp [] xs ys = refl
prefix_cmp (e ∷ here) xs ys = ap (λ o. ordering_then o (path_cmp (here ++ xs) (here ++ ys))) (tied_itself elem_total e) ∙ prefix_cmp here xs ys

name_at : (o : Ordering) (a b : List ℕ) (keys rest : Ordering) → text_cmp a b ≡ o → bytes_eq a b ≡ false → ordering_then (ordering_then o keys) rest ≡ Less → o ≡ Less
name_at Less a b keys rest is differ less = refl
name_at Equal a b keys rest is differ less = absurd (apart a b differ (equal_texts a b is))
name_at Greater a b keys rest is differ less = less

-- of two rows in order below an instance, names that differ are in order
pub names_rise : (here : List Elem) (a b : Elem) (xs ys : List Elem) → path_cmp (here ++ a ∷ xs) (here ++ b ∷ ys) ≡ Less → bytes_eq a.name b.name ≡ false → text_cmp a.name b.name ≡ Less
names_rise here a b xs ys less differ =
    name_at (text_cmp a.name b.name) a.name b.name (slice_cmp key_cmp a.keys b.keys) (path_cmp xs ys) refl differ (sym (prefix_cmp here (a ∷ xs) (b ∷ ys)) ∙ less)

module _ (schema : List SchemaNode) where
  -- a row of a valid tree, at most so many levels below the instance
  pub record Good (levels : ℕ) (here : List Elem) (row : Row) : Type 0 where
    pub elem : Elem
    pub rest : List Elem
    pub is : row.path ≡ here ++ elem ∷ rest
    pub short : length (elem ∷ rest) ≤ levels
    pub known : row_has_nodes schema row ≡ true
    pub shaped : row_has_type schema row ≡ true
    pub ordered : row_ordered schema row ≡ true
    pub kept : IsWhole row.value

  module _ (levels : ℕ) (here : List Elem) (row : Row) (good : Good levels here row) where
    pub record NodeBelow : Type 0 where
      pub node : SchemaNode
      pub found : node_of schema (names_of here ++ good.elem.name ∷ []) ≡ Some node
      pub just : has_just_keys good.elem node.keys ≡ true

    pub first_is : slice_get row.path (length here) ≡ Some good.elem
    first_is = ap (λ (path : List Elem). slice_get path (length here)) good.is ∙ get_seam here good.elem good.rest

    nodes_exist : list_all (step_has_node schema) (path_steps (here ++ good.elem ∷ good.rest)) ≡ true
    nodes_exist = subst (λ (path : List Elem). list_all (step_has_node schema) (path_steps path) ≡ true) good.is (and_parts _ (list_all (step_has_node schema) (path_steps row.path)) good.known).1

    pub node_below : NodeBelow
    node_below =
        let there = some_of (node_at schema (here ++ good.elem ∷ [])) (λ node. has_just_keys good.elem node.keys) (front_passes (step_has_node schema) [] here good.elem good.rest nodes_exist) in
        record { node = there.0; found = ap (node_of schema) (sym (names_below here good.elem)) ∙ there.1; just = there.2 }

    pub keys_ordered : (node : SchemaNode) → node_of schema (names_of here ++ good.elem.name ∷ []) ≡ Some node → map (λ (key : List ℕ × List ℕ). key.0) good.elem.keys ≡ in_name_order [] node.keys
    keys_ordered node found =
        let all = subst (λ (path : List Elem). list_all (step_ordered schema) (path_steps path) ≡ true) good.is good.ordered in
        let test = front_passes (step_ordered schema) [] here good.elem good.rest all in
        let at : node_at schema (here ++ good.elem ∷ []) ≡ Some node = ap (node_of schema) (names_below here good.elem) ∙ found in
        (same_decides _ _).0 (sym (ap (λ (o : Option SchemaNode). if_some o (λ n. same_names (map (λ (key : List ℕ × List ℕ). key.0) good.elem.keys) (in_name_order [] n.keys))) at) ∙ test)

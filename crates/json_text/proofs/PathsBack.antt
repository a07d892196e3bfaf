-- The JSON at the path of a container, of a leaf or of a leaf-list means its rows.
use Rattle.std.proofs.Common.{◌≡◌, ℕ, ◌+◌, ◌-◌, List, [], ◌∷◌, ◌++◌, length, take, Bool, true, false, true≢false, cond, Option, Some, None, Ok, refl, sym, ap, ◌∙◌, arith}
use Rattle.std.specs.Prelude.{slice_get}
use Rattle.std.proofs.lemmas.List.{length-append}
use Rattle.std.proofs.Math.Seq.{take-append_seam}
use Rattle.serde_json.specs.Data.{Data, object}
use Rattle.base_kinds.specs.declared.path.Elem.{Elem}
use Rattle.base_kinds.specs.declared.operation.Row.{Row}
use Rattle.base_kinds.specs.declared.schema.Sort.{Sort}
use Rattle.base_kinds.specs.declared.schema.Sort.TheVariants as sorts
use Rattle.base_kinds.specs.Schema.{SchemaNode, names_of, node_of, node_at}
use Rattle.base_kinds.specs.Valid.{is_leafy, row_has_type}
use Rattle.base_lists.specs.Results.{and_then}
use Rattle.json_rows.specs.Walk.{below, rows_at_node, rows_of_members}
use Rattle.json_rows.specs.Rows.{rows_by_path, is_entry, rows_of_entry, rows_at_node_of_path, rows_at_path, rows_of_walk, rows_of_data}
use Rattle.schema_core.specs.WellFormed.{IsWellFormed}
use Rattle.json_text.specs.laws.ReadBack.{ContainersReadBack, ScalarsReadBack}
use Rattle.json_text.specs.laws.Rows.{IsWhole, IsPart}
use Rattle.json_text.specs.Trees.{members_data, node_data, value_data, value_at_node, ends_plain, json_data}
use Rattle.base_kinds.specs.Limits.{most_elements}
use Rattle.json_text.proofs.Lasts.{ends_plain-last}
use Rattle.json_text.proofs.Below.{get_seam, names_below}
use Rattle.json_text.proofs.NodesBack.{none_of, taken_there, leaf_row_back, leaf_list_row_back}
use Rattle.json_text.proofs.Levels.{object_back}
use Rattle.json_text.proofs.TreesBack.{all_good, all_keyed_behind, ordered}

pub record Last (path : List Elem) : Type 0 where
  pub front : List Elem
  pub last : Elem
  pub is : path ≡ front ++ last ∷ []

pub last_of : (elem : Elem) (elems : List Elem) → Last (elem ∷ elems)
last_of elem [] = record { front = []; last = elem; is = refl }
last_of elem (other ∷ others) = let later = last_of other others in record { front = elem ∷ later.front; last = later.last; is = ap (λ (p : List Elem). elem ∷ p) later.is }

module _ (schema : List SchemaNode) (elem : Elem) (elems : List Elem) (node : SchemaNode) (at : node_at schema (elem ∷ elems) ≡ Some node) (plain : ends_plain (elem ∷ elems) ≡ true) where
  abbrev path : List Elem
  path = elem ∷ elems

  abbrev there : Last path
  there = last_of elem elems

  abbrev inside : List Row → Rattle.serde_json.specs.Data.Members
  inside = members_data most_elements schema None (names_of path) (length path)

  place_is : length path - 1 ≡ length there.front
  place_is =
      let whole : length path ≡ length (there.front ++ there.last ∷ []) = ap length there.is in
      let parts : length (there.front ++ there.last ∷ []) ≡ length there.front + 1 = length-append there.front (there.last ∷ []) in
      omega (arith, whole, parts)

  get_is : slice_get path (length path - 1) ≡ Some there.last
  get_is = ap (slice_get path) place_is ∙ ap (λ (p : List Elem). slice_get p (length there.front)) there.is ∙ get_seam there.front there.last []

  front_is : take (length path - 1) path ≡ there.front
  front_is = ap (λ (n : ℕ). take n path) place_is ∙ ap (λ (p : List Elem). take (length there.front) p) there.is ∙ take-append_seam there.front (there.last ∷ [])

  no_keys : there.last.keys ≡ []
  no_keys = none_of there.last.keys (sym (ends_plain-last there.front there.last) ∙ ap ends_plain (sym there.is) ∙ plain)

  last_plain : below there.front there.last.name [] ≡ path
  last_plain = ap (λ (ks : List (List ℕ × List ℕ)). below there.front there.last.name ks) (sym no_keys) ∙ sym there.is

  json_is : (rows : List Row) → json_data schema path rows ≡ node_data inside node.sort node.shape (length path - 1) rows
  json_is rows =
      ap (λ (o : Option SchemaNode). value_at_node inside o path rows) at
      ∙ ap (λ (t : Bool). cond t (node_data inside node.sort node.shape (length path - 1) rows) (object (inside rows))) plain

  walk_is : (sort : Sort) (json : Data) → node.sort ≡ sort → is_entry sort there.last.keys ≡ false → rows_of_walk schema path (Some json) ≡ rows_at_node sort schema node there.front there.last.name [] json
  walk_is sort json is entry =
      ap (λ (o : Option Elem). rows_at_path schema path o (Some json)) get_is ∙ ap (λ (o : Option SchemaNode). rows_at_node_of_path schema path there.last o (Some json)) at
      ∙ ap (λ (s : Sort). cond (is_entry s there.last.keys) (rows_of_entry schema node path there.last.keys json) (rows_at_node s schema node (take (length path - 1) path) there.last.name [] json)) is
      ∙ ap (λ (t : Bool). cond t (rows_of_entry schema node path there.last.keys json) (rows_at_node sort schema node (take (length path - 1) path) there.last.name [] json)) entry
      ∙ ap (λ (front : List Elem). rows_at_node sort schema node front there.last.name [] json) front_is

  container_path : (rows : List Row) → IsWellFormed schema → node.sort ≡ sorts.Container → IsPart schema path rows → rows_of_data schema path (Some (json_data schema path rows)) ≡ Ok rows
  container_path rows formed is part =
      let good = all_good schema path rows part.below part.known part.shaped part.ordered part.whole in
      let json : json_data schema path rows ≡ object (inside rows) = json_is rows ∙ ap (λ (s : Sort). node_data inside s node.shape (length path - 1) rows) is in
      ap (λ (d : Data). rows_of_data schema path (Some d)) json ∙ ap (λ answer. and_then answer rows_by_path) (walk_is sorts.Container (object (inside rows)) is refl)
      ∙ ap (λ (p : List Elem). and_then (rows_of_members schema p [] [] (inside rows)) rows_by_path) last_plain
      ∙ ordered schema path (inside rows) rows (object_back schema formed most_elements None path rows good part.rising (all_keyed_behind rows path rows part.keyed)) part.rising

  node_found : node_of schema (names_of there.front ++ there.last.name ∷ []) ≡ Some node
  node_found = ap (node_of schema) (sym (names_below there.front there.last) ∙ ap names_of (sym there.is)) ∙ at

  scalar_path : (row : Row) → IsWellFormed schema → row.path ≡ path → row_has_type schema row ≡ true → IsWhole row.value → (sort : Sort) → node.sort ≡ sort → is_leafy sort ≡ true → rows_of_data schema path (Some (json_data schema path (row ∷ []))) ≡ Ok (row ∷ [])
  scalar_path row formed own shaped whole sorts.Leaf is scalar =
      let below_is : row.path ≡ below there.front there.last.name [] = own ∙ sym last_plain in
      let taken = taken_there schema formed most_elements there.front row there.last.name node below_is node_found shaped in
      ap (λ (d : Data). rows_of_data schema path (Some d)) (json_is (row ∷ []) ∙ ap (λ (s : Sort). node_data inside s node.shape (length path - 1) (row ∷ [])) is)
      ∙ ap (λ answer. and_then answer rows_by_path) (walk_is sorts.Leaf (value_data node.shape (row ∷ [])) is refl ∙ leaf_row_back schema formed most_elements there.front row there.last.name node below_is whole is taken [])
  scalar_path row formed own shaped whole sorts.LeafList is scalar =
      let below_is : row.path ≡ below there.front there.last.name [] = own ∙ sym last_plain in
      let taken = taken_there schema formed most_elements there.front row there.last.name node below_is node_found shaped in
      ap (λ (d : Data). rows_of_data schema path (Some d)) (json_is (row ∷ []) ∙ ap (λ (s : Sort). node_data inside s node.shape (length path - 1) (row ∷ [])) is)
      ∙ ap (λ answer. and_then answer rows_by_path) (walk_is sorts.LeafList (value_data node.shape (row ∷ [])) is refl ∙ leaf_list_row_back schema formed most_elements there.front row there.last.name node below_is whole is taken [])
  scalar_path row formed own shaped whole _ is scalar = absurd (true≢false (sym scalar))

pub container_back_at : ContainersReadBack
container_back_at schema elem elems node rows formed at is plain part = container_path schema elem elems node at plain rows formed is part

pub scalar_back_at : ScalarsReadBack
scalar_back_at schema elem elems node row formed at is plain own shaped whole = scalar_path schema elem elems node at plain row formed own shaped whole node.sort refl is

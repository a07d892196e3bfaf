-- What is written for a leaf or a leaf-list of a tree is read as its row.
use Rattle.std.proofs.Common.{◌≡◌, ℕ, ◌==◌, ◌&&◌, List, [], ◌∷◌, ◌++◌, length, map, true, false, true≢false, cond, Option, Some, Ok, refl, sym, ap, subst, ◌∙◌, append_assoc, arith}
use Rattle.std.specs.List.{list_all, AllByRecursion}
use Rattle.std.proofs.lemmas.Bool.{and_parts, eqb-true}
use Rattle.serde_json.specs.Data.{Data, array}
use Rattle.serde_json.specs.View.{items_of}
use Rattle.base_kinds.specs.declared.path.Elem.{Elem}
use Rattle.base_kinds.specs.declared.operation.Row.{Row}
use Rattle.base_kinds.specs.declared.schema.Shape.{Shape}
use Rattle.base_kinds.specs.declared.schema.Shape.TheVariants as shapes
use Rattle.base_kinds.specs.declared.schema.Sort.TheVariants as sorts
use Rattle.base_kinds.specs.declared.value.Value.{Value}
use Rattle.base_kinds.specs.declared.value.Value as v
use Rattle.base_kinds.specs.declared.value.Value.TheOpen.{Value-F}
use Rattle.base_kinds.specs.declared.value.Value.TheOpen as opened
use Rattle.base_kinds.specs.declared.value.Value.TheViews.{roll-Value, out-Value, roll-out-Value}
use Rattle.base_kinds.specs.declared.value.Value.TheVariants as values
use Rattle.base_kinds.specs.Schema.{SchemaNode, names_of, node_of, node_at}
use Rattle.base_kinds.specs.Valid.{if_some, step_has_node, row_has_type, has_type, has_just_keys}
use Rattle.base_kinds.specs.Ancestors.{path_steps}
use Rattle.base_kinds.specs.Values.{is_list, values_in, has_shape, all_differ}
use Rattle.base_kinds.proofs.Lists.{values_in-List}
use Rattle.schema_core.specs.Nodes.{is_inner}
use Rattle.json_rows.specs.Leaves.{leaf_at, values_from}
use Rattle.json_rows.specs.Walk.{below, rows_with_leaf, rows_with_leaf_list, rows_at_node}
use Rattle.json_text.specs.Leaves.{scalar_data, leaf_data}
use Rattle.schema_core.specs.WellFormed.{is_list_node, IsWellFormed}
use Rattle.schema_core.proofs.WellFormedLemmas.{formed_node, inner_above}
use Rattle.json_text.specs.laws.Rows.{IsWhole, IsScalarOf, IsPlainScalar}
use Rattle.json_text.specs.Trees.{value_data}
use Rattle.json_text.proofs.LeavesBack.{leaf_back, leaf_list_back}
use Rattle.json_text.proofs.Below.{Good, front_passes, some_of, names_below}

-- ---- values

shaped_alone : (shape : Shape) (value : Value) → has_shape shape value ≡ true → is_list value ≡ false
shaped_alone shapes.Bool (v.List' n rows) e = absurd (true≢false (sym e))
shaped_alone _ (v.Bool b) e = refl
shaped_alone _ (v.Int b) e = refl
shaped_alone _ (v.Uint b) e = refl
shaped_alone _ (v.Dec b p) e = refl
shaped_alone _ (v.Text b) e = refl
shaped_alone _ (v.Bin b) e = refl
shaped_alone _ (v.Enum b) e = refl
shaped_alone _ (v.List' n rows) e = absurd (true≢false (sym e))

back_layer : (layer : Value-F Value) → is_list (roll-Value layer) ≡ true → values.List (values_in (roll-Value layer)) ≡ roll-Value layer
unfolding roll-Value denote.Hole.Carrier.roll
back_layer (opened.List vs) e = ap (λ (x : Value). values.List (values_in x)) (values.rolls-List vs) ∙ ap values.List (values_in-List vs) ∙ sym (values.rolls-List vs)
back_layer (opened.Bool b) e = absurd (true≢false (sym e ∙ sym (ap is_list (values.rolls-Bool b))))
back_layer (opened.Int b) e = absurd (true≢false (sym e ∙ sym (ap is_list (values.rolls-Int b))))
back_layer (opened.Uint b) e = absurd (true≢false (sym e ∙ sym (ap is_list (values.rolls-Uint b))))
back_layer (opened.Dec b p) e = absurd (true≢false (sym e ∙ sym (ap is_list (values.rolls-Dec b p))))
back_layer (opened.Text b) e = absurd (true≢false (sym e ∙ sym (ap is_list (values.rolls-Text b))))
back_layer (opened.Bin b) e = absurd (true≢false (sym e ∙ sym (ap is_list (values.rolls-Bin b))))
back_layer (opened.Enum b) e = absurd (true≢false (sym e ∙ sym (ap is_list (values.rolls-Enum b))))

-- a list is that of its values
pub list_again : (value : Value) → is_list value ≡ true → values.List (values_in value) ≡ value
list_again value e = subst (λ (x : Value). is_list x ≡ true → values.List (values_in x) ≡ x) (roll-out-Value value) (back_layer (out-Value value)) e

scalars_of : (shape : Shape) (xs : List Value) → list_all (has_shape shape) xs ≡ true → AllByRecursion IsPlainScalar xs → AllByRecursion (IsScalarOf shape) xs
scalars_of shape [] shaped plain = tt
scalars_of shape (x ∷ xs) shaped plain =
    let parts = and_parts (has_shape shape x) (list_all (has_shape shape) xs) shaped in
    (record { shaped = parts.0; plain = plain.0 }, scalars_of shape xs parts.1 plain.1)

pub none_of : {A : Type 0} (xs : List A) → (length xs == 0) ≡ true → xs ≡ []
none_of [] e = refl
none_of (x ∷ xs) e = absurd (let no : length (x ∷ xs) ≡ 0 = eqb-true (length (x ∷ xs)) 0 e in omega arith)

-- ---- rows

module _ (schema : List SchemaNode) (formed : IsWellFormed schema) (levels : ℕ) (here : List Elem) where
  pub plain_keys : (elem : Elem) (node : SchemaNode) → node_of schema (names_of here ++ elem.name ∷ []) ≡ Some node → is_list_node node ≡ false → has_just_keys elem node.keys ≡ true → elem.keys ≡ []
  plain_keys elem node found plain just =
      let none : node.keys ≡ [] = (formed_node schema formed _ node found).keyless plain in
      none_of elem.keys (ap (λ (ks : List (List ℕ)). length elem.keys == length ks) (sym none) ∙ (and_parts (length elem.keys == length node.keys) _ just).0)

  rest_none : (elem : Elem) (rest : List Elem) (row : Row) (node : SchemaNode) → row.path ≡ here ++ elem ∷ rest → list_all (step_has_node schema) (path_steps row.path) ≡ true → node_of schema (names_of here ++ elem.name ∷ []) ≡ Some node → is_inner node.sort ≡ false → rest ≡ []
  rest_none elem [] row node is known found outer = refl
  rest_none elem (x ∷ rest) row node is known found outer =
      let path : here ++ elem ∷ x ∷ rest ≡ (here ++ elem ∷ []) ++ x ∷ rest = sym (append_assoc here (elem ∷ []) (x ∷ rest)) in
      let all = subst (λ (p : List Elem). list_all (step_has_node schema) (path_steps p) ≡ true) (is ∙ path) known in
      let there = some_of (node_at schema ((here ++ elem ∷ []) ++ x ∷ [])) (λ n. has_just_keys x n.keys) (front_passes (step_has_node schema) [] (here ++ elem ∷ []) x rest all) in
      let names : names_of ((here ++ elem ∷ []) ++ x ∷ []) ≡ (names_of here ++ elem.name ∷ []) ++ x.name ∷ [] = names_below (here ++ elem ∷ []) x ∙ ap (λ (ns : List (List ℕ)). ns ++ x.name ∷ []) (names_below here elem) in
      absurd (true≢false (sym (inner_above schema formed _ x.name node there.0 found (ap (node_of schema) (sym names) ∙ there.1)) ∙ outer))

  -- the row's path, where its node is a leaf or a leaf-list
  pub leaf_path : (row : Row) (good : Good schema levels here row) (node : SchemaNode) → node_of schema (names_of here ++ good.elem.name ∷ []) ≡ Some node → has_just_keys good.elem node.keys ≡ true → is_inner node.sort ≡ false → is_list_node node ≡ false
      → row.path ≡ below here good.elem.name []
  leaf_path row good node found just outer plain =
      let known = (and_parts _ (list_all (step_has_node schema) (path_steps row.path)) good.known).1 in
      good.is ∙ ap (λ (rest : List Elem). here ++ good.elem ∷ rest) (rest_none good.elem good.rest row node good.is known found outer)
      ∙ ap (λ (ks : List (List ℕ × List ℕ)). here ++ record { name = good.elem.name; keys = ks } ∷ []) (plain_keys good.elem node found plain just)

  -- what the node has for a value
  pub record Taken (node : SchemaNode) (value : Value) : Type 0 where
    pub shape : Shape
    pub is : node.shape ≡ Some shape
    pub taken : has_type node.sort shape value ≡ true

  pub taken_there : (row : Row) (name : List ℕ) (node : SchemaNode) → row.path ≡ below here name [] → node_of schema (names_of here ++ name ∷ []) ≡ Some node → row_has_type schema row ≡ true → Taken node row.value
  taken_there row name node path found shaped =
      let elem : Elem = record { name = name; keys = [] } in
      let at : node_at schema row.path ≡ Some node = ap (node_at schema) path ∙ ap (node_of schema) (names_below here elem) ∙ found in
      let here_shaped = subst (λ (o : Option SchemaNode). if_some o (λ n. if_some n.shape (λ shape. has_type n.sort shape row.value)) ≡ true) at shaped in
      let shape = some_of node.shape (λ s. has_type node.sort s row.value) here_shaped in
      record { shape = shape.0; is = shape.1; taken = shape.2 }

  row_again : (row : Row) (name : List ℕ) → row.path ≡ below here name [] → (value : Value) → value ≡ row.value → record { path = below here name []; value = value } ≡ row
  row_again row name path value same = ap (λ (w : Value). record { path = below here name []; value = w }) same ∙ ap (λ (p : List Elem). record { path = p; value = row.value }) (sym path)

  pub leaf_row_back : (row : Row) (name : List ℕ) (node : SchemaNode) → row.path ≡ below here name [] → IsWhole row.value → node.sort ≡ sorts.Leaf → Taken node row.value → (before : List Row)
      → rows_at_node sorts.Leaf schema node here name before (value_data node.shape (row ∷ [])) ≡ Ok (before ++ row ∷ [])
  leaf_row_back row name node path whole sort taken before =
      let shape = taken.shape in
      let fit : has_shape shape row.value ≡ true = ap (λ s. has_type s shape row.value) (sym sort) ∙ taken.taken in
      let alone = shaped_alone shape row.value fit in
      let plain : leaf_data shape row.value ≡ scalar_data shape row.value = ap (λ t. cond t (array (items_of (map (scalar_data shape) (values_in row.value)))) (scalar_data shape row.value)) alone in
      ap (λ (o : Option Shape). rows_with_leaf (below here name []) before (leaf_at o (value_data o (row ∷ [])))) taken.is
      ∙ ap (λ d. rows_with_leaf (below here name []) before (leaf_at (Some shape) d)) plain
      ∙ ap (rows_with_leaf (below here name []) before) (leaf_back shape row.value (record { shaped = fit; plain = whole.alone alone }))
      ∙ ap (λ (r : Row). Ok (before ++ r ∷ [])) (row_again row name path row.value refl)

  pub leaf_value_back : (row : Row) (others : List Row) (node : SchemaNode) → IsWhole row.value → node.sort ≡ sorts.Leaf → Taken node row.value → leaf_at node.shape (value_data node.shape (row ∷ others)) ≡ Some row.value
  leaf_value_back row others node whole sort taken =
      let shape = taken.shape in
      let fit : has_shape shape row.value ≡ true = ap (λ s. has_type s shape row.value) (sym sort) ∙ taken.taken in
      let alone = shaped_alone shape row.value fit in
      let plain : leaf_data shape row.value ≡ scalar_data shape row.value = ap (λ t. cond t (array (items_of (map (scalar_data shape) (values_in row.value)))) (scalar_data shape row.value)) alone in
      ap (λ (o : Option Shape). leaf_at o (value_data o (row ∷ others))) taken.is ∙ ap (λ (d : Data). leaf_at (Some shape) d) plain ∙ leaf_back shape row.value (record { shaped = fit; plain = whole.alone alone })

  some_told : (xs : List Value) (place : List Elem) (before : List Row) → (xs ≡ [] → ⊥) → rows_with_leaf_list place before (Some xs) ≡ Ok (before ++ record { path = place; value = values.List xs } ∷ [])
  some_told [] place before some = absurd (some refl)
  some_told (x ∷ xs) place before some = refl

  pub leaf_list_row_back : (row : Row) (name : List ℕ) (node : SchemaNode) → row.path ≡ below here name [] → IsWhole row.value → node.sort ≡ sorts.LeafList → Taken node row.value → (before : List Row)
      → rows_at_node sorts.LeafList schema node here name before (value_data node.shape (row ∷ [])) ≡ Ok (before ++ row ∷ [])
  leaf_list_row_back row name node path whole sort taken before =
      let shape = taken.shape in
      let place = below here name [] in
      let vs = values_in row.value in
      let items = items_of (map (scalar_data shape) vs) in
      let fit : has_type sorts.LeafList shape row.value ≡ true = ap (λ s. has_type s shape row.value) (sym sort) ∙ taken.taken in
      let parts = and_parts (is_list row.value && list_all (has_shape shape) vs) (all_differ vs) fit in
      let listed = and_parts (is_list row.value) (list_all (has_shape shape) vs) parts.0 in
      let many : leaf_data shape row.value ≡ array items = ap (λ t. cond t (array items) (scalar_data shape row.value)) listed.0 in
      ap (λ (o : Option Shape). rows_at_node sorts.LeafList schema node here name before (value_data o (row ∷ []))) taken.is
      ∙ ap (rows_at_node sorts.LeafList schema node here name before) many
      ∙ ap (λ (o : Option Shape). rows_with_leaf_list place before (values_from o [] items)) taken.is
      ∙ ap (rows_with_leaf_list place before) (leaf_list_back shape vs (scalars_of shape vs listed.1 whole.inside) parts.1)
      ∙ some_told vs place before (whole.some listed.0)
      ∙ ap (λ (r : Row). Ok (before ++ r ∷ [])) (row_again row name path (values.List vs) (list_again row.value listed.0))

-- The JSON of a valid tree, or of what stands at or below a path, means its rows.
use Rattle.std.proofs.Common.{◌≡◌, ℕ, ◌==◌, ◌||◌, List, [], ◌∷◌, ◌++◌, length, Bool, true, false, true≢false, cond, inl, inr, Option, Some, None, Less, Equal, append_assoc, append-nil, refl, sym, ap, ◌∙◌, subst, arith}
use Rattle.std.specs.List.{AllByRecursion, list_all, list_any}
use Rattle.std.specs.List.Sorted.{IsStrictlySortedBy}
use Rattle.std.proofs.lemmas.Bool.{and_parts, eqb-true}
use Rattle.std.proofs.lemmas.Cmp.{tied_itself}
use Rattle.std.proofs.lemmas.List.Kept.{IsStrictlySortedBy-filter}
use Rattle.base_kinds.specs.declared.path.Elem.{Elem}
use Rattle.base_kinds.specs.declared.operation.Row.{Row}
use Rattle.base_kinds.specs.declared.schema.Sort.{Sort}
use Rattle.base_kinds.specs.declared.schema.Sort.TheVariants as sorts
use Rattle.base_kinds.specs.Match.{covers}
use Rattle.base_kinds.specs.Paths.{path_cmp, same_path}
use Rattle.base_kinds.specs.Parts.{is_covered, part}
use Rattle.base_kinds.specs.Legal.{is_fit_elem, is_fit_path, is_fit_value}
use Rattle.base_kinds.specs.Schema.{SchemaNode, names_of, node_of, node_at}
use Rattle.base_kinds.specs.Valid.{if_some, has_key_leaf, row_has_type, is_leafy, has_just_keys, step_has_node}
use Rattle.base_kinds.specs.Ancestors.{path_steps}
use Rattle.base_kinds.specs.Rising.{row_cmp, IsRising}
use Rattle.history_laws.proofs.PathOrder.{path_total}
use Rattle.history_laws.proofs.Values.{paths_equal as is_path_same}
use Rattle.schema_core.specs.Nodes.{is_inner}
use Rattle.schema_core.specs.WellFormed.{is_list_sort, is_list_node, IsWellFormed}
use Rattle.schema_core.proofs.WellFormedLemmas.{no_root, formed_node, inner_above}
use Rattle.json_text.specs.laws.ReadBack.{ReadsBack}
use Rattle.json_text.specs.laws.Rows.{IsWhole, IsPart}
use Rattle.json_text.specs.laws.ValidTrees.{is_plain_elem, IsWholeTree, IsInstance, IsRowPath, ValidTreesReadBack}
use Rattle.json_text.specs.Trees.{ends_plain}
use Rattle.json_text.proofs.Below.{front_passes, some_of, names_below}
use Rattle.json_text.proofs.EntryPaths.{entry_back_at, no_entry_back_at}
use Rattle.json_text.proofs.KeysBack.{either_true}
use Rattle.json_text.proofs.Lasts.{ends_plain-last}
use Rattle.json_text.proofs.PathsBack.{last_of, container_back_at, scalar_back_at}
use Rattle.json_text.proofs.Picks.{all_in}
use Rattle.json_text.proofs.TreesBack.{any_in, tree_back}
use Rattle.json_text.proofs.ValidParts.{IsGood, all_rows_good, tree_is_part, instance_is_part, all_kept, any_kept, kept_pass, behind, covered_below, rest_of, leaves_kept, no_inner_leaf}

-- ---- the root

root_covers : (path : List Elem) → covers [] path ≡ true
root_covers [] = refl
root_covers (elem ∷ elems) = refl

all_at_root : (rows : List Row) → part ([] ∷ []) rows ≡ rows
all_at_root [] = refl
all_at_root (row ∷ rows) =
    ap (λ (t : Bool). cond (t || false) (row ∷ part ([] ∷ []) rows) (part ([] ∷ []) rows)) (root_covers row.path) ∙ ap (λ (others : List Row). row ∷ others) (all_at_root rows)

root_back : (schema : List SchemaNode) (tree : List Row) → IsWellFormed schema → IsWholeTree schema tree → ReadsBack schema [] (part ([] ∷ []) tree)
root_back schema tree formed is = subst (ReadsBack schema []) (sym (all_at_root tree)) (tree_back schema tree formed (tree_is_part schema tree formed is))

-- ---- the keys of the last element

none_equal : {A B : Type 0} (xs : List A) (ys : List B) → (length xs == length ys) ≡ true → (ys ≡ [] → ⊥) → (length xs == 0) ≡ false
none_equal xs [] same some = absurd (some refl)
none_equal [] (y ∷ ys) same some = absurd (let no : 0 ≡ length (y ∷ ys) = eqb-true 0 (length (y ∷ ys)) same in omega arith)
none_equal (x ∷ xs) (y ∷ ys) same some = grind arith

module _ (schema : List SchemaNode) (formed : IsWellFormed schema) (above : List Elem) (last : Elem) (node : SchemaNode) (found : node_at schema (above ++ last ∷ []) ≡ Some node) (known : list_all (step_has_node schema) (path_steps (above ++ last ∷ [])) ≡ true) where
  just_keys : has_just_keys last node.keys ≡ true
  just_keys = sym (ap (λ (o : Option SchemaNode). if_some o (λ n. has_just_keys last n.keys)) found) ∙ front_passes (step_has_node schema) [] above last [] known

  as_many : (length last.keys == length node.keys) ≡ true
  as_many = (and_parts (length last.keys == length node.keys) _ just_keys).0

  plain_last : is_list_node node ≡ false → ends_plain (above ++ last ∷ []) ≡ true
  plain_last outer = ends_plain-last above last ∙ ap (λ (keys : List (List ℕ)). length last.keys == length keys) (sym ((formed_node schema formed (names_of (above ++ last ∷ [])) node found).keyless outer)) ∙ as_many

  keyed_last : is_list_node node ≡ true → ends_plain (above ++ last ∷ []) ≡ false
  keyed_last list = ends_plain-last above last ∙ none_equal last.keys node.keys as_many ((formed_node schema formed (names_of (above ++ last ∷ [])) node found).keyed list)

plain_end : (schema : List SchemaNode) → IsWellFormed schema → (elem : Elem) (elems : List Elem) (node : SchemaNode) → node_at schema (elem ∷ elems) ≡ Some node → list_all (step_has_node schema) (path_steps (elem ∷ elems)) ≡ true → is_list_node node ≡ false → ends_plain (elem ∷ elems) ≡ true
plain_end schema formed elem elems node found known outer =
    let there = last_of elem elems in
    let known_there = subst (λ (p : List Elem). list_all (step_has_node schema) (path_steps p) ≡ true) there.is known in
    ap ends_plain there.is ∙ plain_last schema formed there.front there.last node (ap (node_at schema) (sym there.is) ∙ found) known_there outer

-- ---- a container or an entry

module _ (schema : List SchemaNode) (tree : List Row) (formed : IsWellFormed schema) (is : IsWholeTree schema tree) where
  -- where some row stands below an entry, the entry has its key leaves
  entry_leaves : (above : List Elem) (entry : Elem) (instance : IsInstance schema (above ++ entry ∷ [])) (row : Row) → is_covered ((above ++ entry ∷ []) ∷ []) row.path ≡ true → IsGood schema tree row
      → list_all (has_key_leaf (part ((above ++ entry ∷ []) ∷ []) tree) (above ++ entry ∷ [])) entry.keys ≡ true
  entry_leaves above entry instance row covered good =
      let here = above ++ entry ∷ [] in
      let rest = rest_of schema tree here instance row covered good in
      let path : row.path ≡ above ++ entry ∷ rest.0 = rest.1 ∙ append_assoc above (entry ∷ []) rest.0 in
      let all = subst (λ (p : List Elem). list_all (λ step. list_all (has_key_leaf tree step.0) step.1.keys) (path_steps p) ≡ true) path good.keyed in
      leaves_kept tree here instance.plain here [] entry.keys (sym (append-nil here)) (front_passes (λ step. list_all (has_key_leaf tree step.0) step.1.keys) [] above entry rest.0 all)

  entry_at : (above : List Elem) (entry : Elem) (node : SchemaNode) (rows : List Row) → node_at schema (above ++ entry ∷ []) ≡ Some node → node.sort ≡ sorts.List → ends_plain (above ++ entry ∷ []) ≡ false → IsPart schema (above ++ entry ∷ []) rows
      → AllByRecursion (λ row. list_all (has_key_leaf rows (above ++ entry ∷ [])) entry.keys ≡ true) rows → ReadsBack schema (above ++ entry ∷ []) rows
  entry_at above entry node [] found list keyed below leaves = (no_entry_back_at schema above entry node formed found list keyed).1
  entry_at above entry node (row ∷ others) found list keyed below leaves = entry_back_at schema above entry node (row ∷ others) formed found list keyed below leaves.0

  entry_back : (above : List Elem) (entry : Elem) (instance : IsInstance schema (above ++ entry ∷ [])) → instance.node.sort ≡ sorts.List → ReadsBack schema (above ++ entry ∷ []) (part ((above ++ entry ∷ []) ∷ []) tree)
  entry_back above entry instance list =
      let here = above ++ entry ∷ [] in
      let keep : Row → Bool = λ row. is_covered (here ∷ []) row.path in
      let leaves = all_kept (IsGood schema tree) (λ row. list_all (has_key_leaf (part (here ∷ []) tree) here) entry.keys ≡ true) keep tree (entry_leaves above entry instance) (all_rows_good schema tree formed is) in
      entry_at above entry instance.node (part (here ∷ []) tree) instance.found list (keyed_last schema formed above entry instance.node instance.found instance.known (ap is_list_sort list)) (instance_is_part schema tree here formed is instance) leaves

  entry_there : (here above : List Elem) (entry : Elem) → here ≡ above ++ entry ∷ [] → (instance : IsInstance schema here) → instance.node.sort ≡ sorts.List → ReadsBack schema here (part (here ∷ []) tree)
  entry_there here above entry at instance list =
      let there : IsInstance schema (above ++ entry ∷ []) =
      record {
        node = instance.node;
        found = ap (node_at schema) (sym at) ∙ instance.found;
        inner = instance.inner;
        plain = subst (λ (p : List Elem). list_all is_plain_elem p ≡ true) at instance.plain;
        fit = subst (λ (p : List Elem). list_all is_fit_elem p ≡ true) at instance.fit;
        known = subst (λ (p : List Elem). list_all (step_has_node schema) (path_steps p) ≡ true) at instance.known;
      } in
      subst (λ (p : List Elem). ReadsBack schema p (part (p ∷ []) tree)) (sym at) (entry_back above entry there list)

  instance_of : (elem : Elem) (elems : List Elem) (instance : IsInstance schema (elem ∷ elems)) (sort : Sort) → instance.node.sort ≡ sort → is_inner sort ≡ true → ReadsBack schema (elem ∷ elems) (part ((elem ∷ elems) ∷ []) tree)
  instance_of elem elems instance sorts.Container at inner =
      let plain = plain_end schema formed elem elems instance.node instance.found instance.known (ap is_list_sort at) in
      container_back_at schema elem elems instance.node (part ((elem ∷ elems) ∷ []) tree) formed instance.found at plain (instance_is_part schema tree (elem ∷ elems) formed is instance)
  instance_of elem elems instance sorts.List at inner = let there = last_of elem elems in entry_there (elem ∷ elems) there.front there.last there.is instance at
  instance_of elem elems instance _ at inner = absurd (true≢false (sym inner))

  no_root_node : {G : Type 0} (node : SchemaNode) → node_of schema [] ≡ Some node → G
  no_root_node node found = absurd (let no : None ≡ Some node = sym (no_root schema formed) ∙ found in cc)

  instance_back : (here : List Elem) → IsInstance schema here → ReadsBack schema here (part (here ∷ []) tree)
  instance_back [] instance = no_root_node instance.node instance.found
  instance_back (elem ∷ elems) instance = instance_of elem elems instance instance.node.sort refl instance.inner

  -- ---- a leaf or a leaf-list

  record IsLeafPath (here : List Elem) : Type 0 where
    node : SchemaNode
    found : node_at schema here ≡ Some node
    leafy : is_leafy node.sort ≡ true
    fit : list_all is_fit_elem here ≡ true
    known : list_all (step_has_node schema) (path_steps here) ≡ true

  leaf_path : (row : Row) → IsGood schema tree row → IsLeafPath row.path
  leaf_path row good =
      let path = (and_parts (is_fit_path row.path) (is_fit_value row.value) good.fit).0 in
      let known = and_parts (if_some (node_at schema row.path) (λ node. is_leafy node.sort)) (list_all (step_has_node schema) (path_steps row.path)) good.known in
      let there = some_of (node_at schema row.path) (λ node. is_leafy node.sort) known.0 in
      record { node = there.0; found = there.1; leafy = there.2; fit = (and_parts _ (list_all is_fit_elem row.path) path).1; known = known.1 }

  leaf_path_there : (here : List Elem) → IsRowPath tree here → IsLeafPath here
  leaf_path_there here at =
      let row = any_in (λ row. same_path row.path here) tree at.there in
      let good = all_in (IsGood schema tree) row.0 tree (all_rows_good schema tree formed is) row.1 in
      subst IsLeafPath (is_path_same row.0.path here row.2) (leaf_path row.0 good)

  module _ (here : List Elem) (plain : list_all is_plain_elem here ≡ true) (leaf : IsLeafPath here) where
    -- no row stands below a leaf
    none_below : (rest path : List Elem) → path ≡ here ++ rest → list_all (step_has_node schema) (path_steps path) ≡ true → path ≡ here
    none_below [] path at known = at ∙ append-nil here
    none_below (elem ∷ rest) path at known =
        let all = subst (λ (p : List Elem). list_all (step_has_node schema) (path_steps p) ≡ true) at known in
        let below = some_of (node_at schema (here ++ elem ∷ [])) (λ node. has_just_keys elem node.keys) (front_passes (step_has_node schema) [] here elem rest all) in
        let inner = inner_above schema formed (names_of here) elem.name leaf.node below.0 leaf.found (ap (node_of schema) (sym (names_below here elem)) ∙ below.1) in
        absurd (no_inner_leaf leaf.node.sort inner leaf.leafy)

    just_here : (row : Row) → is_covered (here ∷ []) row.path ≡ true → IsGood schema tree row → row.path ≡ here
    just_here row covered good =
        let own = leaf_path row good in
        let one : covers here row.path ≡ true = elim (either_true (covers here row.path) false covered) [ inl w ↦ w | inr w ↦ absurd (true≢false (sym w)) ] in
        let rest = behind schema [] here row.path plain leaf.fit own.fit leaf.known own.known one in
        none_below rest.0 row.path rest.1 own.known

  outer_sort : (sort : Sort) → is_leafy sort ≡ true → is_list_sort sort ≡ false
  outer_sort sorts.Leaf leafy = refl
  outer_sort sorts.LeafList leafy = refl
  outer_sort sorts.Container leafy = refl
  outer_sort sorts.List leafy = absurd (true≢false (sym leafy))

  row_back : (here : List Elem) (row : Row) → IsLeafPath here → row.path ≡ here → row_has_type schema row ≡ true → IsWhole row.value → ReadsBack schema here (row ∷ [])
  row_back [] row leaf at shaped whole = no_root_node leaf.node leaf.found
  row_back (elem ∷ elems) row leaf at shaped whole =
      let plain = plain_end schema formed elem elems leaf.node leaf.found leaf.known (outer_sort leaf.node.sort leaf.leafy) in
      scalar_back_at schema elem elems leaf.node row formed leaf.found leaf.leafy plain at shaped whole

  one_row : (here : List Elem) (rows : List Row) → IsLeafPath here → list_any (λ row. same_path row.path here) rows ≡ true → IsRising rows → AllByRecursion (λ row. row.path ≡ here) rows → list_all (row_has_type schema) rows ≡ true → AllByRecursion (λ row. IsWhole row.value) rows → ReadsBack schema here rows
  unfolding IsStrictlySortedBy
  one_row here [] leaf some rising at shaped whole = absurd (true≢false (sym some))
  one_row here (row ∷ []) leaf some rising at shaped whole = row_back here row leaf at.0 (and_parts (row_has_type schema row) true shaped).0 whole.0
  one_row here (row ∷ other ∷ others) leaf some rising at shaped whole =
      absurd (let no : Equal ≡ Less = sym (tied_itself path_total row.path) ∙ ap (path_cmp row.path) (at.0 ∙ sym at.1.0) ∙ rising.0.0 in cc)

  row_path_back : (here : List Elem) → IsRowPath tree here → ReadsBack schema here (part (here ∷ []) tree)
  row_path_back here at =
      let leaf = leaf_path_there here at in
      let root = tree_is_part schema tree formed is in
      let keep : Row → Bool = λ row. is_covered (here ∷ []) row.path in
      let kept : (row : Row) → same_path row.path here ≡ true → keep row ≡ true =
      λ row same. subst (λ (p : List Elem). is_covered (here ∷ []) p ≡ true) (sym (is_path_same row.path here same ∙ sym (append-nil here))) (covered_below tree here at.plain []) in
      one_row here (part (here ∷ []) tree) leaf
      (any_kept (λ row. same_path row.path here) keep tree kept at.there)
      (IsStrictlySortedBy-filter row_cmp keep tree is.rising)
      (all_kept (IsGood schema tree) (λ row. row.path ≡ here) keep tree (just_here here at.plain leaf) (all_rows_good schema tree formed is))
      (kept_pass (row_has_type schema) keep tree root.shaped)
      (all_kept (λ row. IsWhole row.value) (λ row. IsWhole row.value) keep tree (λ row covered whole. whole) is.whole)

pub valid_back : ValidTreesReadBack
valid_back schema tree here formed is at =
    elim at [
      | inl root ↦ subst (λ (p : List Elem). ReadsBack schema p (part (p ∷ []) tree)) (sym root) (root_back schema tree formed is)
      | inr w ↦ elim w [ inl instance ↦ instance_back schema tree formed is here instance | inr row ↦ row_path_back schema tree formed is here row ]
    ]

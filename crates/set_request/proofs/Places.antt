-- The rows of an operation stand at or below its path, or are key leaves that the path names.
use Rattle.std.proofs.Common.{inl, inr, ◌≡◌, ℕ, zero, suc, ◌-◌, List, [], ◌∷◌, ◌++◌, Bool, true, false, true≢false, cond, not, ◌&&◌, eqb, length, take, Option, Some, None, Result, Ok, Err, refl, sym, ap, ◌∙◌, subst, arith, append_assoc, append-nil}
use Rattle.std.specs.Option.{option_and_then, option_map}
use Rattle.std.specs.List.{AllByRecursion, Contains, list_all, list_any, slice_get}
use Rattle.std.specs.Str.{bytes_eq}
use Rattle.std.specs.declared.cmp.Ordering.{Ordering}
use Rattle.std.specs.declared.cmp.Ordering.TheVariants.{Less, Equal, Greater}
use Rattle.std.proofs.lemmas.Bool.{and_parts}
use Rattle.std.proofs.lemmas.List.Elements.{Contains-push, Contains-append_left, Contains-append_right}
use Rattle.serde_json.specs.Data.{Data, null, boolean, number, string, array, object, Items, no_items, item, Members, no_members, member}
use Rattle.base_lists.specs.Results.{and_then, traverse, with_first}
use Rattle.base_kinds.specs.declared.path.Elem.{Elem}
use Rattle.base_kinds.specs.declared.operation.Row.{Row}
use Rattle.base_kinds.specs.declared.operation.Op.{Op}
use Rattle.base_kinds.specs.declared.operation.Act.{Act}
use Rattle.base_kinds.specs.declared.operation.Act.TheVariants.{Delete, Replace, Update}
use Rattle.base_kinds.specs.declared.value.Value.{Value}
use Rattle.base_kinds.specs.declared.value.Value.TheVariants as values
use Rattle.base_kinds.specs.declared.schema.Shape.{Shape}
use Rattle.base_kinds.specs.declared.schema.Sort.{Sort}
use Rattle.base_kinds.specs.declared.schema.Sort.TheVariants as sorts
use Rattle.base_kinds.specs.declared.request.Change.{Change}
use Rattle.base_kinds.specs.declared.request.Given.{Given}
use Rattle.base_kinds.specs.declared.request.Given.TheVariants as given
use Rattle.base_kinds.specs.declared.refusal.Refusal.{Refusal}
use Rattle.base_kinds.specs.declared.refusal.Refusal.TheVariants.{BadPath, BadValue}
use Rattle.base_kinds.specs.Ancestors.{child}
use Rattle.base_kinds.specs.Paths.{path_cmp}
use Rattle.base_kinds.specs.Schema.{SchemaNode, names_of, node_at}
use Rattle.base_kinds.specs.Tree.{set_row, set_rows, placed}
use Rattle.base_kinds.specs.Valid.{has_just_keys}
use Rattle.base_kinds.specs.Values.{is_list, values_in, all_differ}
use Rattle.schema_core.specs.WellFormed.{IsWellFormed, IsWellFormedNode, is_list_sort}
use Rattle.schema_core.proofs.WellFormedLemmas.{formed_node}
use Rattle.json_rows.specs.declared.fault.RowsFault.{RowsFault}
use Rattle.json_rows.specs.Leaves.{leaf_at, values_from}
use Rattle.json_rows.specs.Members.{fresh_child, name_in}
use Rattle.json_rows.specs.Entries.{KeyList, keys_of_entry, keys_unless_seen, entry_keys_agree}
use Rattle.json_rows.specs.Walk.{below, rows_with_row, rows_with_leaf, rows_with_leaf_list, rows_at_node, rows_of_members, rows_of_entries, rows_of_object}
use Rattle.json_rows.specs.Rows.{data_of, is_entry, rows_of_entry, rows_at_node_of_path, rows_at_path, rows_of_walk, rows_by_path, rows_of}
use Rattle.json_rows.proofs.Fitting.{found}
use Rattle.json_rows.proofs.Walks.{came}
use Rattle.set_request.specs.KeyLeaves.{is_wild, value_of_key, leaf_with, key_leaf, key_leaves_of_elem, key_leaves_from, key_leaves_of}
use Rattle.set_request.specs.Operations.{is_whole_path, op_of_delete, key_leaves_agree, are_fit_rows, op_with, op_at, op_of_change}
use Rattle.set_request.specs.Scalars.{value_in_shape, values_in_shape}
use Rattle.set_request.specs.ValueRows.{row_at, list_row, row_of_distinct, rows_of_leaf_list, rows_at_sort, rows_of_scalar, rows_of_json, rows_of_value}
use Rattle.set_request.specs.laws.Places.{IsAtOrBelow, NamesKeyLeaf, BelongsAt, RowsBelong}
use Rattle.set_request.proofs.FitAsks.{followed, passed, there}

-- ---- lists

all_both : {A : Type 0} (P : A → Type 0) (xs ys : List A) → AllByRecursion P xs → AllByRecursion P ys → AllByRecursion P (xs ++ ys)
all_both P [] ys all others = others
all_both P (x ∷ xs) ys all others = (all.0, all_both P xs ys all.1 others)

all_then : {A : Type 0} (P Q : A → Type 0) → ((a : A) → P a → Q a) → (xs : List A) → AllByRecursion P xs → AllByRecursion Q xs
all_then P Q so [] all = tt
all_then P Q so (x ∷ xs) all = (so x all.0, all_then P Q so xs all.1)

-- what each step gives
all_given : {A B : Type 0} (step : A → Result B Refusal) (P : B → Type 0) (items : List A) → ((item : A) (b : B) → Contains items item → step item ≡ Ok b → P b) → (out : List B) → traverse step items ≡ Ok out → AllByRecursion P out
all_given {B = B} step P [] own out is =
    let same : [] ≡ out = cc in
    subst (λ (o : List B). AllByRecursion P o) same tt
all_given {A} {B} step P (x ∷ xs) own out is =
    let f = followed (step x) (λ b. with_first b (traverse step xs)) out is in
    by f.a f.first (traverse step xs) (λ others told. all_given step P xs (λ other b among told. own other b (Contains-append_right (x ∷ []) xs other among) told) others told) f.then
  where
    by : (a : B) → step x ≡ Ok a → (rest : Result (List B) Refusal) → ((others : List B) → rest ≡ Ok others → AllByRecursion P others) → with_first a rest ≡ Ok out → AllByRecursion P out
    by a first (Err refusal) later then = absurd cc
    by a first (Ok others) later then =
        let same : a ∷ others ≡ out = cc in
        subst (λ (o : List B). AllByRecursion P o) same
        (own x a (Contains-append_left (x ∷ []) xs x (Contains-push [] x)) first, later others refl)

-- rows that are set in a tree
placed_all : (P : Row → Type 0) (order : Ordering) (row first : Row) (others set : List Row) → P row → AllByRecursion P (first ∷ others) → AllByRecursion P set → AllByRecursion P (placed order row first others set)
placed_all P Less row first others set own all more = (all.0, more)
placed_all P Equal row first others set own all more = (own, all.1)
placed_all P Greater row first others set own all more = (own, all)

row_set : (P : Row → Type 0) (row : Row) (tree : List Row) → P row → AllByRecursion P tree → AllByRecursion P (set_row row tree)
row_set P row [] own all = (own, tt)
row_set P row (first ∷ others) own all = placed_all P (path_cmp first.path row.path) row first others (set_row row others) own all (row_set P row others own all.1)

rows_set : (P : Row → Type 0) (rows tree : List Row) → AllByRecursion P rows → AllByRecursion P tree → AllByRecursion P (set_rows rows tree)
rows_set P [] tree all own = own
rows_set P (row ∷ rows) tree all own = rows_set P rows (set_row row tree) all.1 (row_set P row tree all.0 own)

same_ok : {A E : Type 0} (a b : A) → ◌≡◌ {A = Result A E} (Ok a) (Ok b) → a ≡ b
same_ok a b is = cc

-- ---- the rows of JSON

abbrev AllBelow : List Elem → List Row → Type 0
AllBelow top rows = AllByRecursion (λ row. IsAtOrBelow top row.path) rows

at_itself : (path : List Elem) → IsAtOrBelow path path
at_itself path = record { rest = []; is = sym (append-nil path) }

one_below : (top path more : List Elem) → IsAtOrBelow top path → IsAtOrBelow top (path ++ more)
one_below top path more is = record { rest = is.rest ++ more; is = ap (λ (p : List Elem). p ++ more) is.is ∙ append_assoc top is.rest more }

module _ (top : List Elem) where
  row_below : (here : List Elem) (rows out : List Row) (value : Value) → IsAtOrBelow top here → AllBelow top rows → rows_with_row here rows value ≡ out → AllBelow top out
  row_below here rows out value is all same = subst (λ (o : List Row). AllBelow top o) same (all_both (λ row. IsAtOrBelow top row.path) rows (record { path = here; value = value } ∷ []) all (is, tt))

  leaf_below : (here : List Elem) (rows out : List Row) (value : Option Value) → IsAtOrBelow top here → AllBelow top rows → rows_with_leaf here rows value ≡ Ok out → AllBelow top out
  leaf_below here rows out None is all e = absurd cc
  leaf_below here rows out (Some value) is all e = row_below here rows out value is all (same_ok (rows_with_row here rows value) out e)

  list_below : (here : List Elem) (rows out : List Row) (found : Option (List Value)) → IsAtOrBelow top here → AllBelow top rows → rows_with_leaf_list here rows found ≡ Ok out → AllBelow top out
  list_below here rows out None is all e = absurd cc
  list_below here rows out (Some []) is all e = subst (λ (o : List Row). AllBelow top o) (same_ok rows out e) all
  list_below here rows out (Some (value ∷ others)) is all e = row_below here rows out (values.List (value ∷ others)) is all (same_ok (rows_with_row here rows (values.List (value ∷ others))) out e)

  mutual
    node_below : (sort : Sort) (schema : List SchemaNode) (node : SchemaNode) (above : List Elem) (name : List ℕ) (rows out : List Row) (json : Data) → IsAtOrBelow top above → AllBelow top rows → rows_at_node sort schema node above name rows json ≡ Ok out → AllBelow top out
    node_below sorts.Container schema node above name rows out (object ms) is all e = members_below schema (below above name []) [] rows out ms (one_below top above (record { name = name; keys = [] } ∷ []) is) all e
    node_below sorts.List schema node above name rows out (array items) is all e = entries_below schema node above name [] rows out items is all e
    node_below sorts.LeafList schema node above name rows out (array items) is all e = list_below (below above name []) rows out (values_from node.shape [] items) (one_below top above (record { name = name; keys = [] } ∷ []) is) all e
    node_below sorts.Leaf schema node above name rows out json is all e = leaf_below (below above name []) rows out (leaf_at node.shape json) (one_below top above (record { name = name; keys = [] } ∷ []) is) all e
    node_below sorts.Container schema node above name rows out null is all e = absurd cc
    node_below sorts.Container schema node above name rows out (boolean b) is all e = absurd cc
    node_below sorts.Container schema node above name rows out (number n) is all e = absurd cc
    node_below sorts.Container schema node above name rows out (string s) is all e = absurd cc
    node_below sorts.Container schema node above name rows out (array items) is all e = absurd cc
    node_below sorts.List schema node above name rows out null is all e = absurd cc
    node_below sorts.List schema node above name rows out (boolean b) is all e = absurd cc
    node_below sorts.List schema node above name rows out (number n) is all e = absurd cc
    node_below sorts.List schema node above name rows out (string s) is all e = absurd cc
    node_below sorts.List schema node above name rows out (object ms) is all e = absurd cc
    node_below sorts.LeafList schema node above name rows out null is all e = absurd cc
    node_below sorts.LeafList schema node above name rows out (boolean b) is all e = absurd cc
    node_below sorts.LeafList schema node above name rows out (number n) is all e = absurd cc
    node_below sorts.LeafList schema node above name rows out (string s) is all e = absurd cc
    node_below sorts.LeafList schema node above name rows out (object ms) is all e = absurd cc

    members_below : (schema : List SchemaNode) (here : List Elem) (seen : List (List ℕ)) (rows out : List Row) (members : Members) → IsAtOrBelow top here → AllBelow top rows → rows_of_members schema here seen rows members ≡ Ok out → AllBelow top out
    members_below schema here seen rows out no_members is all e = subst (λ (o : List Row). AllBelow top o) (same_ok rows out e) all
    members_below schema here seen rows out (member text json others) is all e =
        let name = name_in text in
        let node = came (fresh_child schema (names_of here) seen text) (λ node. and_then (rows_at_node node.sort schema node here (name_in text) rows json) (λ more. rows_of_members schema here (seen ++ name_in text ∷ []) more others)) out e in
        let more = came (rows_at_node node.value.sort schema node.value here name rows json) (λ more. rows_of_members schema here (seen ++ name_in text ∷ []) more others) out node.then in
        members_below schema here (seen ++ name ∷ []) more.value out others is
        (node_below node.value.sort schema node.value here name rows more.value json is all more.is) more.then

    entries_below : (schema : List SchemaNode) (node : SchemaNode) (above : List Elem) (name : List ℕ) (seen : List KeyList) (rows out : List Row) (items : Items) → IsAtOrBelow top above → AllBelow top rows → rows_of_entries schema node above name seen rows items ≡ Ok out → AllBelow top out
    entries_below schema node above name seen rows out no_items is all e = subst (λ (o : List Row). AllBelow top o) (same_ok rows out e) all
    entries_below schema node above name seen rows out (item json others) is all e =
        let keys = came (and_then (keys_of_entry schema (names_of above ++ name ∷ []) json [] node.keys) (keys_unless_seen seen)) (λ keys. and_then (rows_of_object schema (below above name keys) rows json) (λ more. rows_of_entries schema node above name (seen ++ keys ∷ []) more others)) out e in
        let more = came (rows_of_object schema (below above name keys.value) rows json) (λ more. rows_of_entries schema node above name (seen ++ keys.value ∷ []) more others) out keys.then in
        entries_below schema node above name (seen ++ keys.value ∷ []) more.value out others is
        (object_below schema (below above name keys.value) rows more.value json (one_below top above (record { name = name; keys = keys.value } ∷ []) is) all more.is) more.then

    object_below : (schema : List SchemaNode) (here : List Elem) (rows out : List Row) (json : Data) → IsAtOrBelow top here → AllBelow top rows → rows_of_object schema here rows json ≡ Ok out → AllBelow top out
    object_below schema here rows out (object ms) is all e = members_below schema here [] rows out ms is all e
    object_below schema here rows out null is all e = absurd cc
    object_below schema here rows out (boolean b) is all e = absurd cc
    object_below schema here rows out (number n) is all e = absurd cc
    object_below schema here rows out (string s) is all e = absurd cc
    object_below schema here rows out (array items) is all e = absurd cc

-- at a node that is no list, whose path is the top itself
bare_below : (sort : Sort) (schema : List SchemaNode) (node : SchemaNode) (above : List Elem) (name : List ℕ) (out : List Row) (json : Data) → (sort ≡ sorts.List → ⊥) → rows_at_node sort schema node above name [] json ≡ Ok out → AllBelow (below above name []) out
bare_below sorts.Container schema node above name out (object ms) not_list e = members_below (below above name []) schema (below above name []) [] [] out ms (at_itself (below above name [])) tt e
bare_below sorts.LeafList schema node above name out (array items) not_list e = list_below (below above name []) (below above name []) [] out (values_from node.shape [] items) (at_itself (below above name [])) tt e
bare_below sorts.Leaf schema node above name out json not_list e = leaf_below (below above name []) (below above name []) [] out (leaf_at node.shape json) (at_itself (below above name [])) tt e
bare_below sorts.List schema node above name out json not_list e = absurd (not_list refl)
bare_below sorts.Container schema node above name out null not_list e = absurd cc
bare_below sorts.Container schema node above name out (boolean b) not_list e = absurd cc
bare_below sorts.Container schema node above name out (number n) not_list e = absurd cc
bare_below sorts.Container schema node above name out (string s) not_list e = absurd cc
bare_below sorts.Container schema node above name out (array items) not_list e = absurd cc
bare_below sorts.LeafList schema node above name out null not_list e = absurd cc
bare_below sorts.LeafList schema node above name out (boolean b) not_list e = absurd cc
bare_below sorts.LeafList schema node above name out (number n) not_list e = absurd cc
bare_below sorts.LeafList schema node above name out (string s) not_list e = absurd cc
bare_below sorts.LeafList schema node above name out (object ms) not_list e = absurd cc

-- ---- key leaves

leaf_path : (entry : List Elem) (key : List ℕ × List ℕ) (told : Option Value) (row : Row) → leaf_with entry key told ≡ Ok row → row.path ≡ child entry key.0
leaf_path entry key None row is = absurd cc
leaf_path entry key (Some value) row is = ap (λ (r : Row). r.path) (sym (same_ok (record { path = child entry key.0; value = value }) row is))

elem_leaves : (schema : List SchemaNode) (path front : List Elem) (elem : Elem) (rest : List Elem) (node : Option SchemaNode) (leaves : List Row) → path ≡ front ++ elem ∷ rest → key_leaves_of_elem schema (front ++ elem ∷ []) elem node ≡ Ok leaves → AllByRecursion (λ row. NamesKeyLeaf path row.path) leaves
elem_leaves schema path front elem rest None leaves split is = absurd cc
elem_leaves schema path front elem rest (Some node) leaves split is =
    let p = passed (has_just_keys elem node.keys) (traverse (key_leaf schema (front ++ elem ∷ [])) elem.keys) BadPath leaves is in
    all_given (key_leaf schema (front ++ elem ∷ [])) (λ (row : Row). NamesKeyLeaf path row.path) elem.keys
    (λ key row among told. record {
      front = front;
      elem = elem;
      rest = rest;
      key = key;
      split = split;
      named = among;
      is = leaf_path (front ++ elem ∷ []) key (value_of_key schema (front ++ elem ∷ []) key) row told;
    }) leaves p.1

leaves_from : (schema : List SchemaNode) (path front elems : List Elem) (keys : List Row) → path ≡ front ++ elems → key_leaves_from schema front elems ≡ Ok keys → AllByRecursion (λ row. NamesKeyLeaf path row.path) keys
leaves_from schema path front [] keys split is = subst (λ (o : List Row). AllByRecursion (λ row. NamesKeyLeaf path row.path) o) (same_ok [] keys is) tt
leaves_from schema path front (elem ∷ elems) keys split is =
    let here = front ++ elem ∷ [] in
    let first = followed (key_leaves_of_elem schema here elem (node_at schema here)) (λ leaves. and_then (key_leaves_from schema here elems) (λ others. Ok (leaves ++ others))) keys is in
    let more = followed (key_leaves_from schema here elems) (λ others. Ok (first.a ++ others)) keys first.then in
    subst (λ (o : List Row). AllByRecursion (λ row. NamesKeyLeaf path row.path) o) (same_ok (first.a ++ more.a) keys more.then)
    (all_both (λ row. NamesKeyLeaf path row.path) first.a more.a
    (elem_leaves schema path front elem elems (node_at schema here) first.a split first.first)
    (leaves_from schema path here elems more.a (split ∙ sym (append_assoc front (elem ∷ []) elems)) more.first))

-- the last element of a path whose key leaves are named has just its node's keys
just_keys : (schema : List SchemaNode) (front before : List Elem) (last : Elem) (keys : List Row) (node : SchemaNode) → key_leaves_from schema front (before ++ last ∷ []) ≡ Ok keys → node_at schema (front ++ (before ++ last ∷ [])) ≡ Some node → has_just_keys last node.keys ≡ true
just_keys schema front [] last keys node is at =
    let here = front ++ last ∷ [] in
    let first = followed (key_leaves_of_elem schema here last (node_at schema here)) (λ leaves. and_then (key_leaves_from schema here []) (λ others. Ok (leaves ++ others))) keys is in
    let told : key_leaves_of_elem schema here last (Some node) ≡ Ok first.a = ap (key_leaves_of_elem schema here last) (sym at) ∙ first.first in
    (passed (has_just_keys last node.keys) (traverse (key_leaf schema here) last.keys) BadPath first.a told).0
just_keys schema front (elem ∷ before) last keys node is at =
    let here = front ++ elem ∷ [] in
    let first = followed (key_leaves_of_elem schema here elem (node_at schema here)) (λ leaves. and_then (key_leaves_from schema here (before ++ last ∷ [])) (λ others. Ok (leaves ++ others))) keys is in
    let more = followed (key_leaves_from schema here (before ++ last ∷ [])) (λ others. Ok (first.a ++ others)) keys first.then in
    just_keys schema here before last more.a node more.first (ap (node_at schema) (append_assoc front (elem ∷ []) (before ++ last ∷ [])) ∙ at)

ends_at : (path : List Elem) (n : ℕ) (last : Elem) → slice_get path n ≡ Some last → length path ≡ suc n → path ≡ take n path ++ last ∷ []
ends_at [] n last is long = absurd (omega (arith, long))
ends_at (elem ∷ []) zero last is long = let same : elem ≡ last = cc in ap (λ (e : Elem). e ∷ []) same
ends_at (elem ∷ other ∷ others) zero last is long = absurd (omega (arith, long))
ends_at (elem ∷ elems) (suc n) last is long = ap (λ (es : List Elem). elem ∷ es) (ends_at elems n last is (omega (arith, long)))

ends_in : (path : List Elem) (last : Elem) → slice_get path (length path - 1) ≡ Some last → path ≡ take (length path - 1) path ++ last ∷ []
ends_in [] last is = absurd cc
ends_in (elem ∷ elems) last is = ends_at (elem ∷ elems) (length (elem ∷ elems) - 1) last is (omega arith)

-- ---- the rows of a value

none_has : {A : Type 0} (xs : List A) → length xs ≡ 0 → xs ≡ []
none_has [] is = refl
none_has (x ∷ xs) is = absurd (omega (arith, is))

same_number : (a b : ℕ) → eqb a b ≡ true → a ≡ b
same_number a b is = grind (arith, is)

module _ (schema : List SchemaNode) (formed : IsWellFormed schema) (path : List Elem) (named : List Row) (leaves : key_leaves_of schema path ≡ Ok named) where
  -- what is no entry of a list has no keys in its path, and is no list
  bare : (last : Elem) (node : SchemaNode) → slice_get path (length path - 1) ≡ Some last → node_at schema path ≡ Some node → is_entry node.sort last.keys ≡ false → (node.sort ≡ sorts.List → ⊥) × (path ≡ below (take (length path - 1) path) last.name [])
  bare last node ends at no_entry =
      let is = ends_in path last ends in
      let just = just_keys schema [] (take (length path - 1) path) last named node (subst (λ (p : List Elem). key_leaves_from schema [] p ≡ Ok named) is leaves) (subst (λ (p : List Elem). node_at schema p ≡ Some node) is at) in
      let counts : length last.keys ≡ length node.keys = same_number (length last.keys) (length node.keys) (and_parts (eqb (length last.keys) (length node.keys)) (list_all (λ key. list_any (λ pair. bytes_eq key pair.0) last.keys) node.keys) just).0 in
      let own = formed_node schema formed (names_of path) node at in
      let no_list = not_a_list node.sort last.keys refl no_entry counts own in
      (no_list, is ∙ ap (λ (e : Elem). take (length path - 1) path ++ e ∷ []) (keyless last (none_has last.keys (counts ∙ ap length (own.keyless (no_sort node.sort no_list))))))
    where
      keyless : (e : Elem) → e.keys ≡ [] → e ≡ record { name = e.name; keys = [] }
      keyless e none = ap (λ (ks : KeyList). let it : Elem = record { name = e.name; keys = ks } in it) none

      not_a_list : (sort : Sort) (keys : KeyList) → node.sort ≡ sort → is_entry sort keys ≡ false → length keys ≡ length node.keys → IsWellFormedNode schema node → node.sort ≡ sorts.List → ⊥
      not_a_list sort [] same no_entry counts own is = own.keyed (ap is_list_sort is) (none_has node.keys (sym counts))
      not_a_list sort (key ∷ keys) same no_entry counts own is = true≢false (ap (λ s. is_entry s (key ∷ keys)) (sym is ∙ same) ∙ no_entry)

      no_sort : (sort : Sort) → (sort ≡ sorts.List → ⊥) → is_list_sort sort ≡ false
      no_sort sorts.Container not_list = refl
      no_sort sorts.List not_list = absurd (not_list refl)
      no_sort sorts.LeafList not_list = refl
      no_sort sorts.Leaf not_list = refl

  last_below : (last : Elem) (node : SchemaNode) (json : Data) (out : List Row) → slice_get path (length path - 1) ≡ Some last → node_at schema path ≡ Some node → (test : Bool) → is_entry node.sort last.keys ≡ test → cond test (rows_of_entry schema node path last.keys json) (rows_at_node node.sort schema node (take (length path - 1) path) last.name [] json) ≡ Ok out → AllBelow path out
  last_below last node json out ends at true entry e =
      let agreed = came (entry_keys_agree schema (names_of path) last.keys json node.keys) (λ same. rows_of_object schema path [] json) out e in
      object_below path schema path [] out json (at_itself path) tt agreed.then
  last_below last node json out ends at false entry e =
      let b = bare last node ends at entry in
      subst (λ (p : List Elem). AllBelow p out) (sym b.1) (bare_below node.sort schema node (take (length path - 1) path) last.name out json b.0 e)

  found_below : (last : Elem) (node : Option SchemaNode) (json : Option Data) (out : List Row) → slice_get path (length path - 1) ≡ Some last → node_at schema path ≡ node → rows_at_node_of_path schema path last node json ≡ Ok out → AllBelow path out
  found_below last None json out ends at e = absurd cc
  found_below last (Some node) None out ends at e = absurd cc
  found_below last (Some node) (Some json) out ends at e = last_below last node json out ends at (is_entry node.sort last.keys) refl e

  walk_below : (last : Option Elem) (json : Option Data) (out : List Row) → slice_get path (length path - 1) ≡ last → rows_at_path schema path last json ≡ Ok out → AllBelow path out
  walk_below None None out ends e = absurd cc
  walk_below None (Some json) out ends e = object_below path schema path [] out json (at_itself path) tt e
  walk_below (Some last) json out ends e = found_below last (node_at schema path) json out ends refl e

  json_below : (text : List ℕ) (rows : List Row) → rows_of schema path text ≡ Ok rows → AllBelow path rows
  json_below text rows e =
      let w = came (rows_of_walk schema path (data_of text)) rows_by_path rows e in
      subst (λ (o : List Row). AllBelow path o) (same_ok (set_rows w.value []) rows w.then)
      (rows_set (λ row. IsAtOrBelow path row.path) w.value [] (walk_below (slice_get path (length path - 1)) (data_of text) w.value refl w.is) tt)

  -- a scalar stands at the path itself
  leaf_at_path : (value : Option Value) (rows : List Row) → option_map (row_at path) value ≡ Some rows → AllBelow path rows
  leaf_at_path None rows e = absurd cc
  leaf_at_path (Some value) rows e = let same : row_at path value ≡ rows = cc in subst (λ (o : List Row). AllBelow path o) same (at_itself path, tt)

  list_at_path : (kept : List Value) → AllBelow path (list_row path kept)
  list_at_path [] = tt
  list_at_path (value ∷ others) = (at_itself path, tt)

  distinct_at_path : (kept : List Value) (rows : List Row) → row_of_distinct path kept ≡ Some rows → AllBelow path rows
  distinct_at_path kept rows e = by (all_differ kept) e
    where
      by : (test : Bool) → cond test (Some (list_row path kept)) None ≡ Some rows → AllBelow path rows
      by true is = let same : list_row path kept ≡ rows = cc in subst (λ (o : List Row). AllBelow path o) same (list_at_path kept)
      by false is = absurd cc

  leaf_list_at_path : (shape : Shape) (value : Value) (rows : List Row) → rows_of_leaf_list shape path value ≡ Some rows → AllBelow path rows
  leaf_list_at_path shape value rows e = by (is_list value) e
    where
      by : (test : Bool) → cond test (option_and_then (row_of_distinct path) (values_in_shape shape [] (values_in value))) None ≡ Some rows → AllBelow path rows
      by true is =
          let f = found (values_in_shape shape [] (values_in value)) (row_of_distinct path) rows is in
          distinct_at_path f.a rows f.then
      by false is = absurd cc

  sort_at_path : (sort : Sort) (shape : Shape) (value : Value) (rows : List Row) → rows_at_sort sort shape path value ≡ Some rows → AllBelow path rows
  sort_at_path sorts.Leaf shape value rows e = leaf_at_path (value_in_shape shape value) rows e
  sort_at_path sorts.LeafList shape value rows e = leaf_list_at_path shape value rows e
  sort_at_path sorts.Container shape value rows e = absurd cc
  sort_at_path sorts.List shape value rows e = absurd cc

  scalar_at_path : (value : Value) (rows : List Row) → rows_of_scalar (node_at schema path) path value ≡ Some rows → AllBelow path rows
  scalar_at_path value rows e =
      let n = found (node_at schema path) (λ node. option_and_then (λ shape. rows_at_sort node.sort shape path value) node.shape) rows e in
      let s = found n.a.shape (λ shape. rows_at_sort n.a.sort shape path value) rows n.then in
      sort_at_path n.a.sort s.a value rows s.then

  json_told : (text : List ℕ) (told : Result (List Row) RowsFault) (rows : List Row) → rows_of schema path text ≡ told → rows_of_json told ≡ Ok rows → AllBelow path rows
  json_told text (Ok some) rows told e = json_below text rows (told ∙ ap (λ (r : List Row). Ok r) (same_ok some rows e))
  json_told text (Err fault) rows told e = absurd cc

  value_below : (value : Given) (rows : List Row) → rows_of_value schema path value ≡ Ok rows → AllBelow path rows
  value_below (given.Json text) rows e = json_told text (rows_of schema path text) rows refl e
  value_below (given.Scalar value) rows e = scalar_at_path value rows (there (rows_of_scalar (node_at schema path) path value) BadValue rows e)
  value_below given.Missing rows e = absurd cc

-- ---- operations

abbrev Belongs : Op → Type 0
Belongs op = AllByRecursion (BelongsAt op.path) op.rows

delete_belongs : (prefix path : List Elem) (op : Op) → op_of_delete prefix path ≡ Ok op → Belongs op
delete_belongs prefix path op e =
    let made : Op = record { act = Delete; path = prefix ++ path; rows = [] } in
    let p = passed (is_whole_path (prefix ++ path)) (Ok made) BadPath op e in
    subst (λ (o : Op). Belongs o) (same_ok made op p.1) tt

change_belongs : (schema : List SchemaNode) → IsWellFormed schema → (prefix : List Elem) (act : Act) (change : Change) (op : Op) → op_of_change schema prefix act change ≡ Ok op → Belongs op
change_belongs schema formed prefix act change op e =
    let path = prefix ++ change.path in
    let p = passed (is_whole_path path && not (list_any is_wild path)) (op_at schema act path change) BadPath op e in
    let w = followed (key_leaves_of schema path) (λ keys. and_then (rows_of_value schema path change.given) (op_with act path keys)) op p.1 in
    let v = followed (rows_of_value schema path change.given) (op_with act path w.a) op w.then in
    let made : Op = record { act = act; path = path; rows = set_rows w.a v.a } in
    let q = passed (key_leaves_agree w.a v.a && are_fit_rows (set_rows w.a v.a)) (Ok made) BadValue op v.then in
    let keys = all_then (λ row. NamesKeyLeaf path row.path) (BelongsAt path) (λ row is. inr is) w.a (leaves_from schema path [] path w.a refl w.first) in
    let rows = all_then (λ row. IsAtOrBelow path row.path) (BelongsAt path) (λ row is. inl is) v.a (value_below schema formed path w.a w.first change.given v.a v.first) in
    subst (λ (o : Op). Belongs o) (same_ok made op q.1) (rows_set (BelongsAt path) w.a v.a keys rows)

pub rows_belong : RowsBelong
rows_belong schema ask ops formed e =
    let replaced = traverse (op_of_change schema ask.prefix Replace) ask.replaces in
    let updated = traverse (op_of_change schema ask.prefix Update) ask.updates in
    let d = followed (traverse (op_of_delete ask.prefix) ask.deletes) (λ deletes. and_then replaced (λ replaces. and_then updated (λ updates. Ok (deletes ++ (replaces ++ updates))))) ops e in
    let r = followed replaced (λ replaces. and_then updated (λ updates. Ok (d.a ++ (replaces ++ updates)))) ops d.then in
    let u = followed updated (λ updates. Ok (d.a ++ (r.a ++ updates))) ops r.then in
    subst (λ (o : List Op). AllByRecursion Belongs o) (same_ok (d.a ++ (r.a ++ u.a)) ops u.then)
    (all_both Belongs d.a (r.a ++ u.a) (all_given (op_of_delete ask.prefix) Belongs ask.deletes (λ path op among told. delete_belongs ask.prefix path op told) d.a d.first)
    (all_both Belongs r.a u.a
    (all_given (op_of_change schema ask.prefix Replace) Belongs ask.replaces (λ change op among told. change_belongs schema formed ask.prefix Replace change op told) r.a r.first)
    (all_given (op_of_change schema ask.prefix Update) Belongs ask.updates (λ change op among told. change_belongs schema formed ask.prefix Update change op told) u.a u.first)))

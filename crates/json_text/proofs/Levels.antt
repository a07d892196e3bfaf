-- What is written for an object is read as its rows, level by level.
use Rattle.std.proofs.Common.{◌≡◌, ℕ, zero, suc, ◌≤◌, ◌==◌, List, [], ◌∷◌, ◌++◌, length, Bool, true, false, true≢false, cond, ◌⊎◌, inl, inr, Option, Some, option_and_then, Ok, Ordering, Less, Equal, Greater, is_eq, drop, bytes_eq, refl, sym, ap, subst, ◌∙◌, append_assoc, arith}
use Rattle.std.specs.Prelude.{slice_get, unwrap_or}
use Rattle.std.specs.List.{list_all, list_any, AllByRecursion}
use Rattle.std.specs.List.Sorted.{IsPermutation, IsStrictlySortedBy}
use Rattle.std.specs.Ordering.{ordering_then}
use Rattle.std.proofs.Math.Seq.{drop-append_seam}
use Rattle.std.proofs.lemmas.Bool.{and_parts}
use Rattle.std.proofs.lemmas.List.{length-append}
use Rattle.std.proofs.lemmas.Cmp.{tied_itself, nat_list_cmp_total}
use Rattle.std.proofs.lemmas.List.Sorted.{IsPermutation-refl}
use Rattle.std.proofs.lemmas.Slice.Eq.{bytes_eq-Decides}
use Rattle.serde_json.specs.Data.{Data, object, Members}
use Rattle.base_kinds.specs.declared.path.Elem.{Elem}
use Rattle.base_kinds.specs.declared.operation.Row.{Row}
use Rattle.base_kinds.specs.declared.schema.Sort.{Sort}
use Rattle.base_kinds.specs.declared.schema.Sort.TheVariants as sorts
use Rattle.base_kinds.specs.Paths.{text_cmp, elem_cmp, path_cmp}
use Rattle.base_kinds.specs.Schema.{SchemaNode, names_of, node_of, node_at}
use Rattle.base_kinds.specs.Valid.{if_some, has_just_keys, is_leafy, row_has_nodes, row_has_type}
use Rattle.base_kinds.specs.Ancestors.{own_name}
use Rattle.base_kinds.specs.Rising.{row_cmp, IsRising}
use Rattle.history_laws.proofs.PathOrder.{path_total, elem_total, exact_elems}
use Rattle.schema_core.specs.Nodes.{is_inner}
use Rattle.schema_core.proofs.NodeLemmas.{stands_there}
use Rattle.json_rows.specs.Leaves.{leaf_at}
use Rattle.json_rows.specs.Entries.{KeyList, key_of_entry, keys_of_entry, same_key, same_keys}
use Rattle.json_rows.specs.Walk.{below, rows_at_node, rows_of_members}
use Rattle.schema_core.specs.Identifiers.{lacks_colon}
use Rattle.schema_core.specs.WellFormed.{is_list_node, is_list_sort, IsWellFormed}
use Rattle.schema_core.proofs.WellFormedLemmas.{own_lacks_colon, name_lacks_colon, formed_node, key_is_leaf}
use Rattle.json_text.specs.laws.Rows.{IsWhole, row_ordered, in_name_order}
use Rattle.json_text.specs.Runs.{runs, share_name, share_entry, both, same_name, same_elem}
use Rattle.json_text.specs.Trees.{is_module, member_name, value_data, node_data, entries_data, child_of_rows, with_member, members_data}
use Rattle.json_text.specs.inner.Steps.{member_step}
use Rattle.json_text.proofs.Lasts.{own_name-last}
use Rattle.json_text.proofs.Parts.{Part, as_members, ObjectBack, RunBack, Differ, all_gathered, unlike, walk, rows_in}
use Rattle.json_text.proofs.RunsBack.{whole, whole_runs, all_in_runs, IsRun, KeysAgree, are_runs, Below, RunsRise, Rise, runs_rise, all_rising}
use Rattle.json_text.proofs.Picks.{In, all_in, pick, SameKey, KeyedFrom, HasKey, Closed, keys_here, keyed_into}
use Rattle.json_text.proofs.Lookups.{KeyLeaf, any_leaf, key_found, key_is_read}
use Rattle.json_text.proofs.KeysBack.{Read, Readable, keys_back, firsts, any_ordered, either_true, or_left, or_right}
use Rattle.json_text.proofs.EntriesBack.{EntryBack, KeysDiffer, entries_back}
use Rattle.json_text.proofs.Spellings.{spelled_at, named_at}
use Rattle.json_text.proofs.NodesBack.{plain_keys, leaf_path, taken_there, leaf_row_back, leaf_value_back, leaf_list_row_back}
use Rattle.json_text.proofs.Below.{Good, get_seam, first_is, node_below, keys_ordered, prefix_cmp, names_rise, names_below}

abbrev nameless : Elem
nameless = record { name = []; keys = [] }

-- the row's element at a depth, and its name
abbrev pub elem_at : ℕ → Row → Elem
elem_at depth row = unwrap_or (slice_get row.path depth) nameless

abbrev pub name_at : ℕ → Row → List ℕ
name_at depth row = (elem_at depth row).name

all_then : {K : Type 0} (key : Row → K) (a b : K) (rows : List Row) → a ≡ b → AllByRecursion (λ other. key other ≡ a) rows → AllByRecursion (λ other. key other ≡ b) rows
all_then key a b [] e all = tt
all_then key a b (row ∷ rows) e all = (all.0 ∙ e, all_then key a b rows e all.1)

abbrev keys_in : ℕ → List Row → KeyList
keys_in depth [] = []
keys_in depth (row ∷ rows) = (elem_at depth row).keys

same_keys_is : (a b : KeyList) → same_keys a b ≡ true → a ≡ b
same_keys_is [] [] e = refl
same_keys_is [] (y ∷ b) e = absurd (true≢false (sym e))
same_keys_is (x ∷ a) [] e = absurd (true≢false (sym e))
same_keys_is (x ∷ a) (y ∷ b) e =
    let parts = and_parts (same_key x y) (same_keys a b) e in
    let texts = and_parts (bytes_eq x.0 y.0) (bytes_eq x.1 y.1) parts.0 in
    let first : x ≡ y = ap (λ (n : List ℕ). (n, x.1)) ((bytes_eq-Decides x.0 y.0).0 texts.0) ∙ ap (λ (t : List ℕ). (y.0, t)) ((bytes_eq-Decides x.1 y.1).0 texts.1) in
    ap (λ (k : List ℕ × List ℕ). k ∷ a) first ∙ ap (λ (ks : KeyList). y ∷ ks) (same_keys_is a b parts.1)

equal_of : (o : Ordering) → is_eq o ≡ true → o ≡ Equal
equal_of Less is = absurd (true≢false (sym is))
equal_of Equal is = refl
equal_of Greater is = absurd (true≢false (sym is))

less_of : (o rest : Ordering) → ordering_then o rest ≡ Less → is_eq o ≡ false → o ≡ Less
less_of Less rest less differ = refl
less_of Equal rest less differ = absurd (true≢false differ)
less_of Greater rest less differ = less

module _ (schema : List SchemaNode) (formed : IsWellFormed schema) where
  abbrev AllGood : ℕ → List Elem → List Row → Type 0
  AllGood levels here rows = AllByRecursion (Good schema levels here) rows

  name_is : (levels : ℕ) (here : List Elem) (row : Row) (good : Good schema levels here row) → name_at (length here) row ≡ good.elem.name
  name_is levels here row good = ap (λ (o : Option Elem). (unwrap_or o nameless).name) (first_is schema levels here row good)

  share_is : (levels : ℕ) (here : List Elem) (a b : Row) → Good schema levels here a → Good schema levels here b → share_name (length here) a b ≡ bytes_eq (name_at (length here) a) (name_at (length here) b)
  share_is levels here a b x y =
      ap (λ (o : Option Elem). both same_name o (slice_get b.path (length here))) (first_is schema levels here a x) ∙ ap (both same_name (Some x.elem)) (first_is schema levels here b y)
      ∙ ap (λ n. bytes_eq n y.elem.name) (sym (name_is levels here a x)) ∙ ap (bytes_eq (name_at (length here) a)) (sym (name_is levels here b y))

  agree_with : (levels : ℕ) (here : List Elem) (row : Row) (rows : List Row) → Good schema levels here row → AllGood levels here rows → AllByRecursion (λ other. share_name (length here) row other ≡ true → name_at (length here) row ≡ name_at (length here) other) rows
  agree_with levels here row [] good all = tt
  agree_with levels here row (other ∷ rows) good all =
      (λ same. (bytes_eq-Decides _ _).0 (sym (share_is levels here row other good all.0) ∙ same), agree_with levels here row rows good all.1)

  agree : (levels : ℕ) (here : List Elem) (rows : List Row) → AllGood levels here rows → KeysAgree (name_at (length here)) (share_name (length here)) rows
  agree levels here [] all = tt
  agree levels here (row ∷ rows) all = (agree_with levels here row rows all.0 all.1, agree levels here rows all.1)

  rise_with : (levels : ℕ) (here : List Elem) (row : Row) (rows : List Row) → Good schema levels here row → AllGood levels here rows → AllByRecursion (λ other. row_cmp row other ≡ Less) rows
      → AllByRecursion (λ other. share_name (length here) row other ≡ false → text_cmp (name_at (length here) row) (name_at (length here) other) ≡ Less) rows
  rise_with levels here row [] good all above = tt
  rise_with levels here row (other ∷ rows) good all above =
      let g = all.0 in
      let paths = ap (λ (path : List Elem). path_cmp path other.path) (sym good.is) in (
        λ differ.
            let names : bytes_eq good.elem.name g.elem.name ≡ false =
            ap (λ n. bytes_eq n g.elem.name) (sym (name_is levels here row good)) ∙ ap (bytes_eq (name_at (length here) row)) (sym (name_is levels here other g)) ∙ sym (share_is levels here row other good g) ∙ differ in
            let less = names_rise here good.elem g.elem good.rest g.rest (subst (λ (path : List Elem). path_cmp (here ++ good.elem ∷ good.rest) path ≡ Less) g.is (paths ∙ above.0)) names in
            ap (λ n. text_cmp n (name_at (length here) other)) (name_is levels here row good) ∙ ap (text_cmp good.elem.name) (name_is levels here other g) ∙ less,
        rise_with levels here row rows good all.1 above.1,
      )

  rise : (levels : ℕ) (here : List Elem) (rows : List Row) → AllGood levels here rows → IsRising rows → Rise (name_at (length here)) text_cmp nat_list_cmp_total (share_name (length here)) rows
  unfolding IsStrictlySortedBy
  rise levels here [] all up = tt
  rise levels here (row ∷ rows) all up = (rise_with levels here row rows all.0 all.1 up.0, rise levels here rows all.1 up.1)

  -- ---- a run of rows below one node

  pub record NodeBack (sort : Sort) (node : SchemaNode) (here : List Elem) (name : List ℕ) (json : Data) (run : List Row) : Type 0 where
    pub rows : List Row
    pub same : IsPermutation run rows
    pub told : (before : List Row) → rows_at_node sort schema node here name before json ≡ Ok (before ++ rows)

  -- the elements of these rows' paths behind the instance have their key leaves among the others
  abbrev pub AllKeyed : List Row → List Elem → List Row → Type 0
  AllKeyed rows here run = AllByRecursion (λ row. KeyedFrom rows here (drop (length here) row.path)) run

  -- what is written for rows below an instance is read as them, with so many levels
  abbrev InsideBack : ℕ → Type 0
  InsideBack levels = (above : Option (List ℕ)) (here : List Elem) (rows : List Row) → AllGood levels here rows → IsRising rows → AllKeyed rows here rows → ObjectBack schema here (KeyLeaf schema here) (members_data levels schema above (names_of here) (length here) rows) rows

  same_node : (levels : ℕ) (here : List Elem) (row other : Row) (good : Good schema levels here row) (g : Good schema levels here other) → name_at (length here) other ≡ name_at (length here) row → g.elem.name ≡ good.elem.name
  same_node levels here row other good g e = sym (name_is levels here other g) ∙ e ∙ name_is levels here row good

  -- a leaf or a leaf-list has one row
  one_row : (levels : ℕ) (here : List Elem) (row : Row) (others : List Row) (good : Good schema levels here row) (node : SchemaNode) → node_of schema (names_of here ++ good.elem.name ∷ []) ≡ Some node → row.path ≡ below here good.elem.name [] → is_inner node.sort ≡ false → is_list_node node ≡ false
      → AllGood levels here others → AllByRecursion (λ other. name_at (length here) other ≡ name_at (length here) row) others → AllByRecursion (λ other. row_cmp row other ≡ Less) others → others ≡ []
  one_row levels here row [] good node found path outer plain all named above = refl
  one_row levels here row (other ∷ others) good node found path outer plain all named above =
      let g = all.0 in
      let name = same_node levels here row other good g named.0 in
      let there = node_below schema levels here other g in
      let found_there : node_of schema (names_of here ++ g.elem.name ∷ []) ≡ Some node = ap (λ (n : List ℕ). node_of schema (names_of here ++ n ∷ [])) name ∙ found in
      let same : there.node ≡ node = let e = there.found in cc in
      let just : has_just_keys g.elem node.keys ≡ true = subst (λ (n : SchemaNode). has_just_keys g.elem n.keys ≡ true) same there.just in
      let other_path : other.path ≡ row.path = leaf_path schema formed levels here other g node found_there just outer plain ∙ ap (λ (n : List ℕ). below here n []) name ∙ sym path in
      let less : path_cmp row.path row.path ≡ Less = ap (path_cmp row.path) (sym other_path) ∙ above.0 in
      let equal = tied_itself path_total row.path in
      absurd (let no : Equal ≡ Less = sym equal ∙ less in cc)

  -- one level below, where the node is no leaf and no leaf-list
  some_below : (levels : ℕ) (here : List Elem) (e elem : Elem) (rest : List Elem) (row : Row) (node : SchemaNode) → row.path ≡ here ++ elem ∷ rest → elem ≡ e → length (elem ∷ rest) ≤ suc levels → row_has_nodes schema row ≡ true → node_of schema (names_of here ++ e.name ∷ []) ≡ Some node → is_leafy node.sort ≡ false
      → row_has_type schema row ≡ true → row_ordered schema row ≡ true → IsWhole row.value → Good schema levels (here ++ e ∷ []) row
  some_below levels here e elem [] row node is same short known found inner shaped ordered whole =
      let path : row.path ≡ here ++ e ∷ [] = is ∙ ap (λ (x : Elem). here ++ x ∷ []) same in
      let at : node_at schema row.path ≡ Some node = ap (node_at schema) path ∙ ap (node_of schema) (names_below here e) ∙ found in
      let leafy : is_leafy node.sort ≡ true = sym (ap (λ (o : Option SchemaNode). if_some o (λ n. is_leafy n.sort)) at) ∙ (and_parts (if_some (node_at schema row.path) (λ n. is_leafy n.sort)) _ known).0 in
      absurd (true≢false (sym leafy ∙ inner))
  some_below levels here e elem (x ∷ rest) row node is same short known found inner shaped ordered whole =
      record {
        elem = x;
        rest = rest;
        is = is ∙ ap (λ (y : Elem). here ++ y ∷ x ∷ rest) same ∙ sym (append_assoc here (e ∷ []) (x ∷ rest));
        short = omega arith;
        known = known;
        shaped = shaped;
        ordered = ordered;
        kept = whole;
      }

  -- each row's element here is this one
  abbrev ElemsAre : (levels : ℕ) (here : List Elem) (e : Elem) (rows : List Row) → AllGood levels here rows → Type 0
  ElemsAre levels here e [] all = Unit {0}
  ElemsAre levels here e (row ∷ rows) all = (all.0.elem ≡ e) × ElemsAre levels here e rows all.1

  all_deeper : (levels : ℕ) (here : List Elem) (e : Elem) (node : SchemaNode) (rows : List Row) (all : AllGood (suc levels) here rows) → ElemsAre (suc levels) here e rows all → node_of schema (names_of here ++ e.name ∷ []) ≡ Some node → is_leafy node.sort ≡ false → AllGood levels (here ++ e ∷ []) rows
  all_deeper levels here e node [] all are found inner = tt
  all_deeper levels here e node (row ∷ rows) all are found inner =
      let g = all.0 in
      (some_below levels here e g.elem g.rest row node g.is are.0 g.short g.known found inner g.shaped g.ordered g.kept, all_deeper levels here e node rows all.1 are.1 found inner)

  one_keyed : (rows run : List Row) (here : List Elem) (e elem : Elem) (rest : List Elem) (row : Row) → row.path ≡ here ++ elem ∷ rest → elem ≡ e → Closed rows run (here ++ e ∷ []) → KeyedFrom rows here (drop (length here) row.path)
      → AllByRecursion (HasKey run (here ++ e ∷ [])) e.keys × KeyedFrom run (here ++ e ∷ []) (drop (length (here ++ e ∷ [])) row.path)
  one_keyed rows run here e elem rest row is same closed keyed =
      let place = here ++ e ∷ [] in
      let path : row.path ≡ here ++ e ∷ rest = is ∙ ap (λ (x : Elem). here ++ x ∷ rest) same in
      let front : drop (length here) row.path ≡ e ∷ rest = ap (drop (length here)) path ∙ drop-append_seam here (e ∷ rest) in
      let behind : drop (length place) row.path ≡ rest = ap (drop (length place)) (path ∙ sym (append_assoc here (e ∷ []) rest)) ∙ drop-append_seam place rest in
      let now = subst (λ (es : List Elem). KeyedFrom rows here es) front keyed in
      (keys_here rows run place e.keys closed now.0, subst (λ (es : List Elem). KeyedFrom run place es) (sym behind) (keyed_into rows run place rest closed now.1))

  keyed_deeper : (levels : ℕ) (rows run : List Row) (here : List Elem) (e : Elem) (some : List Row) (all : AllGood levels here some) → ElemsAre levels here e some all → Closed rows run (here ++ e ∷ []) → AllKeyed rows here some → AllKeyed run (here ++ e ∷ []) some
  keyed_deeper levels rows run here e [] all are closed keyed = tt
  keyed_deeper levels rows run here e (row ∷ some) all are closed keyed =
      ((one_keyed rows run here e all.0.elem all.0.rest row all.0.is are.0 closed keyed.0).1, keyed_deeper levels rows run here e some all.1 are.1 closed keyed.1)

  -- ---- each sort of node

  plain_elem : (levels : ℕ) (here : List Elem) (name : List ℕ) (node : SchemaNode) (row : Row) (good : Good schema levels here row) → good.elem.name ≡ name → node_of schema (names_of here ++ name ∷ []) ≡ Some node → is_list_node node ≡ false → good.elem ≡ record { name = name; keys = [] }
  plain_elem levels here name node row good same found plain =
      let there = node_below schema levels here row good in
      let found_there : node_of schema (names_of here ++ good.elem.name ∷ []) ≡ Some node = ap (λ (n : List ℕ). node_of schema (names_of here ++ n ∷ [])) same ∙ found in
      let one : there.node ≡ node = let e = there.found in cc in
      let just : has_just_keys good.elem node.keys ≡ true = subst (λ (n : SchemaNode). has_just_keys good.elem n.keys ≡ true) one there.just in
      let keys = plain_keys schema formed levels here good.elem node found_there plain just in
      ap (λ (ks : List (List ℕ × List ℕ)). record { name = good.elem.name; keys = ks }) keys ∙ ap (λ (n : List ℕ). record { name = n; keys = [] }) same

  plain_elems : (levels : ℕ) (here : List Elem) (name : List ℕ) (node : SchemaNode) (rows : List Row) (all : AllGood levels here rows) → AllByRecursion (λ other. name_at (length here) other ≡ name) rows → node_of schema (names_of here ++ name ∷ []) ≡ Some node → is_list_node node ≡ false → ElemsAre levels here (record { name = name; keys = [] }) rows all
  plain_elems levels here name node [] all named found plain = tt
  plain_elems levels here name node (row ∷ rows) all named found plain =
      (plain_elem levels here name node row all.0 (sym (name_is levels here row all.0) ∙ named.0) found plain, plain_elems levels here name node rows all.1 named.1 found plain)

  container_back : (levels : ℕ) → InsideBack levels → (here : List Elem) (name : List ℕ) (node : SchemaNode) (all_rows rows : List Row) → AllGood (suc levels) here rows → AllByRecursion (λ other. name_at (length here) other ≡ name) rows → IsRising rows → AllKeyed all_rows here rows → Closed all_rows rows (below here name [])
      → node_of schema (names_of here ++ name ∷ []) ≡ Some node → node.sort ≡ sorts.Container → NodeBack sorts.Container node here name (object (members_data levels schema (Some node.module_name) node.names (suc (length here)) rows)) rows
  container_back levels inside here name node all_rows rows all named up keyed closed found sort =
      let elem : Elem = record { name = name; keys = [] } in
      let place = below here name [] in
      let are = plain_elems (suc levels) here name node rows all named found (ap is_list_sort sort) in
      let back = inside (Some node.module_name) place rows (all_deeper levels here elem node rows all are found (ap is_leafy sort)) up (keyed_deeper (suc levels) all_rows rows here elem rows all are closed keyed) in
      let names : names_of place ≡ node.names = names_below here elem ∙ sym (stands_there schema (names_of here ++ name ∷ []) node found).2 in
      let depth : length place ≡ suc (length here) = simp length-append (omega arith) in
      let same : members_data levels schema (Some node.module_name) node.names (suc (length here)) rows ≡ members_data levels schema (Some node.module_name) (names_of place) (length place) rows =
      ap (λ (ns : List (List ℕ)). members_data levels schema (Some node.module_name) ns (suc (length here)) rows) (sym names) ∙ ap (λ (n : ℕ). members_data levels schema (Some node.module_name) (names_of place) n rows) (sym depth) in
      record {
        rows = rows_in back.parts;
        same = back.same;
        told = λ before. ap (rows_of_members schema place [] before) (same ∙ back.is) ∙ walk schema place back.parts before back.reads back.own;
      }

  leaf_run : (levels : ℕ) (here : List Elem) (row : Row) (others : List Row) (good : Good schema levels here row) (node : SchemaNode) → node_of schema (names_of here ++ good.elem.name ∷ []) ≡ Some node → has_just_keys good.elem node.keys ≡ true
      → AllGood levels here others → AllByRecursion (λ other. name_at (length here) other ≡ name_at (length here) row) others → AllByRecursion (λ other. row_cmp row other ≡ Less) others
      → node.sort ≡ sorts.Leaf → NodeBack sorts.Leaf node here good.elem.name (value_data node.shape (row ∷ others)) (row ∷ others)
  leaf_run levels here row others good node found just all named above sort =
      let plain : is_list_node node ≡ false = ap is_list_sort sort in
      let outer : is_inner node.sort ≡ false = ap is_inner sort in
      let path = leaf_path schema formed levels here row good node found just outer plain in
      let none = one_row levels here row others good node found path outer plain all named above in
      let taken = taken_there schema formed levels here row good.elem.name node path found good.shaped in
      record {
        rows = row ∷ others;
        same = IsPermutation-refl (row ∷ others);
        told = λ before. ap (λ (os : List Row). rows_at_node sorts.Leaf schema node here good.elem.name before (value_data node.shape (row ∷ os))) none
            ∙ leaf_row_back schema formed levels here row good.elem.name node path good.kept sort taken before ∙ ap (λ (os : List Row). Ok (before ++ row ∷ os)) (sym none);
      }

  leaf_list_run : (levels : ℕ) (here : List Elem) (row : Row) (others : List Row) (good : Good schema levels here row) (node : SchemaNode) → node_of schema (names_of here ++ good.elem.name ∷ []) ≡ Some node → has_just_keys good.elem node.keys ≡ true
      → AllGood levels here others → AllByRecursion (λ other. name_at (length here) other ≡ name_at (length here) row) others → AllByRecursion (λ other. row_cmp row other ≡ Less) others
      → node.sort ≡ sorts.LeafList → NodeBack sorts.LeafList node here good.elem.name (value_data node.shape (row ∷ others)) (row ∷ others)
  leaf_list_run levels here row others good node found just all named above sort =
      let plain : is_list_node node ≡ false = ap is_list_sort sort in
      let outer : is_inner node.sort ≡ false = ap is_inner sort in
      let path = leaf_path schema formed levels here row good node found just outer plain in
      let none = one_row levels here row others good node found path outer plain all named above in
      let taken = taken_there schema formed levels here row good.elem.name node path found good.shaped in
      record {
        rows = row ∷ others;
        same = IsPermutation-refl (row ∷ others);
        told = λ before. ap (λ (os : List Row). rows_at_node sorts.LeafList schema node here good.elem.name before (value_data node.shape (row ∷ os))) none
            ∙ leaf_list_row_back schema formed levels here row good.elem.name node path good.kept sort taken before ∙ ap (λ (os : List Row). Ok (before ++ row ∷ os)) (sym none);
      }

  named_so : (levels : ℕ) (here : List Elem) (row : Row) (good : Good schema levels here row) (others : List Row) → AllByRecursion (λ other. name_at (length here) other ≡ name_at (length here) row) others → AllByRecursion (λ other. name_at (length here) other ≡ good.elem.name) others
  named_so levels here row good [] named = tt
  named_so levels here row good (other ∷ others) named = (named.0 ∙ name_is levels here row good, named_so levels here row good others named.1)

  -- ---- entries of a list

  elem_is : (levels : ℕ) (here : List Elem) (row : Row) (good : Good schema levels here row) → elem_at (length here) row ≡ good.elem
  elem_is levels here row good = ap (λ (o : Option Elem). unwrap_or o nameless) (first_is schema levels here row good)

  entry_is : (levels : ℕ) (here : List Elem) (a b : Row) → Good schema levels here a → Good schema levels here b → share_entry (length here) a b ≡ is_eq (elem_cmp (elem_at (length here) a) (elem_at (length here) b))
  entry_is levels here a b x y =
      ap (λ (o : Option Elem). both same_elem o (slice_get b.path (length here))) (first_is schema levels here a x) ∙ ap (both same_elem (Some x.elem)) (first_is schema levels here b y)
      ∙ ap (λ (e : Elem). is_eq (elem_cmp e y.elem)) (sym (elem_is levels here a x)) ∙ ap (λ (e : Elem). is_eq (elem_cmp (elem_at (length here) a) e)) (sym (elem_is levels here b y))

  entry_agree_with : (levels : ℕ) (here : List Elem) (row : Row) (rows : List Row) → Good schema levels here row → AllGood levels here rows → AllByRecursion (λ other. share_entry (length here) row other ≡ true → elem_at (length here) row ≡ elem_at (length here) other) rows
  entry_agree_with levels here row [] good all = tt
  entry_agree_with levels here row (other ∷ rows) good all =
      (λ same. exact_elems _ _ (equal_of _ (sym (entry_is levels here row other good all.0) ∙ same)), entry_agree_with levels here row rows good all.1)

  entry_agree : (levels : ℕ) (here : List Elem) (rows : List Row) → AllGood levels here rows → KeysAgree (elem_at (length here)) (share_entry (length here)) rows
  entry_agree levels here [] all = tt
  entry_agree levels here (row ∷ rows) all = (entry_agree_with levels here row rows all.0 all.1, entry_agree levels here rows all.1)

  entry_rise_with : (levels : ℕ) (here : List Elem) (row : Row) (rows : List Row) → Good schema levels here row → AllGood levels here rows → AllByRecursion (λ other. row_cmp row other ≡ Less) rows
      → AllByRecursion (λ other. share_entry (length here) row other ≡ false → elem_cmp (elem_at (length here) row) (elem_at (length here) other) ≡ Less) rows
  entry_rise_with levels here row [] good all above = tt
  entry_rise_with levels here row (other ∷ rows) good all above =
      let g = all.0 in
      let paths : path_cmp (here ++ good.elem ∷ good.rest) (here ++ g.elem ∷ g.rest) ≡ Less = ap (λ (path : List Elem). path_cmp path (here ++ g.elem ∷ g.rest)) (sym good.is) ∙ ap (path_cmp row.path) (sym g.is) ∙ above.0 in (
        λ differ.
            let not_equal : is_eq (elem_cmp good.elem g.elem) ≡ false =
            ap (λ (e : Elem). is_eq (elem_cmp e g.elem)) (sym (elem_is levels here row good)) ∙ ap (λ (e : Elem). is_eq (elem_cmp (elem_at (length here) row) e)) (sym (elem_is levels here other g)) ∙ sym (entry_is levels here row other good g) ∙ differ in
            ap (λ (e : Elem). elem_cmp e (elem_at (length here) other)) (elem_is levels here row good) ∙ ap (elem_cmp good.elem) (elem_is levels here other g) ∙ less_of _ _ (sym (prefix_cmp here (good.elem ∷ good.rest) (g.elem ∷ g.rest)) ∙ paths) not_equal,
        entry_rise_with levels here row rows good all.1 above.1,
      )

  entry_rise : (levels : ℕ) (here : List Elem) (rows : List Row) → AllGood levels here rows → IsRising rows → Rise (elem_at (length here)) elem_cmp elem_total (share_entry (length here)) rows
  unfolding IsStrictlySortedBy
  entry_rise levels here [] all up = tt
  entry_rise levels here (row ∷ rows) all up = (entry_rise_with levels here row rows all.0 all.1 up.0, entry_rise levels here rows all.1 up.1)

  elems_of : (levels : ℕ) (here : List Elem) (e : Elem) (rows : List Row) (all : AllGood levels here rows) → AllByRecursion (λ other. elem_at (length here) other ≡ e) rows → ElemsAre levels here e rows all
  elems_of levels here e [] all same = tt
  elems_of levels here e (row ∷ rows) all same = (sym (elem_is levels here row all.0) ∙ same.0, elems_of levels here e rows all.1 same.1)

  -- a key of an entry is read from its members
  module _ (levels : ℕ) (inside : InsideBack levels) (here : List Elem) (name : List ℕ) (node : SchemaNode) (found : node_of schema (names_of here ++ name ∷ []) ≡ Some node) where
    abbrev written : List Row → Members
    written = members_data levels schema (Some node.module_name) node.names (suc (length here))

    read_key : (e : Elem) → e.name ≡ name → (entry : List Row) (ms : Members) → AllGood levels (here ++ e ∷ []) entry → (back : ObjectBack schema (here ++ e ∷ []) (KeyLeaf schema (here ++ e ∷ [])) ms entry) → (key : List ℕ × List ℕ) → list_any (bytes_eq key.0) node.keys ≡ true → HasKey entry (here ++ e ∷ []) key
        → Read schema (names_of (here ++ e ∷ [])) (object ms) key
    read_key e same entry ms all back key among h =
        let place = here ++ e ∷ [] in
        let r = h.0 in
        let good = all_in (Good schema levels place) r entry all h.1 in
        let there = node_below schema levels place r good in
        let elems : Some good.elem ≡ Some (record { name = key.0; keys = [] }) = sym (first_is schema levels place r good) ∙ ap (λ (path : List Elem). slice_get path (length place)) h.2 ∙ get_seam place (record { name = key.0; keys = [] }) [] in
        let elem : good.elem ≡ record { name = key.0; keys = [] } = cc in
        let child_found : node_of schema (names_of place ++ key.0 ∷ []) ≡ Some there.node = ap (λ (x : Elem). node_of schema (names_of place ++ x.name ∷ [])) (sym elem) ∙ there.found in
        let place_found : node_of schema (names_of place) ≡ Some node = ap (node_of schema) (names_below here e ∙ ap (λ (n : List ℕ). names_of here ++ n ∷ []) same) ∙ found in
        let leaf = key_is_leaf schema formed (names_of place) node there.node key.0 place_found among child_found in
        let this = key_found schema place key.0 r.value back.parts back.reads back.own (any_leaf schema place r key.0 there.node back.parts h.2 child_found leaf (back.found r h.1)) in
        ap (λ (x : Members). key_of_entry schema (names_of place) key.0 (object x)) back.is ∙ key_is_read schema place key.0 r.value (as_members back.parts) this ∙ ap (λ (t : List ℕ). Ok (Some t)) h.3

    pub read_keys : (e : Elem) → e.name ≡ name → (entry : List Row) (ms : Members) → AllGood levels (here ++ e ∷ []) entry → (back : ObjectBack schema (here ++ e ∷ []) (KeyLeaf schema (here ++ e ∷ [])) ms entry) → (keys : List (List ℕ × List ℕ)) → ((key : List ℕ) → list_any (bytes_eq key) (firsts keys) ≡ true → list_any (bytes_eq key) node.keys ≡ true) → AllByRecursion (HasKey entry (here ++ e ∷ [])) keys
        → AllByRecursion (Read schema (names_of (here ++ e ∷ [])) (object ms)) keys
    read_keys e same entry ms all back [] among has = tt
    read_keys e same entry ms all back (key ∷ keys) among has = (
      read_key e same entry ms all back key (among key.0 (or_left (bytes_eq key.0 key.0) _ ((bytes_eq-Decides key.0 key.0).1 refl))) has.0,
      read_keys e same entry ms all back keys (λ k any. among k (or_right (bytes_eq k key.0) _ any)) has.1,
    )

    readable : (names : List (List ℕ)) (json : Data) (k : List ℕ) (keys : List (List ℕ × List ℕ)) → AllByRecursion (Read schema names json) keys → list_any (λ (pair : List ℕ × List ℕ). bytes_eq k pair.0) keys ≡ true → Readable schema names json k
    readable names json k [] reads any = absurd (true≢false (sym any))
    readable names json k (key ∷ keys) reads any =
        elim (either_true (bytes_eq k key.0) (list_any (λ (pair : List ℕ × List ℕ). bytes_eq k pair.0) keys) any) [
          | inl w ↦ (key.1, ap (λ (n : List ℕ). key_of_entry schema names n json) ((bytes_eq-Decides k key.0).0 w) ∙ reads.0)
          | inr w ↦ readable names json k keys reads.1 w
        ]

    all_readable : (names : List (List ℕ)) (json : Data) (keys : List (List ℕ × List ℕ)) (ks : List (List ℕ)) → AllByRecursion (Read schema names json) keys → list_all (λ (k : List ℕ). list_any (λ (pair : List ℕ × List ℕ). bytes_eq k pair.0) keys) ks ≡ true → AllByRecursion (Readable schema names json) ks
    all_readable names json keys [] reads all = tt
    all_readable names json keys (k ∷ ks) reads all =
        let parts = and_parts (list_any (λ (pair : List ℕ × List ℕ). bytes_eq k pair.0) keys) (list_all (λ (x : List ℕ). list_any (λ (pair : List ℕ × List ℕ). bytes_eq x pair.0) keys) ks) all in
        (readable names json k keys reads parts.0, all_readable names json keys ks reads parts.1)

    closed_entry : (all_rows run entry : List Row) (e : Elem) → e.name ≡ name → Closed all_rows run (here ++ e ∷ []) → ((r : Row) → In r run → elem_at (length here) r ≡ e → In r entry) → Closed all_rows entry (here ++ e ∷ [])
    closed_entry all_rows run entry e same closed picks =
        λ r rest there path.
        let at : slice_get r.path (length here) ≡ Some e = ap (λ (p : List Elem). slice_get p (length here)) (path ∙ append_assoc here (e ∷ []) rest) ∙ get_seam here e rest in
        picks r (closed r rest there path) (ap (λ (o : Option Elem). unwrap_or o nameless) at)

    entry_back : (all_rows run entry : List Row) (all : AllGood (suc levels) here entry) → IsRun (elem_at (length here)) entry → IsRising entry → AllByRecursion (λ other. name_at (length here) other ≡ name) entry → node.sort ≡ sorts.List → AllKeyed all_rows here entry
        → ((e : Elem) → e.name ≡ name → Closed all_rows run (here ++ e ∷ [])) → ((r : Row) → In r run → SameKey (elem_at (length here)) elem_cmp elem_total r entry → In r entry) → EntryBack schema node here name written (keys_in (length here)) entry
    entry_back all_rows run [] all is up named sort keyed closed picks = absurd is
    entry_back all_rows run (row ∷ others) all is up named sort keyed closed picks =
        let good = all.0 in
        let e = good.elem in
        let entry = row ∷ others in
        let place = here ++ e ∷ [] in
        let same : e.name ≡ name = sym (name_is (suc levels) here row good) ∙ named.0 in
        let here_is = elem_is (suc levels) here row good in
        let are = elems_of (suc levels) here e entry all (here_is, all_then (elem_at (length here)) (elem_at (length here) row) e others here_is is) in
        let e_found : node_of schema (names_of here ++ e.name ∷ []) ≡ Some node = ap (λ (n : List ℕ). node_of schema (names_of here ++ n ∷ [])) same ∙ found in
        let closed_here = closed_entry all_rows run entry e same (closed e same) (λ r there at. picks r there (at ∙ sym here_is)) in
        let deep = all_deeper levels here e node entry all are e_found (ap is_leafy sort) in
        let keyed_there = keyed_deeper (suc levels) all_rows entry here e entry all are closed_here keyed in
        let written_back = inside (Some node.module_name) place entry deep up keyed_there in
        let names : names_of place ≡ node.names = names_below here e ∙ ap (λ (n : List ℕ). names_of here ++ n ∷ []) same ∙ sym (stands_there schema (names_of here ++ name ∷ []) node found).2 in
        let depth : length place ≡ suc (length here) = simp length-append (omega arith) in
        let back : ObjectBack schema place (KeyLeaf schema place) (written entry) entry =
        subst (λ (ns : List (List ℕ)). ObjectBack schema place (KeyLeaf schema place) (members_data levels schema (Some node.module_name) ns (suc (length here)) entry) entry) names
        (subst (λ (n : ℕ). ObjectBack schema place (KeyLeaf schema place) (members_data levels schema (Some node.module_name) (names_of place) n entry) entry) depth written_back) in
        let order : firsts e.keys ≡ in_name_order [] node.keys = keys_ordered schema (suc levels) here row good node e_found in
        let there = node_below schema (suc levels) here row good in
        let one : there.node ≡ node = let f = there.found in cc in
        let just : has_just_keys e node.keys ≡ true = subst (λ (n : SchemaNode). has_just_keys e n.keys ≡ true) one there.just in
        let among : (key : List ℕ) → list_any (bytes_eq key) (firsts e.keys) ≡ true → list_any (bytes_eq key) node.keys ≡ true =
        λ key any. elim (any_ordered key [] node.keys (ap (list_any (bytes_eq key)) (sym order) ∙ any)) [ inl w ↦ absurd (true≢false (sym w)) | inr w ↦ w ] in
        let has = (one_keyed all_rows entry here e e good.rest row good.is refl closed_here keyed.0).0 in
        let reads = read_keys e same entry (written entry) deep back e.keys among has in
        let ready = all_readable (names_of place) (object (written entry)) e.keys node.keys reads (and_parts (length e.keys == length node.keys) _ just).1 in
        let keys_are = keys_back schema (names_of place) (object (written entry)) e.keys node.keys reads ready order in
        let place_is : below here name e.keys ≡ place = ap (λ (n : List ℕ). below here n e.keys) (sym same) in
        record {
          keys = e.keys;
          rows = rows_in back.parts;
          same = back.same;
          keyed = ap (λ (ns : List (List ℕ)). keys_of_entry schema ns (object (written entry)) [] node.keys) (ap (λ (n : List ℕ). names_of here ++ n ∷ []) (sym same) ∙ sym (names_below here e)) ∙ keys_are;
          labelled = ap (λ (x : Elem). x.keys) (sym here_is);
          told = λ before. ap (λ (p : List Elem). rows_of_members schema p [] before (written entry)) place_is ∙ ap (rows_of_members schema place [] before) back.is ∙ walk schema place back.parts before back.reads back.own;
        }

    all_entries : (all_rows run : List Row) (gs : List (List Row)) → AllByRecursion (AllGood (suc levels) here) gs → AllByRecursion (IsRun (elem_at (length here))) gs → AllByRecursion IsRising gs → AllByRecursion (AllByRecursion (λ other. name_at (length here) other ≡ name)) gs → node.sort ≡ sorts.List → AllByRecursion (AllKeyed all_rows here) gs
        → ((e : Elem) → e.name ≡ name → Closed all_rows run (here ++ e ∷ [])) → ((r : Row) → In r run → AllByRecursion (λ g. SameKey (elem_at (length here)) elem_cmp elem_total r g → In r g) gs) → AllByRecursion (EntryBack schema node here name written (keys_in (length here))) gs
    all_entries all_rows run [] all are up named sort keyed closed picks = tt
    all_entries all_rows run (g ∷ gs) all are up named sort keyed closed picks = (
      entry_back all_rows run g all.0 are.0 up.0 named.0 sort keyed.0 closed (λ r there. (picks r there).0),
      all_entries all_rows run gs all.1 are.1 up.1 named.1 sort keyed.1 closed (λ r there. (picks r there).1),
    )

    keys_apart : (row : Row) (gs : List (List Row)) → name_at (length here) row ≡ name → AllByRecursion (AllByRecursion (λ other. name_at (length here) other ≡ name)) gs → AllByRecursion (Below (elem_at (length here)) elem_cmp elem_total (elem_at (length here) row)) gs
        → AllByRecursion (λ h. same_keys (keys_in (length here) h) (elem_at (length here) row).keys ≡ false) gs
    keys_apart row [] same named below = tt
    keys_apart row ([] ∷ gs) same named below = absurd below.0
    keys_apart row ((other ∷ h) ∷ gs) same named below =
        let a = elem_at (length here) row in
        let b = elem_at (length here) other in (
          false_of (same_keys b.keys a.keys) (λ e.
              let elems : b ≡ a = ap (λ (n : List ℕ). record { name = n; keys = b.keys }) (named.0.0 ∙ sym same) ∙ ap (λ (ks : KeyList). record { name = a.name; keys = ks }) (same_keys_is b.keys a.keys e) in
              let no : Equal ≡ Less = sym (tied_itself elem_total a) ∙ ap (elem_cmp a) (sym elems) ∙ below.0 in
              cc),
          keys_apart row gs same named.1 below.1,
        )
      where
        false_of : (t : Bool) → (t ≡ true → ⊥) → t ≡ false
        false_of true never = absurd (never refl)
        false_of false never = refl

    keys_differ : (gs : List (List Row)) → AllByRecursion (AllByRecursion (λ other. name_at (length here) other ≡ name)) gs → RunsRise (elem_at (length here)) elem_cmp elem_total gs → KeysDiffer schema node here name written (keys_in (length here)) gs
    keys_differ [] named up = tt
    keys_differ ([] ∷ gs) named up = absurd up
    keys_differ ((row ∷ run) ∷ gs) named up = (keys_apart row gs named.0.0 named.1 up.0, keys_differ gs named.1 up.1)

    list_run : (all_rows run : List Row) → AllGood (suc levels) here run → AllByRecursion (λ other. name_at (length here) other ≡ name) run → IsRising run → node.sort ≡ sorts.List → AllKeyed all_rows here run → ((e : Elem) → e.name ≡ name → Closed all_rows run (here ++ e ∷ []))
        → NodeBack sorts.List node here name (entries_data written (length here) run) run
    list_run all_rows run all named up sort keyed closed =
        let depth = length here in
        let gs = runs (share_entry depth) run in
        let agree_here = entry_agree (suc levels) here run all in
        let are = are_runs (elem_at depth) (share_entry depth) run agree_here in
        let rise_here = runs_rise (elem_at depth) elem_cmp elem_total (share_entry depth) run agree_here (entry_rise (suc levels) here run all up) in
        let names = all_in_runs _ (share_entry depth) run named in
        let picks : (r : Row) → In r run → AllByRecursion (λ g. SameKey (elem_at depth) elem_cmp elem_total r g → In r g) gs =
        λ r there. pick (elem_at depth) elem_cmp elem_total r gs are rise_here (subst (In r) (sym (whole_runs (share_entry depth) run)) there) in
        let entries = all_entries all_rows run gs (all_in_runs _ (share_entry depth) run all) are (all_rising (share_entry depth) run up) names sort (all_in_runs _ (share_entry depth) run keyed) closed picks in
        let told = entries_back schema node here name written (keys_in depth) gs entries (keys_differ gs names rise_here) in
        record {
          rows = told.rows;
          same = subst (λ (rs : List Row). IsPermutation rs told.rows) (whole_runs (share_entry depth) run) told.same;
          told = told.told;
        }

  node_back : (levels : ℕ) → InsideBack levels → (here : List Elem) (all_rows : List Row) (row : Row) (others : List Row) (good : Good schema (suc levels) here row) (node : SchemaNode) → node_of schema (names_of here ++ good.elem.name ∷ []) ≡ Some node → has_just_keys good.elem node.keys ≡ true
      → AllGood (suc levels) here others → AllByRecursion (λ other. name_at (length here) other ≡ name_at (length here) row) others → IsRising (row ∷ others) → AllKeyed all_rows here (row ∷ others) → ((e : Elem) → e.name ≡ good.elem.name → Closed all_rows (row ∷ others) (here ++ e ∷ []))
      → (sort : Sort) → node.sort ≡ sort → NodeBack sort node here good.elem.name (node_data (members_data levels schema (Some node.module_name) node.names (suc (length here))) sort node.shape (length here) (row ∷ others)) (row ∷ others)
  unfolding IsStrictlySortedBy
  node_back levels inside here all_rows row others good node found just all named up keyed closed sorts.Container is =
      container_back levels inside here good.elem.name node all_rows (row ∷ others) (good, all) (name_is (suc levels) here row good, named_so (suc levels) here row good others named) up keyed (closed (record { name = good.elem.name; keys = [] }) refl) found is
  node_back levels inside here all_rows row others good node found just all named up keyed closed sorts.List is =
      list_run levels inside here good.elem.name node found all_rows (row ∷ others) (good, all) (name_is (suc levels) here row good, named_so (suc levels) here row good others named) up is keyed closed
  node_back levels inside here all_rows row others good node found just all named up keyed closed sorts.Leaf is = leaf_run (suc levels) here row others good node found just all named up.0 is
  node_back levels inside here all_rows row others good node found just all named up keyed closed sorts.LeafList is = leaf_list_run (suc levels) here row others good node found just all named up.0 is

  abbrev label : ℕ → List Row → List ℕ
  label depth [] = []
  label depth (row ∷ rows) = name_at depth row

  either_spelling : (plain : Bool) (name whole : List ℕ) → (cond plain name whole ≡ name) ⊎ (cond plain name whole ≡ whole)
  either_spelling true name whole = inl refl
  either_spelling false name whole = inr refl

  -- the leaf of a run is its one row's
  run_leaf : (levels : ℕ) (above : Option (List ℕ)) (here : List Elem) (row : Row) (others : List Row) (good : Good schema (suc levels) here row) (node : SchemaNode) → node_of schema (names_of here ++ good.elem.name ∷ []) ≡ Some node → has_just_keys good.elem node.keys ≡ true
      → AllGood (suc levels) here others → AllByRecursion (λ other. name_at (length here) other ≡ name_at (length here) row) others → AllByRecursion (λ other. row_cmp row other ≡ Less) others → (own_is : own_name node.names ≡ good.elem.name)
      → (part : Part) → part.key ≡ member_name above node → part.name ≡ good.elem.name → part.json ≡ node_data (members_data levels schema (Some node.module_name) node.names (suc (length here))) node.sort node.shape (length here) (row ∷ others)
      → (r : Row) → In r (row ∷ others) → KeyLeaf schema here r part
  run_leaf levels above here row others good node found just all named up own_is part key name json r there k child path child_found sort =
      let depth = length here in
      let g = all_in (Good schema (suc levels) here) r (row ∷ others) (good, all) there in
      let elems : Some g.elem ≡ Some (record { name = k; keys = [] }) = sym (first_is schema (suc levels) here r g) ∙ ap (λ (p : List Elem). slice_get p depth) path ∙ get_seam here (record { name = k; keys = [] }) [] in
      let elem : g.elem ≡ record { name = k; keys = [] } = cc in
      let same = same_node (suc levels) here row r good g (all_in (λ other. name_at depth other ≡ name_at depth row) r (row ∷ others) (refl, named) there) in
      let name_k : good.elem.name ≡ k = sym same ∙ ap (λ (x : Elem). x.name) elem in
      let children : Some child ≡ Some node = sym child_found ∙ ap (λ (n : List ℕ). node_of schema (names_of here ++ n ∷ [])) (sym name_k) ∙ found in
      let child_is : child ≡ node = cc in
      let leaf_sort : node.sort ≡ sorts.Leaf = ap (λ (n : SchemaNode). n.sort) (sym child_is) ∙ sort in
      let plain : is_list_node node ≡ false = ap is_list_sort leaf_sort in
      let outer : is_inner node.sort ≡ false = ap is_inner leaf_sort in
      let row_path = leaf_path schema formed (suc levels) here row good node found just outer plain in
      let none = one_row (suc levels) here row others good node found row_path outer plain all named up in
      let taken = taken_there schema formed (suc levels) here row good.elem.name node row_path found good.shaped in
      let only : (row ≡ r) ⊎ ⊥ = subst (λ (os : List Row). In r (row ∷ os)) none there in
      let row_is : row ≡ r = elim only [ inl w ↦ w | inr w ↦ absurd w ] in
      let inside = members_data levels schema (Some node.module_name) node.names (suc depth) in (
        name ∙ name_k,
        record {
          child = node;
          found = ap (λ (n : List ℕ). node_of schema (names_of here ++ n ∷ [])) name ∙ found;
          leaf = ap (leaf_at node.shape) json ∙ ap (λ (s : Sort). leaf_at node.shape (node_data inside s node.shape depth (row ∷ others))) leaf_sort
              ∙ leaf_value_back schema formed (suc levels) here row others node good.kept leaf_sort taken ∙ ap (λ (x : Row). Some x.value) row_is;
          spelled = elim (either_spelling (is_module above node.module_name) (own_name node.names) (node.module_name ++ 58 ∷ own_name node.names)) [
            | inl w ↦ inl (key ∙ w ∙ own_is ∙ sym name)
            | inr w ↦ inr (key ∙ w ∙ ap (λ (n : List ℕ). node.module_name ++ 58 ∷ n) (own_is ∙ sym name))
          ];
          name_plain = ap lacks_colon (name ∙ sym own_is) ∙ own_lacks_colon node.names (formed_node schema formed _ node found).names;
          module_plain = name_lacks_colon node.module_name (formed_node schema formed _ node found).module_name;
        },
      )

  run_back : (levels : ℕ) → InsideBack levels → (above : Option (List ℕ)) (here : List Elem) (all_rows run : List Row) → AllGood (suc levels) here run → IsRun (name_at (length here)) run → IsRising run → AllKeyed all_rows here run → ((r : Row) → In r all_rows → SameKey (name_at (length here)) text_cmp nat_list_cmp_total r run → In r run)
      → RunBack schema here (KeyLeaf schema here) (member_step levels schema above (names_of here) (length here)) (label (length here)) run
  unfolding IsStrictlySortedBy
  run_back levels inside above here all_rows [] all is up keyed picks = absurd is
  run_back levels inside above here all_rows (row ∷ others) all is up keyed picks =
      let good = all.0 in
      let there = node_below schema (suc levels) here row good in
      let node = there.node in
      let closed : (e : Elem) → e.name ≡ good.elem.name → Closed all_rows (row ∷ others) (here ++ e ∷ []) =
      λ e same r rest among path.
      let at : slice_get r.path (length here) ≡ Some e = ap (λ (p : List Elem). slice_get p (length here)) (path ∙ append_assoc here (e ∷ []) rest) ∙ get_seam here e rest in
      picks r among (ap (λ (o : Option Elem). (unwrap_or o nameless).name) at ∙ same ∙ sym (name_is (suc levels) here row good)) in
      let back = node_back levels inside here all_rows row others good node there.found there.just all.1 is up keyed closed node.sort refl in
      let own_is : own_name node.names ≡ good.elem.name = ap own_name (stands_there schema (names_of here ++ good.elem.name ∷ []) node there.found).2 ∙ own_name-last (names_of here) good.elem.name in
      let found : node_of schema (names_of here ++ own_name node.names ∷ []) ≡ Some node = ap (λ (n : List ℕ). node_of schema (names_of here ++ n ∷ [])) own_is ∙ there.found in
      let module_name = name_lacks_colon node.module_name (formed_node schema formed _ node there.found).module_name in
      let own = own_lacks_colon node.names (formed_node schema formed _ node there.found).names in
      let child_is : child_of_rows schema (names_of here) (length here) (row ∷ others) ≡ Some node =
      ap (option_and_then (λ (elem : Elem). node_of schema (names_of here ++ elem.name ∷ []))) (first_is schema (suc levels) here row good) ∙ there.found in
      let part : Part = record {
        key = member_name above node;
        json = node_data (members_data levels schema (Some node.module_name) node.names (suc (length here))) node.sort node.shape (length here) (row ∷ others);
        name = good.elem.name;
        rows = back.rows;
      } in
      record {
        part = part;
        is = λ ms. ap (λ (o : Option SchemaNode). with_member (λ n. members_data levels schema (Some n.module_name) n.names (suc (length here))) above (length here) (row ∷ others) o ms) child_is;
        reads = record {
          child = node;
          named = named_at (is_module above node.module_name) schema (names_of here) node (own_name node.names) module_name own found;
          spelled = spelled_at (is_module above node.module_name) node.module_name (own_name node.names) module_name own ∙ own_is;
          told = back.told;
        };
        same = back.same;
        labelled = sym (name_is (suc levels) here row good);
        extra = run_leaf levels above here row others good node there.found there.just all.1 is up.0 own_is part refl refl refl;
      }

  runs_back : (levels : ℕ) → InsideBack levels → (above : Option (List ℕ)) (here : List Elem) (all_rows : List Row) (gs : List (List Row)) → AllByRecursion (AllGood (suc levels) here) gs → AllByRecursion (IsRun (name_at (length here))) gs → AllByRecursion IsRising gs → AllByRecursion (AllKeyed all_rows here) gs → ((r : Row) → In r all_rows → AllByRecursion (λ g. SameKey (name_at (length here)) text_cmp nat_list_cmp_total r g → In r g) gs)
      → AllByRecursion (RunBack schema here (KeyLeaf schema here) (member_step levels schema above (names_of here) (length here)) (label (length here))) gs
  runs_back levels inside above here all_rows [] all are up keyed picks = tt
  runs_back levels inside above here all_rows (run ∷ gs) all are up keyed picks =
      (run_back levels inside above here all_rows run all.0 are.0 up.0 keyed.0 (λ r there. (picks r there).0), runs_back levels inside above here all_rows gs all.1 are.1 up.1 keyed.1 (λ r there. (picks r there).1))

  less_differs : (a b : List ℕ) → text_cmp a b ≡ Less → bytes_eq b a ≡ false
  less_differs a b less = unlike b a (λ e. absurd (let no : Equal ≡ Less = sym (tied_itself nat_list_cmp_total a) ∙ ap (text_cmp a) (sym e) ∙ less in cc))

  differ_with : (depth : ℕ) (k : List ℕ) (gs : List (List Row)) → AllByRecursion (Below (name_at depth) text_cmp nat_list_cmp_total k) gs → AllByRecursion (λ other. bytes_eq (label depth other) k ≡ false) gs
  differ_with depth k [] all = tt
  differ_with depth k ([] ∷ gs) all = absurd all.0
  differ_with depth k ((row ∷ run) ∷ gs) all = (less_differs k (name_at depth row) all.0, differ_with depth k gs all.1)

  differ_of : (here : List Elem) (step : Members → List Row → Members) (depth : ℕ) (gs : List (List Row)) → RunsRise (name_at depth) text_cmp nat_list_cmp_total gs → Differ schema here (KeyLeaf schema here) step (label depth) gs
  differ_of here step depth [] up = tt
  differ_of here step depth ([] ∷ gs) up = absurd up
  differ_of here step depth ((row ∷ run) ∷ gs) up = (differ_with depth (name_at depth row) gs up.0, differ_of here step depth gs up.1)

  pub object_back : (levels : ℕ) → InsideBack levels
  unfolding members_data
  object_back zero above here [] all up keyed = record { parts = []; is = refl; reads = tt; own = tt; same = IsPermutation-refl []; found = λ r there. absurd there }
  object_back zero above here (row ∷ rows) all up keyed = absurd (let h = all.0.short in omega arith)
  object_back (suc levels) above here rows all up keyed =
      let depth = length here in
      let gs = runs (share_name depth) rows in
      let names = agree (suc levels) here rows all in
      let are = are_runs (name_at depth) (share_name depth) rows names in
      let up_runs = runs_rise (name_at depth) text_cmp nat_list_cmp_total (share_name depth) rows names (rise (suc levels) here rows all up) in
      let picks : (r : Row) → In r rows → AllByRecursion (λ g. SameKey (name_at depth) text_cmp nat_list_cmp_total r g → In r g) gs =
      λ r there. pick (name_at depth) text_cmp nat_list_cmp_total r gs are up_runs (subst (In r) (sym (whole_runs (share_name depth) rows)) there) in
      let backs = runs_back levels (object_back levels) above here rows gs (all_in_runs _ (share_name depth) rows all) are (all_rising (share_name depth) rows up) (all_in_runs _ (share_name depth) rows keyed) picks in
      let back = all_gathered schema here (KeyLeaf schema here) (member_step levels schema above (names_of here) depth) (label depth) gs backs (differ_of here (member_step levels schema above (names_of here) depth) depth gs up_runs) in
      record {
        parts = back.parts;
        is = back.is;
        reads = back.reads;
        own = back.own;
        same = subst (λ (rs : List Row). IsPermutation rs (rows_in back.parts)) (whole_runs (share_name depth) rows) back.same;
        found = λ r there. back.found r (subst (In r) (sym (whole_runs (share_name depth) rows)) there);
      }

-- The JSON at the path of a list's entry means its rows.
use Rattle.std.proofs.Common.{◌≡◌, ℕ, suc, ◌+◌, ◌-◌, ◌==◌, ◌&&◌, List, [], ◌∷◌, ◌++◌, length, take, Bool, true, false, true≢false, cond, inl, inr, bytes_eq, Option, Some, None, Result, Ok, Err, refl, sym, ap, ◌∙◌, append_assoc, arith}
use Rattle.std.specs.Prelude.{slice_get, ⊤}
use Rattle.std.specs.List.{list_all, list_any, AllByRecursion}
use Rattle.std.proofs.lemmas.Bool.{and_parts}
use Rattle.std.proofs.lemmas.List.{length-append}
use Rattle.std.proofs.lemmas.Slice.Eq.{bytes_eq-Decides}
use Rattle.serde_json.specs.Data.{Data, object, Members, no_members}
use Rattle.base_kinds.specs.declared.path.Elem.{Elem}
use Rattle.base_kinds.specs.declared.operation.Row.{Row}
use Rattle.base_kinds.specs.declared.schema.Sort.{Sort}
use Rattle.base_kinds.specs.declared.schema.Sort.TheVariants as sorts
use Rattle.base_kinds.specs.Schema.{SchemaNode, names_of, node_of, node_at}
use Rattle.base_kinds.specs.Valid.{has_key_leaf, has_just_keys}
use Rattle.json_rows.specs.declared.fault.RowsFault.{RowsFault}
use Rattle.json_rows.specs.declared.fault.RowsFault.TheVariants.{BadValue}
use Rattle.json_rows.specs.Members.{child_at}
use Rattle.base_lists.specs.Results.{and_then}
use Rattle.json_rows.specs.Entries.{KeyList, key_of_leaf, key_of_entry, same_key, key_as_in_path, entry_keys_agree}
use Rattle.json_rows.specs.Walk.{rows_at_node, rows_of_members, rows_of_object}
use Rattle.json_rows.specs.Rows.{rows_by_path, is_entry, rows_of_entry, rows_at_node_of_path, rows_at_path, rows_of_walk, rows_of_data}
use Rattle.schema_core.specs.WellFormed.{is_leaf, has_leaf, IsWellFormed}
use Rattle.schema_core.proofs.WellFormedLemmas.{keys_have_leaves}
use Rattle.json_text.specs.laws.ReadBack.{EntriesReadBack, NoEntriesReadBack}
use Rattle.json_text.specs.laws.Rows.{IsPart, in_name_order}
use Rattle.json_text.specs.Trees.{members_data, node_data, value_at_node, ends_plain, json_data}
use Rattle.base_kinds.specs.Limits.{most_elements}
use Rattle.json_text.proofs.Lasts.{ends_plain-last}
use Rattle.json_text.proofs.Below.{Good, some_of, get_seam, names_below, node_below, keys_ordered}
use Rattle.json_text.proofs.KeysBack.{Read, firsts, any_ordered, either_true, or_left, or_right}
use Rattle.json_text.proofs.Levels.{object_back, read_keys}
use Rattle.json_text.proofs.TreesBack.{all_good, all_keyed_behind, has_keys, ordered}

-- ---- keys that agree

module _ (schema : List SchemaNode) (names : List (List ℕ)) where
  record Agreed (json : Data) (k : List ℕ) (keys : KeyList) : Type 0 where
    text : List ℕ
    read : key_of_entry schema names k json ≡ Ok (Some text)
    among : list_any (same_key (k, text)) keys ≡ true

  agreed : (json : Data) (k : List ℕ) (keys : KeyList) → AllByRecursion (Read schema names json) keys → list_any (λ (pair : List ℕ × List ℕ). bytes_eq k pair.0) keys ≡ true → Agreed json k keys
  agreed json k [] reads any = absurd (true≢false (sym any))
  agreed json k (key ∷ keys) reads any =
      elim (either_true (bytes_eq k key.0) (list_any (λ (pair : List ℕ × List ℕ). bytes_eq k pair.0) keys) any) [
        | inl w ↦ record {
          text = key.1;
          read = ap (λ (n : List ℕ). key_of_entry schema names n json) ((bytes_eq-Decides k key.0).0 w) ∙ reads.0;
          among = or_left (same_key (k, key.1) key) _ (ap (λ (t : Bool). t && bytes_eq key.1 key.1) w ∙ (bytes_eq-Decides key.1 key.1).1 refl);
        }
        | inr w ↦ (let later = agreed json k keys reads.1 w in record { text = later.text; read = later.read; among = or_right (same_key (k, later.text) key) _ later.among })
      ]

  -- the keys of the path are those that the entry has
  all_agree : (json : Data) (keys : KeyList) (ks : List (List ℕ)) → AllByRecursion (Read schema names json) keys → list_all (λ (k : List ℕ). list_any (λ (pair : List ℕ × List ℕ). bytes_eq k pair.0) keys) ks ≡ true → entry_keys_agree schema names keys json ks ≡ Ok tt
  all_agree json keys [] reads all = refl
  all_agree json keys (k ∷ ks) reads all =
      let parts = and_parts (list_any (λ (pair : List ℕ × List ℕ). bytes_eq k pair.0) keys) (list_all (λ (x : List ℕ). list_any (λ (pair : List ℕ × List ℕ). bytes_eq x pair.0) keys) ks) all in
      let a = agreed json k keys reads parts.0 in
      let after : Option (List ℕ) → Result ⊤ RowsFault = λ same. entry_keys_agree schema names keys json ks in
      ap (λ (r : Result (Option (List ℕ)) RowsFault). and_then (and_then r (key_as_in_path keys k)) after) a.read ∙ ap (λ (t : Bool). and_then (cond t (Ok (Some a.text)) (Err BadValue)) after) a.among ∙ all_agree json keys ks reads parts.1

  -- an empty object has no keys
  none_disagree : (keys : KeyList) (ks : List (List ℕ)) → list_all (λ k. has_leaf schema (names ++ k ∷ [])) ks ≡ true → entry_keys_agree schema names keys (object no_members) ks ≡ Ok tt
  none_disagree keys [] all = refl
  none_disagree keys (k ∷ ks) all =
      let parts = and_parts (has_leaf schema (names ++ k ∷ [])) (list_all (λ other. has_leaf schema (names ++ other ∷ [])) ks) all in
      let there = some_of (child_at schema names k) (λ child. is_leaf child.sort) parts.0 in
      let after : Option (List ℕ) → Result ⊤ RowsFault = λ same. entry_keys_agree schema names keys (object no_members) ks in
      ap (λ (o : Option SchemaNode). and_then (and_then (key_of_leaf o k (object no_members)) (key_as_in_path keys k)) after) there.1 ∙ none_disagree keys ks parts.1

-- ---- paths of entries

written_there : (schema : List SchemaNode) (above : List Elem) (entry : Elem) (rows : List Row)
    → json_data schema (above ++ entry ∷ []) rows ≡ value_at_node (members_data most_elements schema None (names_of (above ++ entry ∷ [])) (length (above ++ entry ∷ []))) (node_at schema (above ++ entry ∷ [])) (above ++ entry ∷ []) rows
written_there schema [] entry rows = refl
written_there schema (first ∷ above) entry rows = refl

entry_with : (keys : KeyList) → (length keys == 0) ≡ false → is_entry sorts.List keys ≡ true
entry_with [] some = absurd (true≢false some)
entry_with (key ∷ keys) some = refl

module _ (schema : List SchemaNode) (above : List Elem) (entry : Elem) (node : SchemaNode) (at : node_at schema (above ++ entry ∷ []) ≡ Some node) (sort : node.sort ≡ sorts.List) (some : ends_plain (above ++ entry ∷ []) ≡ false) where
  abbrev path : List Elem
  path = above ++ entry ∷ []

  abbrev inside : List Row → Members
  inside = members_data most_elements schema None (names_of path) (length path)

  json_is : (rows : List Row) → json_data schema path rows ≡ object (inside rows)
  json_is rows =
      written_there schema above entry rows ∙ ap (λ (o : Option SchemaNode). value_at_node inside o path rows) at
      ∙ ap (λ (t : Bool). cond t (node_data inside node.sort node.shape (length path - 1) rows) (object (inside rows))) some

  get_is : slice_get path (length path - 1) ≡ Some entry
  get_is =
      let parts : length path ≡ length above + 1 = length-append above (entry ∷ []) in
      let place : length path - 1 ≡ length above = omega (arith, parts) in
      ap (slice_get path) place ∙ get_seam above entry []

  is_one : is_entry node.sort entry.keys ≡ true
  is_one = ap (λ (s : Sort). is_entry s entry.keys) sort ∙ entry_with entry.keys (sym (ends_plain-last above entry) ∙ some)

  -- where the keys agree, the object is read at the entry
  walk_is : (ms : Members) → entry_keys_agree schema (names_of path) entry.keys (object ms) node.keys ≡ Ok tt → rows_of_walk schema path (Some (object ms)) ≡ rows_of_members schema path [] [] ms
  walk_is ms agree =
      ap (λ (o : Option Elem). rows_at_path schema path o (Some (object ms))) get_is ∙ ap (λ (o : Option SchemaNode). rows_at_node_of_path schema path entry o (Some (object ms))) at
      ∙ ap (λ (t : Bool). cond t (rows_of_entry schema node path entry.keys (object ms)) (rows_at_node node.sort schema node (take (length path - 1) path) entry.name [] (object ms))) is_one
      ∙ ap (λ answer. and_then answer (λ (same : ⊤). rows_of_object schema path [] (object ms))) agree

  no_rows_path : IsWellFormed schema → (json_data schema path [] ≡ object no_members) × (rows_of_data schema path (Some (json_data schema path [])) ≡ Ok [])
  unfolding members_data
  no_rows_path formed =
      let json : json_data schema path [] ≡ object no_members = json_is [] in
      (json, ap (λ (d : Data). rows_of_data schema path (Some d)) json ∙ ap (λ answer. and_then answer rows_by_path) (walk_is no_members (none_disagree schema (names_of path) entry.keys node.keys (keys_have_leaves schema formed (names_of path) node at))))

  found : node_of schema (names_of above ++ entry.name ∷ []) ≡ Some node
  found = ap (node_of schema) (sym (names_below above entry)) ∙ at

  -- a row below the entry, seen from the instance that the list stands in
  seen_above : (row : Row) → Good schema most_elements path row → Good schema (suc most_elements) above row
  seen_above row good =
      record {
        elem = entry;
        rest = good.elem ∷ good.rest;
        is = good.is ∙ append_assoc above (entry ∷ []) (good.elem ∷ good.rest);
        short = let few = good.short in omega (arith, few);
        known = good.known;
        shaped = good.shaped;
        ordered = good.ordered;
        kept = good.kept;
      }

  -- the entry has just the keys of its list, in the order of their names
  keys_here : (row : Row) → Good schema most_elements path row → (has_just_keys entry node.keys ≡ true) × (firsts entry.keys ≡ in_name_order [] node.keys)
  unfolding seen_above
  keys_here row good =
      let outer = seen_above row good in
      let there = node_below schema (suc most_elements) above row outer in
      let one : there.node ≡ node = same_node there.node node (sym there.found ∙ found) in
      (ap (λ (n : SchemaNode). has_just_keys entry n.keys) (sym one) ∙ there.just, keys_ordered schema (suc most_elements) above row outer node found)
    where
      same_node : (a b : SchemaNode) → Some a ≡ Some b → a ≡ b
      same_node a b e = cc

  agree_at : (row : Row) (others : List Row) → IsWellFormed schema → IsPart schema path (row ∷ others) → list_all (has_key_leaf (row ∷ others) path) entry.keys ≡ true → entry_keys_agree schema (names_of path) entry.keys (object (inside (row ∷ others))) node.keys ≡ Ok tt
  agree_at row others formed part leaves =
      let rows = row ∷ others in
      let good = all_good schema path rows part.below part.known part.shaped part.ordered part.whole in
      let back = object_back schema formed most_elements None path rows good part.rising (all_keyed_behind rows path rows part.keyed) in
      let keys = keys_here row good.0 in
      let among : (key : List ℕ) → list_any (bytes_eq key) (firsts entry.keys) ≡ true → list_any (bytes_eq key) node.keys ≡ true =
      λ key any. elim (any_ordered key [] node.keys (ap (list_any (bytes_eq key)) (sym keys.1) ∙ any)) [ inl w ↦ absurd (true≢false (sym w)) | inr w ↦ w ] in
      let reads = read_keys schema formed most_elements (object_back schema formed most_elements) above entry.name node found entry refl rows (inside rows) good back entry.keys among (has_keys rows path entry.keys leaves) in
      all_agree schema (names_of path) (object (inside rows)) entry.keys node.keys reads (and_parts (length entry.keys == length node.keys) _ keys.0).1

  agree_there : (rows : List Row) → IsWellFormed schema → IsPart schema path rows → list_all (has_key_leaf rows path) entry.keys ≡ true → entry_keys_agree schema (names_of path) entry.keys (object (inside rows)) node.keys ≡ Ok tt
  agree_there [] formed part leaves = none_there entry.keys (sym (ends_plain-last above entry) ∙ some) leaves
    where
      none_there : (keys : KeyList) → (length keys == 0) ≡ false → list_all (has_key_leaf [] path) keys ≡ true → entry_keys_agree schema (names_of path) entry.keys (object (inside [])) node.keys ≡ Ok tt
      none_there [] some leaves = absurd (true≢false some)
      none_there (key ∷ keys) some leaves = absurd (true≢false (sym leaves))
  agree_there (row ∷ others) formed part leaves = agree_at row others formed part leaves

  entry_path : (rows : List Row) → IsWellFormed schema → IsPart schema path rows → list_all (has_key_leaf rows path) entry.keys ≡ true → rows_of_data schema path (Some (json_data schema path rows)) ≡ Ok rows
  entry_path rows formed part leaves =
      let good = all_good schema path rows part.below part.known part.shaped part.ordered part.whole in
      ap (λ (d : Data). rows_of_data schema path (Some d)) (json_is rows) ∙ ap (λ answer. and_then answer rows_by_path) (walk_is (inside rows) (agree_there rows formed part leaves))
      ∙ ordered schema path (inside rows) rows (object_back schema formed most_elements None path rows good part.rising (all_keyed_behind rows path rows part.keyed)) part.rising

pub entry_back_at : EntriesReadBack
entry_back_at schema above entry node rows formed at sort some part leaves = entry_path schema above entry node at sort some rows formed part leaves

pub no_entry_back_at : NoEntriesReadBack
no_entry_back_at schema above entry node formed at sort some = no_rows_path schema above entry node at sort some formed

-- A walk gives no path twice.
use Rattle.std.proofs.Common.{◌≡◌, ℕ, List, [], ◌∷◌, ◌++◌, Bool, true, false, true≢false, cond, not, ◌&&◌, ◌||◌, refl, sym, ap, ◌∙◌, subst, Option, Some, None, Result, Ok, Err, length, take, ◌-◌}
use Rattle.std.specs.List.{list_any, slice_get, IsDistinct}
use Rattle.std.specs.Str.{bytes_eq}
use Rattle.std.proofs.lemmas.Bool.{and_parts, and_from}
use Rattle.std.proofs.lemmas.List.Folds.{list_any-append}
use Rattle.std.proofs.lemmas.Slice.Eq.{bytes_eq-Decides}
use Rattle.serde_json.specs.Data.{Data, null, boolean, number, string, array, object, Items, no_items, item, Members, no_members, member}
use Rattle.base_kinds.specs.declared.path.Elem.{Elem}
use Rattle.base_kinds.specs.declared.operation.Row.{Row}
use Rattle.base_kinds.specs.declared.value.Value.{Value}
use Rattle.base_kinds.specs.declared.value.Value.TheVariants as values
use Rattle.base_kinds.specs.declared.schema.Sort.{Sort}
use Rattle.base_kinds.specs.declared.schema.Sort.TheVariants as sorts
use Rattle.base_kinds.specs.Schema.{SchemaNode, names_of, node_at}
use Rattle.base_kinds.specs.Paths.{same_path}
use Rattle.json_rows.specs.declared.fault.RowsFault.{RowsFault}
use Rattle.json_rows.specs.declared.fault.RowsFault.TheVariants.{BadValue}
use Rattle.json_rows.specs.Leaves.{leaf_at, values_from}
use Rattle.json_rows.specs.Members.{if_fresh, fresh_child, child_named, name_in}
use Rattle.base_lists.specs.Results.{and_then}
use Rattle.json_rows.specs.Entries.{KeyList, keys_of_entry, same_key, same_keys, keys_unless_seen, entry_keys_agree}
use Rattle.json_rows.specs.Walk.{below, rows_with_row, rows_with_leaf, rows_with_leaf_list, rows_at_node, rows_of_members, rows_of_entries, rows_of_object}
use Rattle.json_rows.specs.Rows.{is_entry, rows_of_entry, rows_at_node_of_path, rows_at_path, rows_of_walk}
use Rattle.json_rows.proofs.Apart.{Apart, Adds, adds_none, adds_one, adds_both, adds_wider, adds_above, distinct_rows}

-- what an answer came from
pub record Came {A B : Type 0} (told : Result A RowsFault) (next : A → Result B RowsFault) (out : B) : Type 0 where
  pub value : A
  pub is : told ≡ Ok value
  pub then : next value ≡ Ok out

pub came : {A B : Type 0} (told : Result A RowsFault) (next : A → Result B RowsFault) (out : B) → and_then told next ≡ Ok out → Came told next out
came (Ok value) next out is = record { value = value; is = refl; then = is }
came (Err fault) next out is = absurd (cc)

abbrev is_named : List ℕ → Elem → Bool
is_named name elem = bytes_eq name elem.name

abbrev is_new : List (List ℕ) → Elem → Bool
is_new seen elem = not (list_any (bytes_eq elem.name) seen)

abbrev is_keyed : List ℕ → KeyList → Elem → Bool
is_keyed name keys elem = bytes_eq name elem.name && same_keys keys elem.keys

abbrev is_other : List ℕ → List KeyList → Elem → Bool
is_other name seen elem = bytes_eq name elem.name && not (list_any (same_keys elem.keys) seen)

own_name : (name : List ℕ) → bytes_eq name name ≡ true
own_name name = (bytes_eq-Decides name name).1 refl

fresh_name : (seen : List (List ℕ)) (name : List ℕ) (child : Option SchemaNode) (node : SchemaNode) → if_fresh seen name child ≡ Ok node → list_any (bytes_eq name) seen ≡ false
fresh_name seen name None node is = absurd (cc)
fresh_name seen name (Some child) node is = by_test (list_any (bytes_eq name) seen) child is
  where
    by_test : (test : Bool) (child : SchemaNode) → cond test (Err BadValue) (Ok child) ≡ Ok node → test ≡ false
    by_test true child is = absurd (cc)
    by_test false child is = refl

pub other_keys : (seen : List KeyList) (keys : KeyList) (same : KeyList) → keys_unless_seen seen keys ≡ Ok same → (list_any (same_keys keys) seen ≡ false) × (keys ≡ same)
other_keys seen keys same is = by_test (list_any (same_keys keys) seen) is
  where
    by_test : (test : Bool) → cond test (Err BadValue) (Ok keys) ≡ Ok same → (test ≡ false) × (keys ≡ same)
    by_test true is = absurd (cc)
    by_test false is = (refl, cc)

leaf_adds : (above : List Elem) (name : List ℕ) (rows out : List Row) (value : Option Value) → rows_with_leaf (below above name []) rows value ≡ Ok out → Adds above (is_named name) rows out
leaf_adds above name rows out None is = absurd (cc)
leaf_adds above name rows out (Some value) is =
    let joined : rows_with_row (below above name []) rows value ≡ out = cc in
    adds_one above (is_named name) rows out (record { path = below above name []; value = value }) (record { name = name; keys = [] }) refl (own_name name) joined

list_adds : (above : List Elem) (name : List ℕ) (rows out : List Row) (found : Option (List Value)) → rows_with_leaf_list (below above name []) rows found ≡ Ok out → Adds above (is_named name) rows out
list_adds above name rows out None is = absurd (cc)
list_adds above name rows out (Some []) is =
    let same : rows ≡ out = cc in
    subst (λ after. Adds above (is_named name) rows after) same (adds_none above (is_named name) rows)
list_adds above name rows out (Some (value ∷ others)) is =
    let joined : rows_with_row (below above name []) rows (values.List (value ∷ others)) ≡ out = cc in
    adds_one above (is_named name) rows out (record { path = below above name []; value = values.List (value ∷ others) }) (record { name = name; keys = [] }) refl (own_name name) joined

same_named : (name : List ℕ) (elem : Elem) → is_named name elem ≡ true → name ≡ elem.name
same_named name elem is = (bytes_eq-Decides name elem.name).0 is

-- a member's name is new among those before it, and not among those behind it
named_is_new : (seen : List (List ℕ)) (name : List ℕ) → list_any (bytes_eq name) seen ≡ false → (elem : Elem) → is_named name elem ≡ true → is_new seen elem ≡ true
named_is_new seen name fresh elem is = ap (λ n. not (list_any (bytes_eq n) seen)) (sym (same_named name elem is)) ∙ ap not fresh

or_false : (a b : Bool) → not (a || b) ≡ true → (not a ≡ true) × (b ≡ false)
or_false true b is = absurd (true≢false (sym is))
or_false false true is = absurd (true≢false (sym is))
or_false false false is = (refl, refl)

or_same : (a : Bool) → (a || false) ≡ a
or_same true = refl
or_same false = refl

new_parts : (seen : List (List ℕ)) (name : List ℕ) (elem : Elem) → is_new (seen ++ name ∷ []) elem ≡ true → (is_new seen elem ≡ true) × (bytes_eq elem.name name ≡ false)
new_parts seen name elem is =
    let parts = or_false (list_any (bytes_eq elem.name) seen) (bytes_eq elem.name name || false) (sym (ap not (list_any-append (bytes_eq elem.name) seen (name ∷ []))) ∙ is) in
    (parts.0, sym (or_same (bytes_eq elem.name name)) ∙ parts.1)

named_is_not_new : (seen : List (List ℕ)) (name : List ℕ) (elem : Elem) → is_named name elem ≡ true → is_new (seen ++ name ∷ []) elem ≡ true → ⊥
named_is_not_new seen name elem is new =
    let same : elem.name ≡ name = sym (same_named name elem is) in
    true≢false (sym ((bytes_eq-Decides elem.name name).1 same) ∙ (new_parts seen name elem new).1)

own_keys : (keys : KeyList) → same_keys keys keys ≡ true
own_keys [] = refl
own_keys (key ∷ keys) = and_from (same_key key key) (same_keys keys keys) (and_from (bytes_eq key.0 key.0) (bytes_eq key.1 key.1) (own_name key.0) (own_name key.1)) (own_keys keys)

equal_keys : (a b : KeyList) → same_keys a b ≡ true → a ≡ b
equal_keys [] [] is = refl
equal_keys [] (y ∷ ys) is = absurd (true≢false (sym is))
equal_keys (x ∷ xs) [] is = absurd (true≢false (sym is))
equal_keys (x ∷ xs) (y ∷ ys) is =
    let parts = and_parts (same_key x y) (same_keys xs ys) is in
    let key = and_parts (bytes_eq x.0 y.0) (bytes_eq x.1 y.1) parts.0 in
    let name : x.0 ≡ y.0 = (bytes_eq-Decides x.0 y.0).0 key.0 in
    let text : x.1 ≡ y.1 = (bytes_eq-Decides x.1 y.1).0 key.1 in
    let others : xs ≡ ys = equal_keys xs ys parts.1 in
    λ i. (name i, text i) ∷ others i

keyed_is_other : (name : List ℕ) (seen : List KeyList) (keys : KeyList) → list_any (same_keys keys) seen ≡ false → (elem : Elem) → is_keyed name keys elem ≡ true → is_other name seen elem ≡ true
keyed_is_other name seen keys fresh elem is =
    let parts = and_parts (bytes_eq name elem.name) (same_keys keys elem.keys) is in
    let new : not (list_any (same_keys elem.keys) seen) ≡ true = ap (λ k. not (list_any (same_keys k) seen)) (sym (equal_keys keys elem.keys parts.1)) ∙ ap not fresh in
    and_from (bytes_eq name elem.name) (not (list_any (same_keys elem.keys) seen)) parts.0 new

other_parts : (name : List ℕ) (seen : List KeyList) (keys : KeyList) (elem : Elem) → is_other name (seen ++ keys ∷ []) elem ≡ true → (is_other name seen elem ≡ true) × (same_keys elem.keys keys ≡ false)
other_parts name seen keys elem is =
    let both = and_parts (bytes_eq name elem.name) (not (list_any (same_keys elem.keys) (seen ++ keys ∷ []))) is in
    let parts = or_false (list_any (same_keys elem.keys) seen) (same_keys elem.keys keys || false) (sym (ap not (list_any-append (same_keys elem.keys) seen (keys ∷ []))) ∙ both.1) in
    (and_from (bytes_eq name elem.name) (not (list_any (same_keys elem.keys) seen)) both.0 parts.0, sym (or_same (same_keys elem.keys keys)) ∙ parts.1)

keyed_is_not_other : (name : List ℕ) (seen : List KeyList) (keys : KeyList) (elem : Elem) → is_keyed name keys elem ≡ true → is_other name (seen ++ keys ∷ []) elem ≡ true → ⊥
keyed_is_not_other name seen keys elem is other =
    let parts = and_parts (bytes_eq name elem.name) (same_keys keys elem.keys) is in
    let same : same_keys elem.keys keys ≡ true = ap (λ k. same_keys k keys) (sym (equal_keys keys elem.keys parts.1)) ∙ own_keys keys in
    true≢false (sym same ∙ (other_parts name seen keys elem other).1)

mutual
  node_adds : (sort : Sort) (schema : List SchemaNode) (node : SchemaNode) (above : List Elem) (name : List ℕ) (rows out : List Row) (json : Data) → rows_at_node sort schema node above name rows json ≡ Ok out → Adds above (is_named name) rows out
  node_adds sorts.Container schema node above name rows out (object ms) is = adds_above above (record { name = name; keys = [] }) (is_new []) (is_named name) rows out (members_add schema (below above name []) [] rows out ms is) (own_name name)
  node_adds sorts.List schema node above name rows out (array items) is = adds_wider above (is_other name []) (is_named name) rows out (entries_add schema node above name [] rows out items is) (λ elem passes. (and_parts (bytes_eq name elem.name) true passes).0)
  node_adds sorts.LeafList schema node above name rows out (array items) is = list_adds above name rows out (values_from node.shape [] items) is
  node_adds sorts.Leaf schema node above name rows out json is = leaf_adds above name rows out (leaf_at node.shape json) is
  node_adds sorts.Container schema node above name rows out null is = absurd (cc)
  node_adds sorts.Container schema node above name rows out (boolean b) is = absurd (cc)
  node_adds sorts.Container schema node above name rows out (number n) is = absurd (cc)
  node_adds sorts.Container schema node above name rows out (string s) is = absurd (cc)
  node_adds sorts.Container schema node above name rows out (array items) is = absurd (cc)
  node_adds sorts.List schema node above name rows out null is = absurd (cc)
  node_adds sorts.List schema node above name rows out (boolean b) is = absurd (cc)
  node_adds sorts.List schema node above name rows out (number n) is = absurd (cc)
  node_adds sorts.List schema node above name rows out (string s) is = absurd (cc)
  node_adds sorts.List schema node above name rows out (object ms) is = absurd (cc)
  node_adds sorts.LeafList schema node above name rows out null is = absurd (cc)
  node_adds sorts.LeafList schema node above name rows out (boolean b) is = absurd (cc)
  node_adds sorts.LeafList schema node above name rows out (number n) is = absurd (cc)
  node_adds sorts.LeafList schema node above name rows out (string s) is = absurd (cc)
  node_adds sorts.LeafList schema node above name rows out (object ms) is = absurd (cc)

  members_add : (schema : List SchemaNode) (here : List Elem) (seen : List (List ℕ)) (rows out : List Row) (members : Members) → rows_of_members schema here seen rows members ≡ Ok out → Adds here (is_new seen) rows out
  members_add schema here seen rows out no_members is =
      let same : rows ≡ out = cc in
      subst (λ after. Adds here (is_new seen) rows after) same (adds_none here (is_new seen) rows)
  members_add schema here seen rows out (member text json others) is =
      let name = name_in text in
      let child = came (fresh_child schema (names_of here) seen text) (λ child. and_then (rows_at_node child.sort schema child here (name_in text) rows json) (λ more. rows_of_members schema here (seen ++ name_in text ∷ []) more others)) out is in
      let more = came (rows_at_node child.value.sort schema child.value here name rows json) (λ more. rows_of_members schema here (seen ++ name_in text ∷ []) more others) out child.then in
      let fresh = fresh_name seen name (child_named schema (names_of here) text) child.value child.is in
      adds_both here (is_named name) (is_new (seen ++ name ∷ [])) (is_new seen) rows more.value out
      (node_adds child.value.sort schema child.value here name rows more.value json more.is)
      (members_add schema here (seen ++ name ∷ []) more.value out others more.then)
      (λ elem named new. named_is_not_new seen name elem named new)
      (named_is_new seen name fresh)
      (λ elem new. (new_parts seen name elem new).0)

  entries_add : (schema : List SchemaNode) (node : SchemaNode) (above : List Elem) (name : List ℕ) (seen : List KeyList) (rows out : List Row) (items : Items) → rows_of_entries schema node above name seen rows items ≡ Ok out → Adds above (is_other name seen) rows out
  entries_add schema node above name seen rows out no_items is =
      let same : rows ≡ out = cc in
      subst (λ after. Adds above (is_other name seen) rows after) same (adds_none above (is_other name seen) rows)
  entries_add schema node above name seen rows out (item json others) is =
      let keys = came (and_then (keys_of_entry schema (names_of above ++ name ∷ []) json [] node.keys) (keys_unless_seen seen)) (λ keys. and_then (rows_of_object schema (below above name keys) rows json) (λ more. rows_of_entries schema node above name (seen ++ keys ∷ []) more others)) out is in
      let more = came (rows_of_object schema (below above name keys.value) rows json) (λ more. rows_of_entries schema node above name (seen ++ keys.value ∷ []) more others) out keys.then in
      let read = came (keys_of_entry schema (names_of above ++ name ∷ []) json [] node.keys) (keys_unless_seen seen) keys.value keys.is in
      let other = other_keys seen read.value keys.value read.then in
      let fresh : list_any (same_keys keys.value) seen ≡ false = subst (λ k. list_any (same_keys k) seen ≡ false) other.1 other.0 in
      adds_both above (is_keyed name keys.value) (is_other name (seen ++ keys.value ∷ [])) (is_other name seen) rows more.value out
      (adds_above above (record { name = name; keys = keys.value }) (is_new []) (is_keyed name keys.value) rows more.value (object_adds schema (below above name keys.value) rows more.value json more.is) (and_from (bytes_eq name name) (same_keys keys.value keys.value) (own_name name) (own_keys keys.value)))
      (entries_add schema node above name (seen ++ keys.value ∷ []) more.value out others more.then)
      (λ elem keyed another. keyed_is_not_other name seen keys.value elem keyed another)
      (keyed_is_other name seen keys.value fresh)
      (λ elem another. (other_parts name seen keys.value elem another).0)

  object_adds : (schema : List SchemaNode) (here : List Elem) (rows out : List Row) (json : Data) → rows_of_object schema here rows json ≡ Ok out → Adds here (is_new []) rows out
  object_adds schema here rows out (object ms) is = members_add schema here [] rows out ms is
  object_adds schema here rows out null is = absurd (cc)
  object_adds schema here rows out (boolean b) is = absurd (cc)
  object_adds schema here rows out (number n) is = absurd (cc)
  object_adds schema here rows out (string s) is = absurd (cc)
  object_adds schema here rows out (array items) is = absurd (cc)

apart_of : (above : List Elem) (test : Elem → Bool) (out : List Row) → Adds above test [] out → Apart out
apart_of above test out adds = subst Apart (sym adds.joined) adds.apart

last_apart : (schema : List SchemaNode) (node : SchemaNode) (path : List Elem) (last : Elem) (json : Data) (out : List Row) (test : Bool) → cond test (rows_of_entry schema node path last.keys json) (rows_at_node node.sort schema node (take (length path - 1) path) last.name [] json) ≡ Ok out → Apart out
last_apart schema node path last json out true is =
    let agreed = came (entry_keys_agree schema (names_of path) last.keys json node.keys) (λ same. rows_of_object schema path [] json) out is in
    apart_of path (is_new []) out (object_adds schema path [] out json agreed.then)
last_apart schema node path last json out false is =
    apart_of (take (length path - 1) path) (is_named last.name) out (node_adds node.sort schema node (take (length path - 1) path) last.name [] out json is)

found_apart : (schema : List SchemaNode) (path : List Elem) (last : Elem) (node : Option SchemaNode) (json : Option Data) (out : List Row) → rows_at_node_of_path schema path last node json ≡ Ok out → Apart out
found_apart schema path last None json out is = absurd (cc)
found_apart schema path last (Some node) None out is = absurd (cc)
found_apart schema path last (Some node) (Some json) out is = last_apart schema node path last json out (is_entry node.sort last.keys) is

end_apart : (schema : List SchemaNode) (path : List Elem) (last : Option Elem) (json : Option Data) (out : List Row) → rows_at_path schema path last json ≡ Ok out → Apart out
end_apart schema path None None out is = absurd (cc)
end_apart schema path None (Some json) out is = apart_of path (is_new []) out (object_adds schema path [] out json is)
end_apart schema path (Some last) json out is = found_apart schema path last (node_at schema path) json out is

-- no two rows of a walk have one path
pub walked_distinct : (schema : List SchemaNode) (path : List Elem) (json : Option Data) (out : List Row) → rows_of_walk schema path json ≡ Ok out → IsDistinct (λ a b. same_path a.path b.path) out
walked_distinct schema path json out is = distinct_rows out (end_apart schema path (slice_get path (length path - 1)) json out is)

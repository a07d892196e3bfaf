-- What a walk refuses, it refuses for the sake of the schema or of the value: a definition wants no memory.
use Rattle.std.proofs.Common.{◌≡◌, ◌⊎◌, inl, inr, ℕ, ◌-◌, List, [], ◌∷◌, ◌++◌, Bool, true, false, cond, length, take, Option, Some, None, Result, Ok, Err, refl, ap}
use Rattle.std.specs.List.{list_any, slice_get}
use Rattle.std.specs.Str.{bytes_eq}
use Rattle.base_lists.specs.Results.{and_then}
use Rattle.serde_json.specs.Data.{Data, null, boolean, number, string, array, object, Items, no_items, item, Members, no_members, member}
use Rattle.serde_json.specs.Find.{get}
use Rattle.base_kinds.specs.declared.path.Elem.{Elem}
use Rattle.base_kinds.specs.declared.operation.Row.{Row}
use Rattle.base_kinds.specs.declared.value.Value.{Value}
use Rattle.base_kinds.specs.declared.schema.Sort.{Sort}
use Rattle.base_kinds.specs.declared.schema.Sort.TheVariants as sorts
use Rattle.base_kinds.specs.Schema.{SchemaNode, names_of, node_at}
use Rattle.json_rows.specs.declared.fault.RowsFault.{RowsFault}
use Rattle.json_rows.specs.declared.fault.RowsFault.TheVariants.{NotInSchema, BadValue, NoMemory}
use Rattle.json_rows.specs.Leaves.{leaf_at, values_from}
use Rattle.json_rows.specs.Members.{if_fresh, fresh_child, child_named, child_at, qualified, name_in}
use Rattle.json_rows.specs.Entries.{KeyList, only_member, key_text_of, key_of_member, key_of_leaf, key_of_entry, required_key, with_key, keys_of_entry, same_key, same_keys, keys_unless_seen, key_as_in_path, entry_keys_agree}
use Rattle.json_rows.specs.Walk.{RowsOrFault, below, rows_with_leaf, rows_with_leaf_list, rows_at_node, rows_of_members, rows_of_entries, rows_of_object}
use Rattle.json_rows.specs.Rows.{data_of, is_entry, rows_of_entry, rows_at_last_elem, rows_at_node_of_path, rows_at_path, rows_of_walk, rows_by_path, rows_of_data, rows_of}
use Rattle.json_rows.specs.laws.Meanings.{FaultsAreTwo}

abbrev WantsNone : {A : Type 0} → Result A RowsFault → Type 0
WantsNone r = r ≡ Err NoMemory → ⊥

ok_wants : {A : Type 0} (a : A) → WantsNone (Ok a)
ok_wants a = λ is. cc

bad_wants : {A : Type 0} → WantsNone {A = A} (Err BadValue)
bad_wants = λ is. cc

unknown_wants : {A : Type 0} → WantsNone {A = A} (Err NotInSchema)
unknown_wants = λ is. cc

then_wants : {A B : Type 0} (r : Result A RowsFault) (next : A → Result B RowsFault) → WantsNone r → ((a : A) → WantsNone (next a)) → WantsNone (and_then r next)
then_wants (Ok a) next first rest is = rest a is
then_wants (Err fault) next first rest is =
    let same : fault ≡ NoMemory = cc in
    first (ap (λ f. Err f) same)

either_wants : {A : Type 0} (test : Bool) (a b : Result A RowsFault) → WantsNone a → WantsNone b → WantsNone (cond test a b)
either_wants true a b p q = p
either_wants false a b p q = q

leaf_wants : (here : List Elem) (rows : List Row) (value : Option Value) → WantsNone (rows_with_leaf here rows value)
leaf_wants here rows None = λ is. cc
leaf_wants here rows (Some value) = λ is. cc

list_wants : (here : List Elem) (rows : List Row) (found : Option (List Value)) → WantsNone (rows_with_leaf_list here rows found)
list_wants here rows None = λ is. cc
list_wants here rows (Some []) = λ is. cc
list_wants here rows (Some (value ∷ others)) = λ is. cc

fresh_wants : (seen : List (List ℕ)) (name : List ℕ) (child : Option SchemaNode) → WantsNone (if_fresh seen name child)
fresh_wants seen name None = λ is. cc
fresh_wants seen name (Some child) = either_wants (list_any (bytes_eq name) seen) (Err BadValue) (Ok child) bad_wants (ok_wants child)

one_wants : (found other : Option Data) → WantsNone (only_member found other)
one_wants None other = λ is. cc
one_wants (Some json) None = λ is. cc
one_wants (Some json) (Some other) = λ is. cc

text_wants : (value : Option Value) → WantsNone (key_text_of value)
text_wants None = λ is. cc
text_wants (Some value) = λ is. cc

member_wants : (leaf : SchemaNode) (json : Option Data) → WantsNone (key_of_member leaf json)
member_wants leaf None = λ is. cc
member_wants leaf (Some json) = text_wants (leaf_at leaf.shape json)

at_wants : (leaf : Option SchemaNode) (name : List ℕ) (entry : Data) → WantsNone (key_of_leaf leaf name entry)
at_wants None name entry = λ is. cc
at_wants (Some leaf) name entry = then_wants (only_member (get name entry) (get (qualified leaf.module_name name) entry)) (key_of_member leaf) (one_wants (get name entry) (get (qualified leaf.module_name name) entry)) (member_wants leaf)

key_wants : (schema : List SchemaNode) (names : List (List ℕ)) (name : List ℕ) (entry : Data) → WantsNone (key_of_entry schema names name entry)
key_wants schema names name entry = at_wants (child_at schema names name) name entry

required_wants : (text : Option (List ℕ)) → WantsNone (required_key text)
required_wants None = λ is. cc
required_wants (Some text) = λ is. cc

keys_want : (schema : List SchemaNode) (names : List (List ℕ)) (entry : Data) (done : KeyList) (keys : List (List ℕ)) → WantsNone (keys_of_entry schema names entry done keys)
keys_want schema names entry done [] = λ is. cc
keys_want schema names entry done (key ∷ others) =
    then_wants (and_then (key_of_entry schema names key entry) required_key) (λ text. keys_of_entry schema names entry (with_key (key, text) done) others)
    (then_wants (key_of_entry schema names key entry) required_key (key_wants schema names key entry) required_wants)
    (λ text. keys_want schema names entry (with_key (key, text) done) others)

as_wants : (keys : KeyList) (name : List ℕ) (text : Option (List ℕ)) → WantsNone (key_as_in_path keys name text)
as_wants keys name None = λ is. cc
as_wants keys name (Some text) = either_wants (list_any (same_key (name, text)) keys) (Ok (Some text)) (Err BadValue) (ok_wants (Some text)) bad_wants

agree_wants : (schema : List SchemaNode) (names : List (List ℕ)) (keys : KeyList) (entry : Data) (own : List (List ℕ)) → WantsNone (entry_keys_agree schema names keys entry own)
agree_wants schema names keys entry [] = λ is. cc
agree_wants schema names keys entry (key ∷ others) =
    then_wants (and_then (key_of_entry schema names key entry) (key_as_in_path keys key)) (λ same. entry_keys_agree schema names keys entry others)
    (then_wants (key_of_entry schema names key entry) (key_as_in_path keys key) (key_wants schema names key entry) (as_wants keys key))
    (λ same. agree_wants schema names keys entry others)

mutual
  node_wants : (sort : Sort) (schema : List SchemaNode) (node : SchemaNode) (above : List Elem) (name : List ℕ) (rows : List Row) (json : Data) → WantsNone (rows_at_node sort schema node above name rows json)
  node_wants sorts.Container schema node above name rows (object ms) = members_want schema (below above name []) [] rows ms
  node_wants sorts.List schema node above name rows (array items) = entries_want schema node above name [] rows items
  node_wants sorts.LeafList schema node above name rows (array items) = list_wants (below above name []) rows (values_from node.shape [] items)
  node_wants sorts.Leaf schema node above name rows json = leaf_wants (below above name []) rows (leaf_at node.shape json)
  node_wants sorts.Container schema node above name rows null = λ is. cc
  node_wants sorts.Container schema node above name rows (boolean b) = λ is. cc
  node_wants sorts.Container schema node above name rows (number n) = λ is. cc
  node_wants sorts.Container schema node above name rows (string s) = λ is. cc
  node_wants sorts.Container schema node above name rows (array items) = λ is. cc
  node_wants sorts.List schema node above name rows null = λ is. cc
  node_wants sorts.List schema node above name rows (boolean b) = λ is. cc
  node_wants sorts.List schema node above name rows (number n) = λ is. cc
  node_wants sorts.List schema node above name rows (string s) = λ is. cc
  node_wants sorts.List schema node above name rows (object ms) = λ is. cc
  node_wants sorts.LeafList schema node above name rows null = λ is. cc
  node_wants sorts.LeafList schema node above name rows (boolean b) = λ is. cc
  node_wants sorts.LeafList schema node above name rows (number n) = λ is. cc
  node_wants sorts.LeafList schema node above name rows (string s) = λ is. cc
  node_wants sorts.LeafList schema node above name rows (object ms) = λ is. cc

  members_want : (schema : List SchemaNode) (here : List Elem) (seen : List (List ℕ)) (rows : List Row) (members : Members) → WantsNone (rows_of_members schema here seen rows members)
  members_want schema here seen rows no_members = λ is. cc
  members_want schema here seen rows (member text json others) =
      then_wants (fresh_child schema (names_of here) seen text) (λ child. and_then (rows_at_node child.sort schema child here (name_in text) rows json) (λ more. rows_of_members schema here (seen ++ name_in text ∷ []) more others))
      (fresh_wants seen (name_in text) (child_named schema (names_of here) text))
      (λ child. then_wants (rows_at_node child.sort schema child here (name_in text) rows json) (λ more. rows_of_members schema here (seen ++ name_in text ∷ []) more others)
      (node_wants child.sort schema child here (name_in text) rows json)
      (λ more. members_want schema here (seen ++ name_in text ∷ []) more others))

  entries_want : (schema : List SchemaNode) (node : SchemaNode) (above : List Elem) (name : List ℕ) (seen : List KeyList) (rows : List Row) (items : Items) → WantsNone (rows_of_entries schema node above name seen rows items)
  entries_want schema node above name seen rows no_items = λ is. cc
  entries_want schema node above name seen rows (item json others) =
      then_wants (and_then (keys_of_entry schema (names_of above ++ name ∷ []) json [] node.keys) (keys_unless_seen seen)) (λ keys. and_then (rows_of_object schema (below above name keys) rows json) (λ more. rows_of_entries schema node above name (seen ++ keys ∷ []) more others))
      (then_wants (keys_of_entry schema (names_of above ++ name ∷ []) json [] node.keys) (keys_unless_seen seen) (keys_want schema (names_of above ++ name ∷ []) json [] node.keys) (λ keys. either_wants (list_any (same_keys keys) seen) (Err BadValue) (Ok keys) bad_wants (ok_wants keys)))
      (λ keys. then_wants (rows_of_object schema (below above name keys) rows json) (λ more. rows_of_entries schema node above name (seen ++ keys ∷ []) more others)
      (object_wants schema (below above name keys) rows json)
      (λ more. entries_want schema node above name (seen ++ keys ∷ []) more others))

  object_wants : (schema : List SchemaNode) (here : List Elem) (rows : List Row) (json : Data) → WantsNone (rows_of_object schema here rows json)
  object_wants schema here rows (object ms) = members_want schema here [] rows ms
  object_wants schema here rows null = λ is. cc
  object_wants schema here rows (boolean b) = λ is. cc
  object_wants schema here rows (number n) = λ is. cc
  object_wants schema here rows (string s) = λ is. cc
  object_wants schema here rows (array items) = λ is. cc

found_wants : (schema : List SchemaNode) (path : List Elem) (last : Elem) (node : Option SchemaNode) (json : Option Data) → WantsNone (rows_at_node_of_path schema path last node json)
found_wants schema path last None json = λ is. cc
found_wants schema path last (Some node) None = λ is. cc
found_wants schema path last (Some node) (Some json) =
    either_wants (is_entry node.sort last.keys) (rows_of_entry schema node path last.keys json) (rows_at_node node.sort schema node (take (length path - 1) path) last.name [] json)
    (then_wants (entry_keys_agree schema (names_of path) last.keys json node.keys) (λ same. rows_of_object schema path [] json) (agree_wants schema (names_of path) last.keys json node.keys) (λ same. object_wants schema path [] json))
    (node_wants node.sort schema node (take (length path - 1) path) last.name [] json)

end_wants : (schema : List SchemaNode) (path : List Elem) (last : Option Elem) (json : Option Data) → WantsNone (rows_at_path schema path last json)
end_wants schema path None None = λ is. cc
end_wants schema path None (Some json) = object_wants schema path [] json
end_wants schema path (Some last) json = found_wants schema path last (node_at schema path) json

data_wants : (schema : List SchemaNode) (path : List Elem) (json : Option Data) → WantsNone (rows_of_data schema path json)
data_wants schema path json = then_wants (rows_of_walk schema path json) rows_by_path (end_wants schema path (slice_get path (length path - 1)) json) (λ rows is. cc)

two : (answer : RowsOrFault) (fault : RowsFault) → WantsNone answer → answer ≡ Err fault → (fault ≡ NotInSchema) ⊎ (fault ≡ BadValue)
two answer NotInSchema none is = inl refl
two answer BadValue none is = inr refl
two answer NoMemory none is = absurd (none is)

pub faults_are_two : FaultsAreTwo
faults_are_two schema path text fault is = two (rows_of schema path text) fault (data_wants schema path (data_of text)) is

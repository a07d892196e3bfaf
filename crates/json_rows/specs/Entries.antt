-- The keys of a list's entry, read from the object that the entry is (RFC 7951 5.4).
use Rattle.std.specs.Prelude.{ℕ, List, [], ◌∷◌, Bool, ◌&&◌, if◌then◌else◌, Option, Some, None, Result, Ok, Err, ⊤}
use Rattle.std.specs.List.{list_any}
use Rattle.std.specs.Str.{bytes_eq}
use Rattle.std.specs.Ordering.{is_gt}
use Rattle.std.specs.Cmp.Lexicographic.{pointwise}
use Rattle.base_lists.specs.Results.{and_then}
use Rattle.serde_json.specs.Data.{Data}
use Rattle.serde_json.specs.Find.{get}
use Rattle.base_kinds.specs.declared.value.Value.{Value}
use Rattle.base_kinds.specs.Schema.{SchemaNode}
use Rattle.base_kinds.specs.Keys.{key_text}
use Rattle.base_kinds.specs.Paths.{text_cmp}
use Rattle.json_rows.specs.declared.fault.RowsFault.{RowsFault}
use Rattle.json_rows.specs.declared.fault.RowsFault.TheVariants.{BadValue}
use Rattle.json_rows.specs.Leaves.{leaf_at}
use Rattle.json_rows.specs.Members.{child_at, qualified}

abbrev pub KeyList : Type 0
KeyList = List (List ℕ × List ℕ)

-- a member has one spelling in an object, or is left out
abbrev pub only_member : Option Data → Option Data → Result (Option Data) RowsFault
only_member None other = Ok other
only_member (Some json) None = Ok (Some json)
only_member (Some json) (Some other) = Err BadValue

-- the text of the key that a key leaf's value is
abbrev pub key_text_of : Option Value → Result (Option (List ℕ)) RowsFault
key_text_of None = Err BadValue
key_text_of (Some value) = Ok (Some (key_text value))

abbrev pub key_of_member : SchemaNode → Option Data → Result (Option (List ℕ)) RowsFault
key_of_member leaf None = Ok None
key_of_member leaf (Some json) = key_text_of (leaf_at leaf.shape json)

abbrev pub key_of_leaf : Option SchemaNode → List ℕ → Data → Result (Option (List ℕ)) RowsFault
key_of_leaf None name entry = Err BadValue
key_of_leaf (Some leaf) name entry =
    and_then (only_member (get name entry) (get (qualified leaf.module_name name) entry))
    (key_of_member leaf)

-- the text of the key of this name in an entry of the list with these names, where the entry has it
abbrev pub key_of_entry :
    List SchemaNode → List (List ℕ) → List ℕ → Data → Result (Option (List ℕ)) RowsFault
key_of_entry schema names name entry = key_of_leaf (child_at schema names name) name entry

-- the keys with one more, which stands before the first whose name is above its own
abbrev pub with_key : List ℕ × List ℕ → KeyList → KeyList
with_key key [] = key ∷ []
with_key key (other ∷ others) =
    if is_gt (text_cmp other.0 key.0) then key ∷ other ∷ others else other ∷ with_key key others

-- a key that is there
abbrev pub required_key : Option (List ℕ) → Result (List ℕ) RowsFault
required_key None = Err BadValue
required_key (Some text) = Ok text

-- the keys of an entry of an array, which has them all, in the order of their names; they are read in that of the list
abbrev pub keys_of_entry :
    List SchemaNode → List (List ℕ) → Data → KeyList → List (List ℕ) → Result KeyList RowsFault
keys_of_entry schema names entry done [] = Ok done
keys_of_entry schema names entry done (key ∷ others) =
    and_then (and_then (key_of_entry schema names key entry) required_key)
    (λ text. keys_of_entry schema names entry (with_key (key, text) done) others)

abbrev pub same_key : List ℕ × List ℕ → List ℕ × List ℕ → Bool
same_key a b = bytes_eq a.0 b.0 && bytes_eq a.1 b.1

-- the same keys with the same texts
abbrev pub same_keys : KeyList → KeyList → Bool
same_keys = pointwise same_key

-- the keys of an entry, where no entry before it in the array had them
abbrev pub keys_unless_seen : List KeyList → KeyList → Result KeyList RowsFault
keys_unless_seen seen keys = if list_any (same_keys keys) seen then Err BadValue else Ok keys

-- a key that the path has too is the same there
abbrev pub key_as_in_path : KeyList → List ℕ → Option (List ℕ) → Result (Option (List ℕ)) RowsFault
key_as_in_path keys name None = Ok None
key_as_in_path keys name (Some text) =
    if list_any (same_key (name, text)) keys then Ok (Some text) else Err BadValue

-- the keys of an entry agree with those of its path, as far as the entry has them
abbrev pub entry_keys_agree :
    List SchemaNode → List (List ℕ) → KeyList → Data → List (List ℕ) → Result ⊤ RowsFault
entry_keys_agree schema names keys entry [] = Ok tt
entry_keys_agree schema names keys entry (key ∷ others) =
    and_then (and_then (key_of_entry schema names key entry) (key_as_in_path keys key))
    (λ same. entry_keys_agree schema names keys entry others)

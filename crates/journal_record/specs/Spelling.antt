-- The octets of an entry of the commit log in its journal. The format is this project's own.
-- Numbers have their highest octet first; what tells a variant has one octet, a count or a length
-- stands in front of what it counts.
use Rattle.std.specs.Prelude.{ℕ, List, [], ◌∷◌, ◌++◌, Bool, true, false, length}
use Rattle.std.specs.List.{flat_map}
use Rattle.std.specs.Int.{w16, w32, w64, to_be_bytes, cast_unsigned}
use Rattle.base_kinds.specs.declared.path.Elem.{Elem}
use Rattle.base_kinds.specs.declared.operation.Row.{Row}
use Rattle.base_kinds.specs.declared.operation.Op.{Op}
use Rattle.base_kinds.specs.declared.operation.Act.{Act}
use Rattle.base_kinds.specs.declared.operation.Act.TheVariants.{Delete, Replace, Update}
use Rattle.base_kinds.specs.declared.entry.Entry.{Entry}
use Rattle.base_kinds.specs.declared.entry.Kind.{Kind}
use Rattle.base_kinds.specs.declared.entry.Kind.TheVariants as kinds
use Rattle.base_kinds.specs.declared.value.Value.{Value, Row_of-Value, end_of-Value, more_of-Value}
use Rattle.base_kinds.specs.declared.value.Value as v
use Rattle.base_kinds.specs.Values.{row_values}

-- four octets of length, and the octets
unfoldable pub text_spelling : List ℕ → List ℕ
text_spelling octets = to_be_bytes w32 (length octets) ++ octets

-- a key's name and its value
unfoldable pub key_spelling : List ℕ × List ℕ → List ℕ
key_spelling pair = text_spelling pair.0 ++ text_spelling pair.1

-- two octets of count, and the keys
unfoldable pub keys_spelling : List (List ℕ × List ℕ) → List ℕ
keys_spelling pairs = to_be_bytes w16 (length pairs) ++ flat_map key_spelling pairs

-- an element's name and its keys
unfoldable pub elem_spelling : Elem → List ℕ
elem_spelling e = text_spelling e.name ++ keys_spelling e.keys

-- two octets of count, and the elements
unfoldable pub path_spelling : List Elem → List ℕ
path_spelling elems = to_be_bytes w16 (length elems) ++ flat_map elem_spelling elems

abbrev pub bool_octet : Bool → ℕ
bool_octet true = 1
bool_octet false = 0

-- A tag, and then the value. Signed numbers are in two's complement; a decimal has its digits and
-- how many of them stand behind the point; a list has four octets of count, and its values.
abbrev mutual
  pub value_spelling : Value → List ℕ
  value_spelling (v.Bool b) = 1 ∷ bool_octet b ∷ []
  value_spelling (v.Int number) = 2 ∷ to_be_bytes w64 (cast_unsigned w64 number)
  value_spelling (v.Uint number) = 3 ∷ to_be_bytes w64 number
  value_spelling (v.Dec digits places) =
      4 ∷ (to_be_bytes w64 (cast_unsigned w64 digits) ++ places ∷ [])
  value_spelling (v.Text octets) = 5 ∷ text_spelling octets
  value_spelling (v.Bin octets) = 6 ∷ text_spelling octets
  value_spelling (v.Enum octets) = 7 ∷ text_spelling octets
  value_spelling (v.List' n inner) =
      8 ∷ (to_be_bytes w32 (length (row_values inner)) ++ inner_values inner)

  pub inner_values : {n : _} → Row_of-Value n → List ℕ
  inner_values end_of-Value = []
  inner_values (more_of-Value first others) = value_spelling first ++ inner_values others

unfoldable pub row_spelling : Row → List ℕ
row_spelling r = path_spelling r.path ++ value_spelling r.value

-- four octets of count, and the rows
unfoldable pub rows_spelling : List Row → List ℕ
rows_spelling rs = to_be_bytes w32 (length rs) ++ flat_map row_spelling rs

abbrev pub act_octet : Act → ℕ
act_octet Delete = 1
act_octet Replace = 2
act_octet Update = 3

-- what the operation does, its path, and its rows
unfoldable pub op_spelling : Op → List ℕ
op_spelling o = act_octet o.act ∷ (path_spelling o.path ++ rows_spelling o.rows)

-- four octets of count, and the operations
unfoldable pub ops_spelling : List Op → List ℕ
ops_spelling os = to_be_bytes w32 (length os) ++ flat_map op_spelling os

-- the kind's number, and what it has: operations, a trial's id, and a deadline in eight octets
unfoldable pub kind_spelling : Kind → List ℕ
kind_spelling (kinds.Apply os) = 1 ∷ ops_spelling os
kind_spelling (kinds.Trial id os deadline) =
    2 ∷ (text_spelling id ++ (to_be_bytes w64 deadline ++ ops_spelling os))
kind_spelling kinds.Confirm = 3 ∷ []
kind_spelling kinds.Cancel = 4 ∷ []
kind_spelling kinds.Expire = 5 ∷ []
kind_spelling kinds.Restart = 6 ∷ []
kind_spelling (kinds.Extend deadline) = 7 ∷ to_be_bytes w64 deadline

-- The record of an entry: four octets of author, eight of stamp, and the kind. Its number isn't
-- there: it is that of its place.
unfoldable pub record_of : Entry → List ℕ
record_of entry =
    to_be_bytes w32 entry.author ++ (to_be_bytes w64 entry.stamp ++ kind_spelling entry.kind)

-- the operations that a kind has
abbrev pub ops_of : Kind → List Op
ops_of (kinds.Apply os) = os
ops_of (kinds.Trial id os deadline) = os
ops_of kinds.Confirm = []
ops_of kinds.Cancel = []
ops_of kinds.Expire = []
ops_of kinds.Restart = []
ops_of (kinds.Extend deadline) = []

-- Paths and values that are read back as they are written.
use Rattle.std.specs.Prelude.{◌≡◌, ℕ, ◌^◌, ◌<◌, List, true, length, FitsSigned}
use Rattle.std.specs.Int.{w64}
use Rattle.std.specs.List.{AllByRecursion}
use Rattle.std.specs.Str.{is_utf8}
use Rattle.base_kinds.specs.declared.path.Elem.{Elem}
use Rattle.base_kinds.specs.declared.value.Value.{Value}
use Rattle.base_kinds.specs.declared.value.Value as v
use Rattle.base_kinds.specs.declared.value.Value.TheVariants as values
use Rattle.base_kinds.specs.Values.{is_list, values_in}
use Rattle.gnmi_data_msg.specs.Paths.{keys_of}
use Rattle.gnmi_data_msg.specs.Writing.{path_message, value_message}

pub record IsTextKey (key : List ℕ × List ℕ) : Type 0 where
  pub name : is_utf8 key.0 ≡ true
  pub value : is_utf8 key.1 ≡ true

-- its texts are UTF-8, and its keys rise by name, each name once
pub record IsTextElem (elem : Elem) : Type 0 where
  pub name : is_utf8 elem.name ≡ true
  pub keys : AllByRecursion IsTextKey elem.keys
  pub in_order : keys_of elem.keys ≡ elem.keys

-- The texts of a path in memory are UTF-8 by their type. That its keys rise, and that a length can say how many octets it has,
-- isn't said by its type.
pub record IsWritable (path : List Elem) : Type 0 where
  pub elems : AllByRecursion IsTextElem path
  pub short : length (path_message path) < 2 ^ 64

pub record IsShortText (text : List ℕ) : Type 0 where
  pub is_text : is_utf8 text ≡ true
  pub short : length text < 2 ^ 64

-- A scalar whose numbers fit their types, and how many octets it has a length. A list is none.
abbrev pub IsWritableScalar : Value → Type 0
IsWritableScalar (v.Bool b) = Unit {0}
IsWritableScalar (v.Int number) = FitsSigned w64 number
IsWritableScalar (v.Uint number) = number < 2 ^ 64
IsWritableScalar (v.Dec digits places) = FitsSigned w64 digits × (places < 2 ^ 8)
IsWritableScalar (v.Text text) = IsShortText text
IsWritableScalar (v.Bin octets) = length octets < 2 ^ 64
IsWritableScalar (v.Enum text) = IsShortText text
IsWritableScalar (v.List' n items) = ⊥

-- a leaf-list of such scalars
pub record IsWritableList (value : Value) : Type 0 where
  pub is : is_list value ≡ true
  pub scalars : AllByRecursion IsWritableScalar (values_in value)
  pub short : length (value_message value) < 2 ^ 64

-- An enum is a string to gNMI, and is read as a text: the schema says what it is.
abbrev pub read_scalar : Value → Value
read_scalar (v.Enum text) = values.Text text
read_scalar value = value

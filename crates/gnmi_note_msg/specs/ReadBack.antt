-- Notifications that are read back as they are written.
use Rattle.std.specs.Prelude.{◌≡◌, ℕ, ◌^◌, ◌<◌, List, [], ◌∷◌, true, false, length, map, Option, Some, None}
use Rattle.std.specs.Int.{w64, cast_signed}
use Rattle.std.specs.List.{AllByRecursion}
use Rattle.std.specs.Str.{is_utf8}
use Rattle.base_kinds.specs.declared.path.Elem.{Elem}
use Rattle.base_kinds.specs.declared.operation.Row.{Row}
use Rattle.base_kinds.specs.declared.request.Given.{Given}
use Rattle.base_kinds.specs.declared.request.Given.TheVariants as given
use Rattle.base_kinds.specs.declared.request.Note.{Note}
use Rattle.base_kinds.specs.declared.value.Value.{Value}
use Rattle.base_kinds.specs.declared.value.Value as v
use Rattle.base_kinds.specs.declared.value.Value.TheVariants as values
use Rattle.base_kinds.specs.Schema.{SchemaNode}
use Rattle.base_kinds.specs.Values.{values_in}
use Rattle.gnmi_kinds.specs.declared.ask.Encoding.{Encoding}
use Rattle.gnmi_kinds.specs.declared.ask.Encoding.TheVariants as encodings
use Rattle.gnmi_kinds.specs.declared.path.GnmiPath.{GnmiPath}
use Rattle.gnmi_data_msg.specs.ReadBack.{IsTextElem, IsWritableScalar, IsWritableList, read_scalar}
use Rattle.gnmi_note_msg.specs.Notifications.{row_text, note_octets, whole_octets}
use Rattle.gnmi_note_msg.specs.Reading.{UpdateRead, NoteRead}

-- ---- what can be read back

-- the texts of its elements are UTF-8, and the keys of each rise by name, each name once
abbrev pub IsTextPath : List Elem → Type 0
IsTextPath path = AllByRecursion IsTextElem path

-- a scalar, or a list of scalars, whose numbers fit their types
abbrev pub IsWritableValue : Value → Type 0
IsWritableValue (v.List' n items) = IsWritableList (v.List' n items)
IsWritableValue value = IsWritableScalar value

-- a JSON text is octets, whatever they are
abbrev pub IsWritableIn : Encoding → Value → Type 0
IsWritableIn encodings.Json value = Unit {0}
IsWritableIn encodings.JsonIetf value = Unit {0}
IsWritableIn encodings.Proto value = IsWritableValue value
IsWritableIn encodings.Other value = IsWritableValue value

pub record IsWritableRow (encoding : Encoding) (row : Row) : Type 0 where
  pub path : IsTextPath row.path
  pub value : IsWritableIn encoding row.value

pub record IsWritableNote (schema : List SchemaNode) (encoding : Encoding) (target : List ℕ)
    (note : Note) : Type 0 where
  pub fits : note.stamp < 2 ^ 64
  pub is_text : is_utf8 target ≡ true
  pub rows : AllByRecursion (IsWritableRow encoding) note.updates
  pub paths : AllByRecursion IsTextPath note.deletes
  pub short : length (note_octets schema encoding target note) < 2 ^ 64

pub record IsWritableWhole (stamp : ℕ) (path : List Elem) (json target : List ℕ)
    (encoding : Encoding) : Type 0 where
  pub fits : stamp < 2 ^ 64
  pub is_text : is_utf8 target ≡ true
  pub is_path : IsTextPath path
  pub short : length (whole_octets stamp path json target encoding) < 2 ^ 64

-- ---- what is read

-- a path without origin and target
abbrev pub plain_path : List Elem → GnmiPath
plain_path path = record { path = path; origin = []; target = []; old_element = false }

-- the prefix has the target alone, and there is none where there is no target
abbrev pub read_prefix : List ℕ → Option GnmiPath
read_prefix [] = None
read_prefix (octet ∷ target) =
    Some (record { path = []; origin = []; target = octet ∷ target; old_element = false })

-- the value, in which an enum is a text
abbrev pub read_value : Value → Value
read_value (v.List' n items) = values.List (map read_scalar (values_in (v.List' n items)))
read_value value = read_scalar value

-- the value of a row: its JSON text, or itself
abbrev pub read_row : List SchemaNode → Encoding → Row → Given
read_row schema encodings.Json row = given.Json (row_text schema row)
read_row schema encodings.JsonIetf row = given.Json (row_text schema row)
read_row schema encodings.Proto row = given.Scalar (read_value row.value)
read_row schema encodings.Other row = given.Scalar (read_value row.value)

abbrev pub read_update : List Elem → Given → UpdateRead
read_update path value = record { path = plain_path path; value = value; duplicates = 0 }

-- An update for each row and a delete for each path, in their order. A stamp of 2^63 and more is read as that less 2^64,
-- which is below 0.
abbrev pub read_note : List SchemaNode → Encoding → List ℕ → Note → NoteRead
read_note schema encoding target note = record {
  stamp = cast_signed w64 note.stamp;
  prefix = read_prefix target;
  updates = map (λ (row : Row). read_update row.path (read_row schema encoding row)) note.updates;
  deletes = map plain_path note.deletes;
  atomic = false;
}

-- one update, whose value is the JSON text
abbrev pub read_whole : ℕ → List Elem → List ℕ → List ℕ → NoteRead
read_whole stamp path json target = record {
  stamp = cast_signed w64 stamp;
  prefix = read_prefix target;
  updates = read_update path (given.Json json) ∷ [];
  deletes = [];
  atomic = false;
}

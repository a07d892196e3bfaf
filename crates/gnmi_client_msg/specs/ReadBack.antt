-- What a target reads of a request that a client writes, and a client of a response that a target writes.
use Rattle.std.specs.Prelude.{◌≡◌, ℕ, ◌^◌, ◌<◌, List, [], ◌∷◌, true, false, length, map}
use Rattle.std.specs.List.{AllByRecursion}
use Rattle.std.specs.Str.{is_utf8}
use Rattle.base_kinds.specs.declared.path.Elem.{Elem}
use Rattle.base_kinds.specs.declared.operation.Row.{Row}
use Rattle.base_kinds.specs.declared.request.Action.{Action}
use Rattle.base_kinds.specs.declared.request.Action.TheVariants as actions
use Rattle.base_kinds.specs.declared.request.Change.{Change}
use Rattle.base_kinds.specs.declared.request.Given.{Given}
use Rattle.base_kinds.specs.declared.request.Given.TheVariants as given
use Rattle.base_kinds.specs.declared.request.Note.{Note}
use Rattle.base_kinds.specs.declared.request.UnresolvedSet.{UnresolvedSet}
use Rattle.base_kinds.specs.Schema.{SchemaNode}
use Rattle.gnmi_kinds.specs.declared.ask.Encoding.TheVariants as encodings
use Rattle.gnmi_kinds.specs.declared.ask.GetAsk.{GetAsk}
use Rattle.gnmi_ext_msg.specs.ReadBack as ext
use Rattle.gnmi_note_msg.specs.ReadBack.{IsTextPath, IsWritableValue, IsWritableNote, read_value, plain_path}
use Rattle.gnmi_get_msg.specs.Replies.{modules_of, protocol_version}
use Rattle.gnmi_client_msg.specs.declared.capabilities.Capabilities.{Capabilities}
use Rattle.gnmi_client_msg.specs.declared.capabilities.ServedEncoding.TheVariants as served
use Rattle.gnmi_client_msg.specs.declared.capabilities.ServedModel.{ServedModel}
use Rattle.gnmi_client_msg.specs.Requests.{set_message}

-- ---- Set

-- a JSON text is octets, whatever they are
abbrev pub IsWritableGiven : Given → Type 0
IsWritableGiven (given.Json json) = Unit {0}
IsWritableGiven (given.Scalar value) = IsWritableValue value
IsWritableGiven given.Missing = Unit {0}

pub record IsWritableChange (change : Change) : Type 0 where
  pub path : IsTextPath change.path
  pub value : IsWritableGiven change.given

-- what is asked for beside the operations: nothing, or a commit
abbrev pub IsWritableAction : Action → Type 0
IsWritableAction actions.Plain = Unit {0}
IsWritableAction action = ext.IsWritable action

-- Its texts are UTF-8, the keys of each element rise by name, numbers fit their types, no list holds a list, and its octets are
-- fewer than 2^64. All of it is supported.
pub record IsWritableSet (ask : UnresolvedSet) : Type 0 where
  pub prefix : IsTextPath ask.prefix
  pub target : is_utf8 ask.target ≡ true
  pub deletes : AllByRecursion IsTextPath ask.deletes
  pub replaces : AllByRecursion IsWritableChange ask.replaces
  pub updates : AllByRecursion IsWritableChange ask.updates
  pub action : IsWritableAction ask.action
  pub supported : ask.unsupported ≡ false
  pub short : length (set_message ask) < 2 ^ 64

-- a value as it is read: an enum is a text to gNMI
abbrev pub read_given : Given → Given
read_given (given.Scalar value) = given.Scalar (read_value value)
read_given (given.Json json) = given.Json json
read_given given.Missing = given.Missing

abbrev pub read_change : Change → Change
read_change change = record { path = change.path; given = read_given change.given }

-- the ask itself, in which an enum is a text
abbrev pub read_ask : UnresolvedSet → UnresolvedSet
read_ask ask = record ask {
  replaces = map read_change ask.replaces;
  updates = map read_change ask.updates;
}

-- ---- Get

-- the path behind no prefix, with its values as scalars
abbrev pub get_asked : List Elem → GetAsk
get_asked path = record {
  prefix = plain_path [];
  paths = path ∷ [];
  encoding = encodings.Proto;
  unsupported = false;
}

-- ---- responses

-- a Notification that is read whole: its stamp is an int64, and its values are written as scalars
pub record IsWritableReply (schema : List SchemaNode) (target : List ℕ) (note : Note) : Type 0 where
  pub written : IsWritableNote schema encodings.Proto target note
  pub stamp : note.stamp < 2 ^ 63

abbrev pub read_row : Row → Row
read_row row = record { path = row.path; value = read_value row.value }

-- the note itself, in which an enum is a text
abbrev pub told_note : Note → Note
told_note note = record note { updates = map read_row note.updates }

-- a model of which the name alone is told
abbrev pub model_named : List ℕ → ServedModel
model_named name = record { name = name; organization = []; version = [] }

-- the modules of the schema, the three encodings and the version of gNMI's specification
abbrev pub told_capabilities : List SchemaNode → Capabilities
told_capabilities schema = record {
  models = map model_named (modules_of schema);
  encodings = served.Json ∷ served.JsonIetf ∷ served.Proto ∷ [];
  version = protocol_version;
}

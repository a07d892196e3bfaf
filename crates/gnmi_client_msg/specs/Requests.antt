-- gnmi.proto's SetRequest and GetRequest, as a client writes them: fields by rising number.
use Rattle.std.specs.Prelude.{ℕ, List, [], ◌++◌}
use Rattle.base_kinds.specs.declared.path.Elem.{Elem}
use Rattle.base_kinds.specs.declared.request.Action.{Action}
use Rattle.base_kinds.specs.declared.request.Action.TheVariants as actions
use Rattle.base_kinds.specs.declared.request.Change.{Change}
use Rattle.base_kinds.specs.declared.request.Given.{Given}
use Rattle.base_kinds.specs.declared.request.Given.TheVariants as given
use Rattle.base_kinds.specs.declared.request.UnresolvedSet.{UnresolvedSet}
use Rattle.pb_wire.specs.Writing.{varint_field, octets_field}
use Rattle.gnmi_data_msg.specs.Numbers.{path_target, json_ietf_val, update_path, update_val}
use Rattle.gnmi_data_msg.specs.Writing.{text_field, message_fields, path_message, value_message}
use Rattle.gnmi_ext_msg.specs.Numbers.{extension_commit}
use Rattle.gnmi_ext_msg.specs.Writing.{commit_message}
use Rattle.gnmi_data_msg.specs.Encodings.{encoding_proto}
use Rattle.gnmi_set_msg.specs.Numbers.{set_prefix, set_delete, set_replace, set_update, set_extension}
use Rattle.gnmi_get_msg.specs.Numbers.{get_path, get_encoding}

-- ---- Set (gNMI 3.4.1)

-- The value of an Update: a JSON text as that of RFC 7951 (gNMI 2.3.1), a scalar or a list of scalars as itself. A missing one
-- isn't written.
abbrev pub given_field : Given → List ℕ
given_field (given.Json json) = octets_field update_val (octets_field json_ietf_val json)
given_field (given.Scalar value) = octets_field update_val (value_message value)
given_field given.Missing = []

-- an Update, whose path is written also where it is the root
abbrev pub change_message : Change → List ℕ
change_message change =
    octets_field update_path (path_message change.path) ++ given_field change.given

-- a Path with these elements and this target
abbrev pub prefix_message : List Elem → List ℕ → List ℕ
prefix_message prefix target = path_message prefix ++ text_field path_target target

-- The extension of a commit. A Set that asks for none has no extension, and one that asks for Mixed a Commit without an action.
abbrev pub commit_field : Action → List ℕ
commit_field actions.Plain = []
commit_field action = octets_field set_extension (octets_field extension_commit (commit_message action))

-- A SetRequest. The prefix is written where it has an element or a target.
abbrev pub set_message : UnresolvedSet → List ℕ
set_message ask =
    text_field set_prefix (prefix_message ask.prefix ask.target)
    ++ message_fields path_message set_delete ask.deletes
    ++ message_fields change_message set_replace ask.replaces
    ++ message_fields change_message set_update ask.updates
    ++ commit_field ask.action

-- ---- Get (gNMI 3.3.1)

-- a GetRequest of one path, for values as scalars
abbrev pub get_message : List Elem → List ℕ
get_message path = octets_field get_path (path_message path) ++ varint_field get_encoding encoding_proto

-- gnmi.proto's Update and Notification, as they are written: fields by rising number.
use Rattle.std.specs.Prelude.{ℕ, List, [], ◌∷◌, ◌++◌}
use Rattle.std.specs.Option.{option_map_or, option_and_then}
use Rattle.base_kinds.specs.declared.path.Elem.{Elem}
use Rattle.base_kinds.specs.declared.operation.Row.{Row}
use Rattle.base_kinds.specs.declared.request.Note.{Note}
use Rattle.base_kinds.specs.Schema.{SchemaNode, node_at}
use Rattle.json_text.specs.Leaves.{leaf_text}
use Rattle.gnmi_kinds.specs.declared.ask.Encoding.{Encoding}
use Rattle.gnmi_kinds.specs.declared.ask.Encoding.TheVariants as encodings
use Rattle.pb_wire.specs.Writing.{octets_field}
use Rattle.gnmi_data_msg.specs.Numbers.{json_val, json_ietf_val, update_path, update_val, note_timestamp, note_prefix, note_update, note_delete}
use Rattle.gnmi_data_msg.specs.Writing.{message_fields, number_field, path_message, target_message, value_message}

-- an Update of a path, its value being these octets of a TypedValue
abbrev pub update_message : List Elem → List ℕ → List ℕ
update_message path typed =
    octets_field update_path (path_message path) ++ octets_field update_val typed

-- A prefix with the target alone, which isn't written where there is no target.
abbrev pub prefix_field : List ℕ → List ℕ
prefix_field [] = []
prefix_field (octet ∷ target) = octets_field note_prefix (target_message (octet ∷ target))

-- a Notification with these fields of updates; the stamp is in nanoseconds
abbrev pub note_message : ℕ → List ℕ → List ℕ → List (List Elem) → List ℕ
note_message stamp target updates deletes =
    number_field note_timestamp stamp ++ prefix_field target ++ updates
    ++ message_fields path_message note_delete deletes

-- The JSON text of a row. Where its path is no leaf or leaf-list of the schema it is empty.
abbrev pub row_text : List SchemaNode → Row → List ℕ
row_text schema row =
    option_map_or (λ shape. leaf_text shape row.value)
    (option_and_then (λ node. node.shape) (node_at schema row.path)) []

-- the field of a TypedValue that holds a JSON text: `json_val` for JSON, and else that of RFC 7951
abbrev pub json_number : Encoding → ℕ
json_number encodings.Json = json_val
json_number _ = json_ietf_val

-- a TypedValue with the value of a row: scalars, but for the two encodings of JSON
abbrev pub row_value : List SchemaNode → Encoding → Row → List ℕ
row_value schema encodings.Json row = octets_field json_val (row_text schema row)
row_value schema encodings.JsonIetf row = octets_field json_ietf_val (row_text schema row)
row_value schema encodings.Proto row = value_message row.value
row_value schema encodings.Other row = value_message row.value

abbrev pub row_update : List SchemaNode → Encoding → Row → List ℕ
row_update schema encoding row = update_message row.path (row_value schema encoding row)

-- the Notification of what a stream sends, with a prefix of this target
abbrev pub note_octets : List SchemaNode → Encoding → List ℕ → Note → List ℕ
note_octets schema encoding target note =
    note_message note.stamp target
    (message_fields (row_update schema encoding) note_update note.updates) note.deletes

-- the octets of a TypedValue with a JSON text
abbrev pub json_message : Encoding → List ℕ → List ℕ
json_message encoding json = octets_field (json_number encoding) json

-- the Notification of one path, whose value is a JSON text
abbrev pub whole_octets : ℕ → List Elem → List ℕ → List ℕ → Encoding → List ℕ
whole_octets stamp path json target encoding =
    note_message stamp target
    (octets_field note_update (update_message path (json_message encoding json))) []

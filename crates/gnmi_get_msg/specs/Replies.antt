-- gnmi.proto's GetResponse and CapabilityResponse, as they are written: fields by rising number.
use Rattle.std.specs.Prelude.{ℕ, List, [], ◌∷◌, ◌++◌, map, fold, codes, if◌then◌else◌}
use Rattle.std.specs.List.{list_any}
use Rattle.std.specs.Str.{bytes_eq}
use Rattle.base_kinds.specs.Schema.{SchemaNode}
use Rattle.pb_wire.specs.Writing.{octets_field}
use Rattle.gnmi_data_msg.specs.Writing.{text_field, message_fields}
use Rattle.gnmi_data_msg.specs.Encodings.{encoding_json, encoding_json_ietf, encoding_proto}
use Rattle.gnmi_data_msg.specs.Models.{model_name}
use Rattle.gnmi_get_msg.specs.Numbers.{reply_notification, supported_models, supported_encodings, gnmi_version}

-- a GetResponse of these Notifications, each given by its octets (gNMI 3.3.2)
abbrev pub get_reply : List (List ℕ) → List ℕ
get_reply notes = message_fields (λ note. note) reply_notification notes

-- the names so far, and this one if it is none of them
abbrev pub with_name : List (List ℕ) → List ℕ → List (List ℕ)
with_name names name = if list_any (bytes_eq name) names then names else names ++ name ∷ []

-- each name once, in the order of first appearance
abbrev pub distinct : List (List ℕ) → List (List ℕ)
distinct names = fold with_name [] names

-- the modules of a schema's nodes
abbrev pub modules_of : List SchemaNode → List (List ℕ)
modules_of schema = distinct (map (λ node. node.module_name) schema)

-- a ModelData with a name alone
abbrev pub model_message : List ℕ → List ℕ
model_message name = text_field model_name name

-- JSON, JSON_IETF and PROTO, packed (protobuf.dev, "Encoding", "Packed Repeated Fields")
abbrev pub encodings : List ℕ
encodings = encoding_json ∷ encoding_json_ietf ∷ encoding_proto ∷ []

-- the version of gNMI's specification that is followed
abbrev pub protocol_version : List ℕ
protocol_version = codes "0.10.0"

-- a CapabilityResponse (gNMI 3.2.2): the models, the encodings and the version of gNMI
abbrev pub capabilities : List SchemaNode → List ℕ
capabilities schema =
    message_fields model_message supported_models (modules_of schema)
    ++ octets_field supported_encodings encodings ++ octets_field gnmi_version protocol_version

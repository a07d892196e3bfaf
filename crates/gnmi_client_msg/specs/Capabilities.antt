-- What the octets of gnmi.proto's CapabilityResponse tell (gNMI 3.2.2). `None` stands where they are no such message.
use Rattle.std.specs.Prelude.{ℕ, List, [], ◌∷◌, map, Bool, true, false, nat_lt, Option, Some, None, ◌==◌, if◌then◌else◌}
use Rattle.std.specs.Option.{option_map_or}
use Rattle.std.specs.List.{flat_map}
use Rattle.base_lists.specs.Options.{◌>>=◌}
use Rattle.pb_wire.specs.declared.field.Field.{Field}
use Rattle.pb_wire.specs.Values.{varint_in, octets_in}
use Rattle.pb_message.specs.Fields.{is_message}
use Rattle.pb_message.specs.Values.{pieces_under, text_under}
use Rattle.gnmi_data_msg.specs.Models.{model_name}
use Rattle.gnmi_data_msg.specs.Parts.{each, fields_in}
use Rattle.gnmi_get_msg.specs.Numbers.{supported_models, supported_encodings, gnmi_version}
use Rattle.gnmi_client_msg.specs.declared.capabilities.ServedModel.{ServedModel}
use Rattle.gnmi_client_msg.specs.declared.capabilities.ServedEncoding.{ServedEncoding}
use Rattle.gnmi_client_msg.specs.declared.capabilities.ServedEncoding.TheVariants as served
use Rattle.gnmi_client_msg.specs.declared.capabilities.Capabilities.{Capabilities}

-- ModelData
abbrev pub model_organization : ℕ
model_organization = 2

abbrev pub model_version : ℕ
model_version = 3

unfoldable pub model_of : List ℕ → Option ServedModel
model_of octets =
    if is_message octets then (do
      name ← text_under model_name octets
      organization ← text_under model_organization octets
      version ← text_under model_version octets
      Some (record { name = name; organization = organization; version = version }))
    else None

-- the encoding with this number of gnmi.proto's Encoding
abbrev pub served_of : ℕ → ServedEncoding
served_of number =
    if number == 0 then served.Json
    else if number == 1 then served.Bytes
    else if number == 2 then served.Proto
    else if number == 3 then served.Ascii
    else if number == 4 then served.JsonIetf
    else served.Other number

-- Packed numbers of one octet each, in their order: an octet below 128 that doesn't end a longer varint, or that does with the
-- truth value. Longer varints, which stand for no encoding that has a name, are left out.
abbrev pub short_numbers : Bool → List ℕ → List ℕ
short_numbers inside [] = []
short_numbers inside (octet ∷ octets) =
    if nat_lt octet 128
    then (if inside then short_numbers false octets else octet ∷ short_numbers false octets)
    else short_numbers true octets

-- The encodings in one field: one number, or packed ones (protobuf.dev, "Encoding", "Packed Repeated Fields").
abbrev pub encodings_in : List ℕ → Field → List ServedEncoding
encodings_in octets field =
    option_map_or (λ number. served_of number ∷ [])
    (varint_in supported_encodings field)
    (option_map_or (λ piece. map served_of (short_numbers false piece))
    (octets_in octets supported_encodings field)
    [])

unfoldable pub capabilities_of : List ℕ → Option Capabilities
capabilities_of octets = do
  fields ← fields_in octets
  models ← each model_of (pieces_under supported_models octets)
  version ← text_under gnmi_version octets
  Some (record {
    models = models;
    encodings = flat_map (encodings_in octets) fields;
    version = version;
  })

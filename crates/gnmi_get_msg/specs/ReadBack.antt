-- What a reader of a GetResponse and a CapabilityResponse finds. `None` stands where the octets are no such message.
use Rattle.std.specs.Prelude.{◌≡◌, ℕ, ◌^◌, ◌<◌, List, true, length, Option, Some, None, if◌then◌else◌}
use Rattle.std.specs.List.{AllByRecursion, concat}
use Rattle.std.specs.Str.{is_utf8}
use Rattle.base_lists.specs.Options.{◌>>=◌}
use Rattle.pb_message.specs.Fields.{is_message}
use Rattle.pb_message.specs.Values.{pieces_under, text_under}
use Rattle.gnmi_data_msg.specs.Parts.{each}
use Rattle.gnmi_data_msg.specs.declared.models.ModelData.{ModelData}
use Rattle.gnmi_data_msg.specs.Models.{model_of}
use Rattle.gnmi_get_msg.specs.Numbers.{reply_notification, supported_models, supported_encodings, gnmi_version}

-- the octets of the Notifications of a GetResponse
abbrev pub notes_in : List ℕ → Option (List (List ℕ))
notes_in octets = if is_message octets then Some (pieces_under reply_notification octets) else None

-- a CapabilityResponse, the numbers of its encodings in their packed octets
pub record CapabilitiesRead : Type 0 where
  pub models : List ModelData
  pub packed_encodings : List ℕ
  pub version : List ℕ

unfoldable pub capabilities_in : List ℕ → Option CapabilitiesRead
capabilities_in octets =
    if is_message octets then (do
      models ← each model_of (pieces_under supported_models octets)
      version ← text_under gnmi_version octets
      Some (record {
        models = models;
        packed_encodings = concat (pieces_under supported_encodings octets);
        version = version;
      }))
    else None

abbrev pub model_named : List ℕ → ModelData
model_named name = record { name = name }

-- names that are UTF-8
abbrev pub AreTextNames : List (List ℕ) → Type 0
AreTextNames names = AllByRecursion (λ name. is_utf8 name ≡ true) names

-- octets of which a field holds so many
abbrev pub AreShort : List (List ℕ) → Type 0
AreShort items = AllByRecursion (λ item. length item < 2 ^ 64) items

-- What is written of a GetResponse and a CapabilityResponse is found in it.
use Rattle.std.proofs.Common.{◌≡◌, ℕ, ◌+◌, ◌^◌, ◌<◌, ◌≤◌, true, List, [], ◌∷◌, ◌++◌, length, Some, refl, ap, ◌∙◌, arith, append-nil, lit≤}
use Rattle.std.specs.Prelude.{map}
use Rattle.std.specs.List.{AllByRecursion}
use Rattle.std.specs.Str.{is_utf8, chars}
use Rattle.std.proofs.lemmas.List.{length-append}
use Rattle.base_kinds.specs.Schema.{SchemaNode}
use Rattle.pb_wire.specs.Writing.{octets_field}
use Rattle.pb_wire.specs.Values.{occurrences}
use Rattle.pb_message.specs.Fields.{all_fields}
use Rattle.pb_message.specs.Values.{pieces_under}
use Rattle.pb_message.proofs.Repeated.{repeated_passes, repeated_pieces}
use Rattle.pb_message.proofs.Written.{fields_are, passes}
use Rattle.gnmi_data_msg.specs.Parts.{each}
use Rattle.gnmi_data_msg.specs.Writing.{message_fields}
use Rattle.gnmi_data_msg.proofs.FieldsIn.{is_read}
use Rattle.gnmi_data_msg.proofs.ReadBack.{appended, one_field, text_there, messages_there, items_short, text_short, text_read}
use Rattle.gnmi_data_msg.specs.Models.{model_name, model_of}
use Rattle.gnmi_get_msg.specs.Numbers.{reply_notification, supported_models, supported_encodings, gnmi_version}
use Rattle.gnmi_get_msg.specs.Replies.{get_reply, modules_of, model_message, encodings, protocol_version, capabilities}
use Rattle.gnmi_get_msg.specs.ReadBack.{notes_in, capabilities_in, model_named, AreTextNames, AreShort}

pub notes_found : (notes : List (List ℕ)) → AreShort notes → notes_in (get_reply notes) ≡ Some notes
notes_found notes short =
    rw (
      repeated_passes reply_notification notes (lit≤ tt) (lit≤ tt) short,
      repeated_pieces reply_notification notes (lit≤ tt) (lit≤ tt) short,
    ) refl

model_read : (name : List ℕ) → is_utf8 name ≡ true → length (model_message name) < 2 ^ 64
    → model_of (model_message name) ≡ Some (model_named name)
unfolding model_of
model_read name is short =
    let own : length name ≤ length (model_message name) = text_short model_name name in
    let there = text_there model_name name (lit≤ tt) (lit≤ tt) (omega (arith, own, short)) in
    rw (
      is_read (model_message name) there.fields there.is,
      text_read (model_message name) model_name there.fields name (there.holds model_name) is,
    ) refl

models_read : (names : List (List ℕ)) → AreTextNames names → AllByRecursion (λ name. length (model_message name) < 2 ^ 64) names
    → each model_of (map model_message names) ≡ Some (map model_named names)
models_read [] all short = refl
models_read (name ∷ names) all short = rw (model_read name all.0 short.0, models_read names all.1 short.1) refl

version_is_text : is_utf8 protocol_version ≡ true
unfolding is_utf8 chars lib.Utf8.encode
version_is_text = refl

pub capabilities_found : (schema : List SchemaNode) → AreTextNames (modules_of schema) → length (capabilities schema) < 2 ^ 64
    → capabilities_in (capabilities schema)
    ≡ Some (record { models = map model_named (modules_of schema); packed_encodings = encodings; version = protocol_version })
unfolding capabilities_in
capabilities_found schema are short =
    let names : List (List ℕ) = modules_of schema in
    let m : List ℕ = message_fields model_message supported_models names in
    let e : List ℕ = octets_field supported_encodings encodings in
    let v : List ℕ = octets_field gnmi_version protocol_version in
    let all : length (m ++ e ++ v) ≡ length (m ++ e) + length v = length-append (m ++ e) v in
    let two : length (m ++ e) ≡ length m + length e = length-append m e in
    let three : 3 < 2 ^ 64 = omega arith in
    let six : 6 < 2 ^ 64 = omega arith in
    let each_short = items_short model_message supported_models names (omega (arith, all, two, short)) in
    let there = appended (appended (messages_there model_message supported_models names (lit≤ tt) (lit≤ tt) each_short)
    (one_field supported_encodings encodings (lit≤ tt) (lit≤ tt) three)) (one_field gnmi_version protocol_version (lit≤ tt) (lit≤ tt) six) in
    let fields : all_fields (capabilities schema) ≡ there.fields = fields_are (capabilities schema) there.fields there.is in
    let pieces : (number : ℕ) → pieces_under number (capabilities schema) ≡ occurrences (capabilities schema) number there.fields =
    λ number. ap (occurrences (capabilities schema) number) fields in
    let models_are : pieces_under supported_models (capabilities schema) ≡ map model_message names =
    pieces supported_models ∙ there.holds supported_models ∙ append-nil (map model_message names ++ []) ∙ append-nil (map model_message names) in
    rw (
      passes (capabilities schema) there.fields there.is,
      models_are,
      models_read names are each_short,
      pieces gnmi_version ∙ there.holds gnmi_version,
      version_is_text,
      pieces supported_encodings ∙ there.holds supported_encodings,
    ) refl

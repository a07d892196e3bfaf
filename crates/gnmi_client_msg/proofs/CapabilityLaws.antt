-- What a client reads of the capabilities that a target writes.
use Rattle.std.proofs.Common.{◌≡◌, ℕ, ◌+◌, ◌^◌, ◌<◌, ◌≤◌, true, cond, List, [], ◌∷◌, ◌++◌, length, Option, Some, None, refl, sym, ap, ◌∙◌, arith, append-nil, lit≤}
use Rattle.std.specs.Prelude.{map, false, unwrap_or}
use Rattle.std.specs.List.{AllByRecursion, flat_map, list_all, last_or, cons_option}
use Rattle.std.specs.Option.{option_map_or}
use Rattle.std.specs.Str.{is_utf8, chars}
use Rattle.std.proofs.lemmas.List.{length-append}
use Rattle.base_kinds.specs.Schema.{SchemaNode}
use Rattle.pb_wire.specs.declared.field.Field.{Field}
use Rattle.pb_wire.specs.Writing.{octets_field}
use Rattle.pb_wire.specs.Values.{varint_in, octets_in, varints, occurrences}
use Rattle.pb_message.specs.Fields.{all_fields}
use Rattle.pb_message.specs.Values.{pieces_under}
use Rattle.gnmi_data_msg.specs.Models.{model_name}
use Rattle.gnmi_data_msg.specs.Parts.{each}
use Rattle.gnmi_data_msg.specs.Writing.{message_fields}
use Rattle.gnmi_data_msg.proofs.ReadBack.{items_short, text_pieces, text_short}
use Rattle.gnmi_note_msg.proofs.Says.{joined, octets_say, messages_say}
use Rattle.gnmi_get_msg.specs.Numbers.{supported_models, supported_encodings, gnmi_version}
use Rattle.gnmi_get_msg.specs.Replies.{modules_of, model_message, encodings, protocol_version, capabilities}
use Rattle.gnmi_get_msg.specs.ReadBack.{AreTextNames}
use Rattle.gnmi_client_msg.specs.declared.capabilities.ServedEncoding.{ServedEncoding}
use Rattle.gnmi_client_msg.specs.declared.capabilities.ServedModel.{ServedModel}
use Rattle.gnmi_client_msg.specs.Capabilities.{model_of, served_of, short_numbers, encodings_in, capabilities_of}
use Rattle.gnmi_client_msg.specs.ReadBack.{model_named, told_capabilities}
use Rattle.gnmi_client_msg.proofs.ReadBack.{text_says, fields_are_read}

abbrev last_text : List (List ℕ) → Option (List ℕ)
last_text pieces = cond (list_all is_utf8 pieces) (Some (unwrap_or (last_or None pieces) [])) None

text_told : (text : List ℕ) → is_utf8 text ≡ true → last_text (text_pieces text) ≡ Some text
text_told [] is = refl
text_told (octet ∷ octets) is = rw is refl

model_told : (name : List ℕ) → is_utf8 name ≡ true → length (model_message name) < 2 ^ 64 → model_of (model_message name) ≡ Some (model_named name)
unfolding model_of
model_told name is short =
    let own : length name ≤ length (model_message name) = text_short model_name name in
    let there = text_says model_name name (lit≤ tt) (lit≤ tt) (omega (arith, own, short)) in
    rw (there.is, there.pieces_are 1, text_told name is, there.pieces_are 2, there.pieces_are 3) refl

models_told : (names : List (List ℕ)) → AreTextNames names → AllByRecursion (λ name. length (model_message name) < 2 ^ 64) names
    → each model_of (map model_message names) ≡ Some (map model_named names)
models_told [] all short = refl
models_told (name ∷ names) all short = rw (model_told name all.0 short.0, models_told names all.1 short.1) refl

-- where no number stands by itself, the packed ones are all
abbrev packed : List ℕ → List ServedEncoding
packed piece = map served_of (short_numbers false piece)

all_packed : (octets : List ℕ) (fields : List Field) → varints supported_encodings fields ≡ [] → flat_map (encodings_in octets) fields ≡ flat_map packed (occurrences octets supported_encodings fields)
all_packed octets [] none = refl
all_packed octets (field ∷ fields) none =
    one (varint_in supported_encodings field) (octets_in octets supported_encodings field) (all_packed octets fields) none
  where
    one : (number : Option ℕ) (piece : Option (List ℕ))
        → (varints supported_encodings fields ≡ [] → flat_map (encodings_in octets) fields ≡ flat_map packed (occurrences octets supported_encodings fields))
        → cons_option number (varints supported_encodings fields) ≡ []
        → option_map_or (λ n. served_of n ∷ []) number (option_map_or packed piece []) ++ flat_map (encodings_in octets) fields
        ≡ flat_map packed (cons_option piece (occurrences octets supported_encodings fields))
    one (Some n) piece others e = absurd cc
    one None None others e = others e
    one None (Some piece) others e = ap (λ (es : List ServedEncoding). packed piece ++ es) (others e)

version_is_text : is_utf8 protocol_version ≡ true
unfolding is_utf8 chars lib.Utf8.encode
version_is_text = refl

pub capabilities_told : (schema : List SchemaNode) → AreTextNames (modules_of schema) → length (capabilities schema) < 2 ^ 64
    → capabilities_of (capabilities schema) ≡ Some (told_capabilities schema)
unfolding capabilities_of
capabilities_told schema are short =
    let names : List (List ℕ) = modules_of schema in
    let m : List ℕ = message_fields model_message supported_models names in
    let e : List ℕ = octets_field supported_encodings encodings in
    let v : List ℕ = octets_field gnmi_version protocol_version in
    let all : length (m ++ e ++ v) ≡ length (m ++ e) + length v = length-append (m ++ e) v in
    let two : length (m ++ e) ≡ length m + length e = length-append m e in
    let each_short = items_short model_message supported_models names (omega (arith, all, two, short)) in
    let there = joined (joined (messages_say model_message supported_models names (lit≤ tt) (lit≤ tt) each_short)
    (octets_say supported_encodings encodings (lit≤ tt) (lit≤ tt) (omega arith))) (octets_say gnmi_version protocol_version (lit≤ tt) (lit≤ tt) (omega arith)) in
    let models_are : pieces_under supported_models (capabilities schema) ≡ map model_message names =
    there.pieces_are supported_models ∙ append-nil (map model_message names ++ []) ∙ append-nil (map model_message names) in
    let encodings_are : flat_map (encodings_in (capabilities schema)) (all_fields (capabilities schema)) ≡ packed encodings =
    all_packed (capabilities schema) (all_fields (capabilities schema)) (there.numbers_are supported_encodings)
    ∙ ap (flat_map packed) (there.pieces_are supported_encodings) in
    rw (
      fields_are_read there,
      models_are,
      models_told names are each_short,
      there.pieces_are gnmi_version,
      version_is_text,
      encodings_are,
    ) refl

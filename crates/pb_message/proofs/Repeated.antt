-- What messages hold that are written as a repeated field.
use Rattle.std.proofs.Common.{◌≡◌, ℕ, ◌^◌, ◌<◌, ◌≤◌, true, false, eqb, List, [], ◌∷◌, ◌++◌, length, refl, ap, ◌∙◌}
use Rattle.std.specs.List.{flat_map, AllByRecursion}
use Rattle.pb_wire.specs.declared.field.Field.{Field}
use Rattle.pb_wire.specs.Message.{IsMessage}
use Rattle.pb_wire.specs.Writing.{octets_field}
use Rattle.pb_wire.specs.Values.{varints, occurrences}
use Rattle.pb_message.specs.Fields.{all_fields, is_message}
use Rattle.pb_message.specs.Values.{pieces_under}
use Rattle.pb_message.proofs.Written.{fields_are, passes, message_appended, pieces_appended, numbers_appended, octets_pass, pieces_here, pieces_elsewhere}

abbrev pub AreShort : List (List ℕ) → Type 0
AreShort items = AllByRecursion (λ item. length item < 2 ^ 64) items

no_octets : IsMessage [] []
no_octets = record { are_fields = refl }

pub empty_fields : all_fields [] ≡ []
empty_fields = fields_are [] [] no_octets

pub empty_passes : is_message [] ≡ true
empty_passes = passes [] [] no_octets

pub empty_pieces : (number : ℕ) → pieces_under number [] ≡ []
empty_pieces number = ap (occurrences [] number) empty_fields

pub repeated_passes : (number : ℕ) (items : List (List ℕ)) → 1 ≤ number → number ≤ 15 → AreShort items
    → is_message (flat_map (octets_field number) items) ≡ true
repeated_passes number [] low high short = empty_passes
repeated_passes number (item ∷ items) low high short =
    message_appended (octets_field number item) (flat_map (octets_field number) items)
    (octets_pass number item low high short.0) (repeated_passes number items low high short.1)

pub repeated_pieces : (number : ℕ) (items : List (List ℕ)) → 1 ≤ number → number ≤ 15 → AreShort items
    → pieces_under number (flat_map (octets_field number) items) ≡ items
repeated_pieces number [] low high short = empty_pieces number
repeated_pieces number (item ∷ items) low high short =
    pieces_appended number (octets_field number item) (flat_map (octets_field number) items)
    (octets_pass number item low high short.0) (repeated_passes number items low high short.1)
    ∙ ap (λ (ps : List (List ℕ)). ps ++ pieces_under number (flat_map (octets_field number) items)) (pieces_here number item low high short.0)
    ∙ ap (λ (ps : List (List ℕ)). item ∷ ps) (repeated_pieces number items low high short.1)

pub repeated_elsewhere : (other number : ℕ) (items : List (List ℕ)) → 1 ≤ number → number ≤ 15 → AreShort items
    → eqb number other ≡ false → pieces_under other (flat_map (octets_field number) items) ≡ []
repeated_elsewhere other number [] low high short differ = empty_pieces other
repeated_elsewhere other number (item ∷ items) low high short differ =
    pieces_appended other (octets_field number item) (flat_map (octets_field number) items)
    (octets_pass number item low high short.0) (repeated_passes number items low high short.1)
    ∙ ap (λ (ps : List (List ℕ)). ps ++ pieces_under other (flat_map (octets_field number) items)) (pieces_elsewhere other number item low high short.0 differ)
    ∙ repeated_elsewhere other number items low high short.1 differ

-- What a message holds under a number (protobuf.dev, "Encoding", "Last One Wins"), and which message
-- a oneof of messages holds ("Language Guide (proto 3)", "Oneof Features"). What is absent is None.
use Rattle.std.specs.Prelude.{ℕ, List, [], ◌∷◌, map, Bool, true, ◌&&◌, nat_lt, Option, Some, None, unwrap_or, if◌then◌else◌}
use Rattle.std.specs.List.{list_all, list_any, concat}
use Rattle.std.specs.Str.{is_utf8}
use Rattle.pb_wire.specs.declared.field.Field.{Field}
use Rattle.pb_wire.specs.Values.{occurrences, last_scalar, last_octets, joined_octets, one_of}
use Rattle.pb_message.specs.Fields.{all_fields, fields_at}

-- a single varint
abbrev pub number_under : ℕ → List ℕ → Option ℕ
number_under number message = last_scalar number (all_fields message)

-- the occurrences of octets, strings or messages
abbrev pub pieces_under : ℕ → List ℕ → List (List ℕ)
pieces_under number message = occurrences message number (all_fields message)

-- those from a place on
abbrev pub pieces_from : ℕ → List ℕ → ℕ → List (List ℕ)
pieces_from number message place = occurrences message number (fields_at message place)

-- The last of the strings, each of which has to be UTF-8. What is absent is empty.
abbrev pub text_under : ℕ → List ℕ → Option (List ℕ)
text_under number message =
    if list_all is_utf8 (pieces_under number message) then
    Some (unwrap_or (last_octets message number (all_fields message)) [])
    else None

abbrev pub joined_pieces : List (List ℕ) → Option (List ℕ)
joined_pieces [] = None
joined_pieces (piece ∷ pieces) = Some (concat (piece ∷ pieces))

-- the octets of a single message, which are those of its occurrences joined
abbrev pub message_under : ℕ → List ℕ → Option (List ℕ)
message_under number message = joined_pieces (pieces_under number message)

-- a oneof's members that are messages, by their numbers
abbrev pub message_members : List ℕ → List (ℕ × ℕ)
message_members numbers = map (λ number. (number, 2)) numbers

-- the number of the fields of a run, and the octets that they hold under it
abbrev pub held_by : List ℕ → List Field → Option (ℕ × List ℕ)
held_by message [] = None
held_by message (field ∷ fields) =
    Some (field.number, joined_octets message field.number (field ∷ fields))

-- the member of a oneof of messages that a message holds, by its number, and that member's octets
abbrev pub member_under : List ℕ → List ℕ → Option (ℕ × List ℕ)
member_under numbers message =
    held_by message (one_of (message_members numbers) (all_fields message))

-- some field's number is above this one
abbrev pub has_number_above : ℕ → List ℕ → Bool
has_number_above most message =
    list_any (λ (field : Field). nat_lt most field.number) (all_fields message)

-- What messages are made of (protobuf.dev, "Encoding"): fields, strings, and messages under one number. `None` stands where
-- the octets are no such message.
use Rattle.std.specs.Prelude.{ℕ, List, [], ◌∷◌, Bool, Option, Some, None, unwrap_or, if◌then◌else◌, Result, Ok, Err, ◌≡◌}
use Rattle.std.specs.List.{list_all}
use Rattle.std.specs.Str.{is_utf8}
use Rattle.base_lists.specs.Options.{◌>>=◌}
use Rattle.pb_wire.specs.declared.field.Field.{Field}
use Rattle.pb_wire.specs.Values.{occurrences, last_octets}
use Rattle.pb_message.specs.Fields.{all_fields, is_message}
use Rattle.gnmi_data_msg.specs.declared.fault.MsgFault.{MsgFault}
use Rattle.gnmi_data_msg.specs.declared.fault.MsgFault.TheVariants as faults

-- A call's answer is the value that is defined, and BadMessage exactly where there is none. Memory may be wanting.
abbrev pub IsReadAs : {A : Type 0} → Result A MsgFault → Option A → Type 0
IsReadAs (Ok a) defined = defined ≡ Some a
IsReadAs (Err faults.BadMessage) defined = defined ≡ None
IsReadAs (Err faults.NoMemory) defined = Unit {0}

-- The fields of a message, or None where the octets are no message: those that pass the test are by `fields_of_messages`
-- (pb_message) just those with a list of fields by IsMessage (pb_wire), and this is that list.
unfoldable pub fields_in : List ℕ → Option (List Field)
fields_in octets = if is_message octets then Some (all_fields octets) else None

-- what each item gives, in order, where each gives something
abbrev pub each : {A B : Type 0} → (A → Option B) → List A → Option (List B)
each f [] = Some []
each f (item ∷ items) = do
  first ← f item
  others ← each f items
  Some (first ∷ others)

-- the messages of a repeated field
abbrev pub messages_in : {A : Type 0} → (List ℕ → Option A) → List ℕ → ℕ → List Field
    → Option (List A)
messages_in meaning message number fields = each meaning (occurrences message number fields)

-- a string is UTF-8
abbrev pub text_of : List ℕ → Option (List ℕ)
text_of octets = if is_utf8 octets then Some octets else None

-- each string of the number is UTF-8
abbrev pub are_texts : List ℕ → ℕ → List Field → Bool
are_texts message number fields = list_all is_utf8 (occurrences message number fields)

-- A single string: the last one counts, the others have to be UTF-8 too, and an absent one is empty.
abbrev pub single_text : List ℕ → ℕ → List Field → Option (List ℕ)
single_text message number fields =
    if are_texts message number fields
    then text_of (unwrap_or (last_octets message number fields) [])
    else None

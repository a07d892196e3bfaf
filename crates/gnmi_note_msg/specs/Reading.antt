-- What the octets of gnmi.proto's Update and Notification say. `None` stands where they are no such message.
use Rattle.std.specs.Prelude.{ℕ, ℤ, ◌%◌, ◌^◌, List, [], Bool, not, ◌==◌, Option, Some, None, unwrap_or, if◌then◌else◌}
use Rattle.std.specs.Option.{option_map}
use Rattle.std.specs.Int.{w64, cast_signed}
use Rattle.base_lists.specs.Options.{◌>>=◌}
use Rattle.base_kinds.specs.declared.request.Given.{Given}
use Rattle.gnmi_kinds.specs.declared.path.GnmiPath.{GnmiPath}
use Rattle.pb_message.specs.Fields.{is_message}
use Rattle.pb_message.specs.Values.{number_under, pieces_under, message_under}
use Rattle.gnmi_data_msg.specs.Numbers.{update_path, update_val, note_timestamp, note_prefix, note_update, note_delete}
use Rattle.gnmi_data_msg.specs.Parts.{each}
use Rattle.gnmi_data_msg.specs.Paths.{path_of}
use Rattle.gnmi_data_msg.specs.TypedValues.{typed_of}

-- two fields that are never written
abbrev pub update_duplicates : ℕ
update_duplicates = 4

abbrev pub note_atomic : ℕ
note_atomic = 6

-- an Update
pub record UpdateRead : Type 0 where
  pub path : GnmiPath
  pub value : Given
  pub duplicates : ℕ

-- a Notification (gNMI 2.1), its stamp in nanoseconds
pub record NoteRead : Type 0 where
  pub stamp : ℤ
  pub prefix : Option GnmiPath
  pub updates : List UpdateRead
  pub deletes : List GnmiPath
  pub atomic : Bool

-- the octets of a single message; an absent one is read as an empty one
abbrev pub held_under : ℕ → List ℕ → List ℕ
held_under number octets = unwrap_or (message_under number octets) []

-- a single number; an absent one is 0
abbrev pub single_number : ℕ → List ℕ → ℕ
single_number number octets = unwrap_or (number_under number octets) 0

unfoldable pub update_of : List ℕ → Option UpdateRead
update_of octets =
    if is_message octets then (do
      path ← path_of (held_under update_path octets)
      value ← typed_of (held_under update_val octets)
      Some (record {
        path = path;
        value = value;
        duplicates = single_number update_duplicates octets % 2 ^ 32;
      }))
    else None

abbrev pub prefix_given : Option (List ℕ) → Option (Option GnmiPath)
prefix_given None = Some None
prefix_given (Some octets) = option_map Some (path_of octets)

-- The timestamp is an int64, in two's complement.
unfoldable pub note_of : List ℕ → Option NoteRead
note_of octets =
    if is_message octets then (do
      prefix ← prefix_given (message_under note_prefix octets)
      updates ← each update_of (pieces_under note_update octets)
      deletes ← each path_of (pieces_under note_delete octets)
      Some (record {
        stamp = cast_signed w64 (single_number note_timestamp octets);
        prefix = prefix;
        updates = updates;
        deletes = deletes;
        atomic = not (single_number note_atomic octets == 0);
      }))
    else None

-- What the messages of a reply tell, each read once.
use Rattle.std.specs.Prelude.{ℕ, List, map, Option, Some, None, if◌then◌else◌}
use Rattle.std.specs.Option.{option_map}
use Rattle.std.specs.Int.{w64, cast_signed}
use Rattle.base_lists.specs.Options.{◌>>=◌}
use Rattle.base_kinds.specs.declared.path.Elem.{Elem}
use Rattle.base_kinds.specs.declared.operation.Row.{Row}
use Rattle.base_kinds.specs.declared.request.Note.{Note}
use Rattle.pb_message.specs.Fields.{is_message}
use Rattle.pb_message.specs.Values.{pieces_under, message_under}
use Rattle.gnmi_data_msg.specs.Numbers.{update_path, update_val, note_timestamp, note_prefix, note_update, note_delete}
use Rattle.gnmi_data_msg.specs.Parts.{each}
use Rattle.gnmi_data_msg.specs.Paths.{path_of}
use Rattle.gnmi_data_msg.specs.TypedValues.{typed_of}
use Rattle.gnmi_data_msg.specs.Singles.{single_message, count_under}
use Rattle.gnmi_set_msg.specs.Numbers.{reply_prefix, reply_response, reply_timestamp, result_path}
use Rattle.gnmi_get_msg.specs.Numbers.{reply_notification}
use Rattle.gnmi_client_msg.specs.declared.replies.UpdateResult.{UpdateResult}
use Rattle.gnmi_note_msg.specs.Reading.{prefix_given}
use Rattle.gnmi_client_msg.specs.Notifications.{not_below_0, leaf_value, path_in, prefix_in, row_behind, path_behind}

-- the stamp that an int64 is, where it isn't below 0
abbrev pub stamp_of : ℕ → Option ℕ
stamp_of number = not_below_0 (cast_signed w64 number)

-- the elements of a prefix
abbrev pub prefix_of : Option (List ℕ) → Option (List Elem)
prefix_of message = option_map prefix_in (prefix_given message)

-- the elements of a Path
abbrev pub elems_of : List ℕ → Option (List Elem)
elems_of octets = option_map path_in (path_of octets)

-- the row of an Update
unfoldable pub row_of : List ℕ → Option Row
row_of octets =
    if is_message octets then (do
      path ← path_of (single_message update_path octets)
      given ← typed_of (single_message update_val octets)
      value ← leaf_value given
      Some (record { path = path.path; value = value }))
    else None

-- what a Notification tells
unfoldable pub note_told : List ℕ → Option Note
note_told octets =
    if is_message octets then (do
      stamp ← stamp_of (count_under note_timestamp octets)
      prefix ← prefix_of (message_under note_prefix octets)
      updates ← each row_of (pieces_under note_update octets)
      deletes ← each elems_of (pieces_under note_delete octets)
      Some (record {
        stamp = stamp;
        deletes = map (path_behind prefix) deletes;
        updates = map (row_behind prefix) updates;
      }))
    else None

-- what the Notifications of a GetResponse tell
unfoldable pub notes_told : List ℕ → Option (List Note)
notes_told octets =
    if is_message octets then each note_told (pieces_under reply_notification octets) else None

-- an UpdateResult
unfoldable pub result_of : List ℕ → Option UpdateResult
result_of octets =
    if is_message octets then (do
      path ← path_of (single_message result_path octets)
      Some (record { path = path }))
    else None

-- the stamp of a SetResponse
unfoldable pub stamp_told : List ℕ → Option ℕ
stamp_told octets =
    if is_message octets then (do
      prefix ← prefix_of (message_under reply_prefix octets)
      results ← each result_of (pieces_under reply_response octets)
      stamp_of (count_under reply_timestamp octets))
    else None

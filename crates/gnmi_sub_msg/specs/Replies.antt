-- gnmi.proto's SubscribeResponse, as it is written (gNMI 3.5.1.4), and what a reader finds in one.
use Rattle.std.specs.Prelude.{ℕ, List, Bool, ◌&&◌, Option, None, if◌then◌else◌}
use Rattle.pb_wire.specs.Writing.{varint_field, octets_field}
use Rattle.pb_message.specs.Fields.{is_message}
use Rattle.pb_message.specs.Values.{message_under}
use Rattle.gnmi_data_msg.specs.Singles.{flag_under}
use Rattle.gnmi_sub_msg.specs.Numbers.{reply_update, reply_sync_response}

-- with these octets of a Notification
abbrev pub note_reply : List ℕ → List ℕ
note_reply note = octets_field reply_update note

-- with a sync_response that is true
abbrev pub sync_reply : List ℕ
sync_reply = varint_field reply_sync_response 1

-- the octets of the Notification in a SubscribeResponse, where there is one
abbrev pub note_in : List ℕ → Option (List ℕ)
note_in octets = if is_message octets then message_under reply_update octets else None

-- whether a SubscribeResponse says that what was there at the beginning has been sent
abbrev pub says_sync : List ℕ → Bool
says_sync octets = is_message octets && flag_under reply_sync_response octets

-- What the octets of gnmi.proto's SetResponse, GetResponse and CapabilityResponse tell a client. `None` stands where they are no
-- such message, or tell a stamp or a value that no tree has.
use Rattle.std.specs.Prelude.{ℕ, List, Option}
use Rattle.base_lists.specs.Options.{◌>>=◌}
use Rattle.base_kinds.specs.declared.request.Note.{Note}
use Rattle.gnmi_data_msg.specs.Parts.{each}
use Rattle.gnmi_set_msg.specs.ReadBack.{ReplyRead, reply_in}
use Rattle.gnmi_get_msg.specs.ReadBack.{notes_in}
use Rattle.gnmi_client_msg.specs.Notifications.{not_below_0, told_of}

abbrev pub stamp_in : ReplyRead → Option ℕ
stamp_in reply = not_below_0 reply.stamp

-- the stamp of a SetResponse (gNMI 3.4.2), in nanoseconds
abbrev pub set_stamp_of : List ℕ → Option ℕ
set_stamp_of octets = reply_in octets >>= stamp_in

-- what the Notifications of a GetResponse tell (gNMI 3.3.2), in their order
abbrev pub notes_of : List ℕ → Option (List Note)
notes_of octets = notes_in octets >>= each told_of

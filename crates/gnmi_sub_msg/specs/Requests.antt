-- gnmi.proto's SubscribeRequest, as it is read (gNMI 3.5.1.1). `None` stands where the octets are no such message.
use Rattle.std.specs.Prelude.{ℕ, List, [], ◌==◌, Option, Some, None, if◌then◌else◌}
use Rattle.std.specs.Option.{option_map}
use Rattle.base_lists.specs.Options.{◌>>=◌}
use Rattle.pb_message.specs.Fields.{is_message}
use Rattle.pb_message.specs.Values.{member_under}
use Rattle.gnmi_data_msg.specs.Parts.{fields_in, messages_in}
use Rattle.gnmi_ext_msg.specs.Extensions.{extension_of}
use Rattle.gnmi_sub_msg.specs.declared.request.SubMember.{SubMember}
use Rattle.gnmi_sub_msg.specs.declared.request.SubMember.TheVariants as members
use Rattle.gnmi_sub_msg.specs.declared.request.SubRequest.{SubRequest}
use Rattle.gnmi_sub_msg.specs.Numbers.{sub_poll, sub_extension, sub_members}
use Rattle.gnmi_sub_msg.specs.Lists.{list_of}

-- a Poll has no fields of its own
abbrev pub poll_in : List ℕ → Option SubMember
poll_in octets = if is_message octets then Some members.Poll else None

-- the oneof's member, by its number and its octets; without one it is a list without fields
abbrev pub member_given : Option (ℕ × List ℕ) → Option SubMember
member_given None = option_map members.Subscribe (list_of [])
member_given (Some member) =
    if member.0 == sub_poll then poll_in member.1
    else option_map members.Subscribe (list_of member.1)

-- a SubscribeRequest
unfoldable pub request_of : List ℕ → Option SubRequest
request_of octets = do
  fields ← fields_in octets
  member ← member_given (member_under sub_members octets)
  extensions ← messages_in extension_of octets sub_extension fields
  Some (record { member = member; extensions = extensions })

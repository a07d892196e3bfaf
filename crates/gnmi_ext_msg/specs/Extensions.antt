-- gnmi_ext.proto's Extension, of which the commit alone is read.
use Rattle.std.specs.Prelude.{ℕ, List, Bool, true, false, Option, Some, None, ◌==◌, if◌then◌else◌}
use Rattle.base_lists.specs.Options.{◌>>=◌}
use Rattle.pb_message.specs.Fields.{is_message}
use Rattle.pb_message.specs.Values.{member_under}
use Rattle.gnmi_ext_msg.specs.declared.extension.Extension.{Extension}
use Rattle.gnmi_ext_msg.specs.declared.extension.Extension.TheVariants as extensions
use Rattle.gnmi_ext_msg.specs.Numbers.{extension_commit, extension_members}
use Rattle.gnmi_ext_msg.specs.Commits.{commit_of}

-- what the oneof's member is, by its number and its octets; the octets of another one aren't looked at
abbrev pub extension_given : Option (ℕ × List ℕ) → Option Extension
extension_given None = Some extensions.Other
extension_given (Some member) =
    if member.0 == extension_commit then (do
      action ← commit_of member.1
      Some (extensions.Commit action))
    else Some extensions.Other

-- what an Extension is
unfoldable pub extension_of : List ℕ → Option Extension
extension_of octets =
    if is_message octets then extension_given (member_under extension_members octets) else None

-- an extension other than a commit
abbrev pub is_other : Extension → Bool
is_other extensions.Other = true
is_other (extensions.Commit action) = false

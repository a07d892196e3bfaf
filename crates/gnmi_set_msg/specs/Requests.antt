-- gnmi.proto's SetRequest and Update, as they are read. `None` stands where the octets are no such message.
use Rattle.std.specs.Prelude.{ℕ, List, Option, Some, None, if◌then◌else◌}
use Rattle.std.specs.Option.{is_some}
use Rattle.base_lists.specs.Options.{◌>>=◌}
use Rattle.pb_message.specs.Fields.{is_message}
use Rattle.pb_message.specs.Values.{message_under, has_number_above}
use Rattle.gnmi_data_msg.specs.Numbers.{update_path, update_val}
use Rattle.gnmi_data_msg.specs.Parts.{fields_in, messages_in}
use Rattle.gnmi_data_msg.specs.Paths.{path_of}
use Rattle.gnmi_data_msg.specs.TypedValues.{typed_of}
use Rattle.gnmi_ext_msg.specs.Extensions.{extension_of}
use Rattle.gnmi_data_msg.specs.Singles.{single_message}
use Rattle.gnmi_set_msg.specs.declared.request.Update.{Update}
use Rattle.gnmi_set_msg.specs.declared.request.SetRequest.{SetRequest}
use Rattle.gnmi_set_msg.specs.Numbers.{set_prefix, set_delete, set_replace, set_update, set_extension}

-- An Update. Its deprecated field `value`, and `duplicates`, are skipped.
unfoldable pub update_of : List ℕ → Option Update
update_of octets =
    if is_message octets then (do
      path ← path_of (single_message update_path octets)
      value ← typed_of (single_message update_val octets)
      Some (record { path = path; given = value }))
    else None

-- a SetRequest
unfoldable pub request_of : List ℕ → Option SetRequest
request_of octets = do
  fields ← fields_in octets
  prefix ← path_of (single_message set_prefix octets)
  deletes ← messages_in path_of octets set_delete fields
  replaces ← messages_in update_of octets set_replace fields
  updates ← messages_in update_of octets set_update fields
  extensions ← messages_in extension_of octets set_extension fields
  Some (record {
    prefix = prefix;
    has_prefix = is_some (message_under set_prefix octets);
    deletes = deletes;
    replaces = replaces;
    updates = updates;
    extensions = extensions;
    union_replace = has_number_above set_extension octets;
  })

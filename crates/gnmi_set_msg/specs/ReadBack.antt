-- What a reader of a SetResponse finds, and what is found in one that is written. `None` stands where the octets are no such
-- message.
use Rattle.std.specs.Prelude.{ℕ, ℤ, List, ◌++◌, map, false, Option, Some, None, if◌then◌else◌}
use Rattle.std.specs.Option.{option_map}
use Rattle.std.specs.Int.{w64, cast_signed}
use Rattle.base_lists.specs.Options.{◌>>=◌}
use Rattle.base_kinds.specs.declared.operation.Act.{Act}
use Rattle.base_kinds.specs.declared.operation.Act.TheVariants as acts
use Rattle.gnmi_kinds.specs.declared.path.GnmiPath.{GnmiPath}
use Rattle.pb_message.specs.Fields.{is_message}
use Rattle.pb_message.specs.Values.{message_under, pieces_under}
use Rattle.gnmi_data_msg.specs.Parts.{each}
use Rattle.gnmi_data_msg.specs.Paths.{path_of}
use Rattle.gnmi_data_msg.specs.Singles.{single_message, count_under, enum_under}
use Rattle.gnmi_set_msg.specs.declared.request.Update.{Update}
use Rattle.gnmi_set_msg.specs.declared.request.SetRequest.{SetRequest}
use Rattle.gnmi_set_msg.specs.Numbers.{reply_prefix, reply_response, reply_timestamp, result_path, result_op, op_of}

-- ---- what is found

-- an UpdateResult: its path, and the number of its operation
pub record ResultRead : Type 0 where
  pub path : GnmiPath
  pub op : ℕ

-- a SetResponse (gNMI 3.4.2), its stamp in nanoseconds
pub record ReplyRead : Type 0 where
  pub prefix : Option GnmiPath
  pub results : List ResultRead
  pub stamp : ℤ

unfoldable pub result_in : List ℕ → Option ResultRead
result_in octets =
    if is_message octets then (do
      path ← path_of (single_message result_path octets)
      Some (record { path = path; op = enum_under result_op octets }))
    else None

abbrev pub prefix_in : Option (List ℕ) → Option (Option GnmiPath)
prefix_in None = Some None
prefix_in (Some octets) = option_map Some (path_of octets)

-- The timestamp is an int64, in two's complement.
unfoldable pub reply_in : List ℕ → Option ReplyRead
reply_in octets =
    if is_message octets then (do
      prefix ← prefix_in (message_under reply_prefix octets)
      results ← each result_in (pieces_under reply_response octets)
      Some (record {
        prefix = prefix;
        results = results;
        stamp = cast_signed w64 (count_under reply_timestamp octets);
      }))
    else None

-- ---- what was written

-- a path, of which the deprecated field `element` isn't written
abbrev pub written_path : GnmiPath → GnmiPath
written_path path = record path { old_element = false }

abbrev pub written_result : Act → GnmiPath → ResultRead
written_result act path = record { path = written_path path; op = op_of act }

abbrev pub written_update : Act → Update → ResultRead
written_update act update = written_result act update.path

-- The prefix where the request has one, a result for each operation in the order in which they act, and the stamp. A stamp of
-- 2^63 and more is read as that less 2^64, which is below 0.
abbrev pub written_reply : ℕ → SetRequest → ReplyRead
written_reply stamp request = record {
  prefix = if request.has_prefix then Some (written_path request.prefix) else None;
  results = map (written_result acts.Delete) request.deletes
      ++ map (written_update acts.Replace) request.replaces
      ++ map (written_update acts.Update) request.updates;
  stamp = cast_signed w64 stamp;
}

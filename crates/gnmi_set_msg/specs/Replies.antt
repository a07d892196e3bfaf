-- gnmi.proto's SetResponse, as it is written: fields by rising number (gNMI 3.4.2).
use Rattle.std.specs.Prelude.{ℕ, List, [], ◌++◌, Option, if◌then◌else◌}
use Rattle.std.specs.Option.{option_map}
use Rattle.base_kinds.specs.declared.operation.Act.{Act}
use Rattle.base_kinds.specs.declared.operation.Act.TheVariants as acts
use Rattle.gnmi_kinds.specs.declared.path.GnmiPath.{GnmiPath}
use Rattle.pb_wire.specs.Writing.{octets_field}
use Rattle.gnmi_data_msg.specs.Writing.{message_fields, number_field, whole_path_message}
use Rattle.gnmi_set_msg.specs.declared.request.Update.{Update}
use Rattle.gnmi_set_msg.specs.declared.request.SetRequest.{SetRequest}
use Rattle.gnmi_set_msg.specs.Numbers.{reply_prefix, reply_response, reply_timestamp, result_path, result_op, op_of}
use Rattle.gnmi_set_msg.specs.Requests.{request_of}

-- an UpdateResult, whose path is written also where it is the root
abbrev pub result_message : Act → GnmiPath → List ℕ
result_message act path =
    octets_field result_path (whole_path_message path) ++ number_field result_op (op_of act)

abbrev pub update_result : Act → Update → List ℕ
update_result act update = result_message act update.path

-- the prefix, exactly where the request has one
abbrev pub prefix_field : SetRequest → List ℕ
prefix_field request =
    if request.has_prefix then octets_field reply_prefix (whole_path_message request.prefix) else []

-- A SetResponse. There is a result for each operation, in the order in which they act: deletes, replaces, updates. The stamp is
-- in nanoseconds.
abbrev pub reply_message : ℕ → SetRequest → List ℕ
reply_message stamp request =
    prefix_field request
    ++ message_fields (result_message acts.Delete) reply_response request.deletes
    ++ message_fields (update_result acts.Replace) reply_response request.replaces
    ++ message_fields (update_result acts.Update) reply_response request.updates
    ++ number_field reply_timestamp stamp

-- the reply to the octets of a SetRequest
abbrev pub reply_of : List ℕ → ℕ → Option (List ℕ)
reply_of octets stamp = option_map (reply_message stamp) (request_of octets)

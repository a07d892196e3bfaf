use Rattle.std.proofs.Common.{◌≡◌, ◌++◌, take}
use Rattle.gnmi_data_msg.specs.Writing.{message_fields}
use Rattle.gnmi_set_msg.specs.Numbers.{reply_response}
use Rattle.gnmi_set_msg.specs.Replies.{update_result}
use Rattle.gnmi_set_msg.proofs.replying.put_update_results.Given as goal

-- the results of the updates so far are added
abbrev pub invariant-loop-update : goal.invariant-loop-update
invariant-loop-update l = l.out ≡ l.fn.out ++ message_fields (update_result l.act) reply_response (take l.update-index l.updates)

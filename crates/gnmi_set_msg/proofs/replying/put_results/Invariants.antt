use Rattle.std.proofs.Common.{◌≡◌, ◌++◌, take}
use Rattle.gnmi_data_msg.specs.Writing.{message_fields}
use Rattle.gnmi_set_msg.specs.Numbers.{reply_response}
use Rattle.gnmi_set_msg.specs.Replies.{result_message}
use Rattle.gnmi_set_msg.proofs.replying.put_results.Given as goal

-- the results of the paths so far are added
abbrev pub invariant-loop-path : goal.invariant-loop-path
invariant-loop-path l = l.out ≡ l.fn.out ++ message_fields (result_message l.act) reply_response (take l.path-index l.paths)

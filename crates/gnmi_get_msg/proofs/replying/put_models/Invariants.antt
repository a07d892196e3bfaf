use Rattle.std.proofs.Common.{◌≡◌, ◌++◌, take}
use Rattle.gnmi_data_msg.specs.Writing.{message_fields}
use Rattle.gnmi_get_msg.specs.Numbers.{supported_models}
use Rattle.gnmi_get_msg.specs.Replies.{model_message}
use Rattle.gnmi_get_msg.proofs.replying.put_models.Given as goal

-- the models of the names so far are added
abbrev pub invariant-loop-name : goal.invariant-loop-name
invariant-loop-name l = l.out ≡ l.fn.out ++ message_fields model_message supported_models (take l.name-index l.names)

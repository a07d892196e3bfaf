use Rattle.std.proofs.Common.{◌≡◌, take}
use Rattle.gnmi_get_msg.specs.Replies.{modules_of}
use Rattle.gnmi_get_msg.proofs.replying.modules_of.Given as goal

-- the modules of the nodes so far
abbrev pub invariant-loop-number : goal.invariant-loop-number
invariant-loop-number l = l.names ≡ modules_of (take l.number l.schema)

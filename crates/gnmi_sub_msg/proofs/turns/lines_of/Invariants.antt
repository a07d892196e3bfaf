use Rattle.std.proofs.Common.{◌≡◌, map}
use Rattle.gnmi_sub_msg.specs.Turns.{line_of}
use Rattle.gnmi_sub_msg.proofs.turns.lines_of.Given as goal

-- the lines of the subscriptions so far
abbrev pub invariant-loop-subscription : goal.invariant-loop-subscription
invariant-loop-subscription l = l.lines ≡ map line_of l.yielded

use Rattle.std.proofs.Common.{◌≡◌, map}
use Rattle.gnmi_set_msg.specs.Asks.{change_of}
use Rattle.gnmi_set_msg.proofs.asking.changes_of.Given as goal

-- the changes of the updates so far
abbrev pub invariant-loop-update : goal.invariant-loop-update
invariant-loop-update l = l.list ≡ map change_of l.yielded

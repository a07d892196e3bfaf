use Rattle.std.proofs.Common.{◌≡◌}
use Rattle.std.specs.List.{filter_map}
use Rattle.gnmi_set_msg.specs.Asks.{commit_in}
use Rattle.gnmi_set_msg.specs.inner.Actions.{asked}
use Rattle.gnmi_set_msg.proofs.asking.action_of.Given as goal

-- what the commits so far ask for
abbrev pub invariant-loop-extension : goal.invariant-loop-extension
invariant-loop-extension l = l.asked ≡ asked (filter_map commit_in l.yielded)

use Rattle.std.proofs.Common.{◌≡◌, drop}
use Rattle.sub_plan.specs.Plans.{least_heartbeat}
use Rattle.sub_plan.proofs.reading.least_heartbeat.Given as goal

abbrev pub invariant-loop-line : goal.invariant-loop-line
invariant-loop-line l = least_heartbeat l.least (drop l.line-index l.lines) ≡ least_heartbeat 0 l.lines

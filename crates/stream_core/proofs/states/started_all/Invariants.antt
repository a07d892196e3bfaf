use Rattle.std.proofs.Common.{◌≡◌, take, map}
use Rattle.stream_laws.specs.Runs.{started}
use Rattle.stream_core.proofs.states.started_all.Given as goal

abbrev pub invariant-loop-group : goal.invariant-loop-group
invariant-loop-group l = l.states.items ≡ map (started l.time) (take l.group-index l.groups)

use Rattle.std.proofs.Common.{length}
use Rattle.script_run.proofs.Restarting.{Going}
use Rattle.script_run.proofs.reopening.reopen.Given as goal

abbrev pub invariant-openings : goal.invariant-openings
invariant-openings l = Going l.schema l.reading l.fn.disk l.fn.out l.disk l.out

abbrev pub decreases-openings : goal.decreases-openings
decreases-openings l = length l.disk.arming.stops

use Rattle.program.specs.CheckRun.{Counts}
use Rattle.program.proofs.Stages.{stopped}
use Rattle.program.proofs.check_command.check.Goals as goal

pub returns-in-Err-clause-run : goal.returns-in-Err-clause-run
returns-in-Err-clause-run g c = stopped c.args.name.now _ _ c.in-Err.ending (Counts _ _ c.in-Err.ending) c.in-Err.ensures.stopped

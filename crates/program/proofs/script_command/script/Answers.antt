use Rattle.program.specs.ScriptRun.{RunsLines}
use Rattle.program.proofs.Stages.{script_goes_on, stopped}
use Rattle.program.proofs.script_command.script.Goals as goal

pub returns-in-Ok-clause-run : goal.returns-in-Ok-clause-run
returns-in-Ok-clause-run g c = script_goes_on _ _ _ _ _ _ _ c.in-Ok.ensures.opened c.run_lines.ensures.files c.run_lines.ensures.lines

pub returns-in-Err-clause-run : goal.returns-in-Err-clause-run
returns-in-Err-clause-run g c = stopped c.args.name.now _ _ c.in-Err.ending (RunsLines c.args.limits _ _ c.in-Err.ending) c.in-Err.ensures.stopped

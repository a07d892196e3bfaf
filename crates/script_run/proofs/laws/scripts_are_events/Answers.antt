use Rattle.script_run.proofs.ScriptLaws.{makes_events, makes_done}
use Rattle.script_run.proofs.laws.scripts_are_events.Goals as goal

pub returns : goal.returns
returns c = record { all = makes_events; done = makes_done }

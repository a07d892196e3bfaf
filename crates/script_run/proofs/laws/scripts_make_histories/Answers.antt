use Rattle.script_run.proofs.ScriptLaws.{makes_histories}
use Rattle.script_run.proofs.laws.scripts_make_histories.Goals as goal

pub returns : goal.returns
returns c = makes_histories

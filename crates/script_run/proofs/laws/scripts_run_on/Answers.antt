use Rattle.script_run.proofs.Running.{lead_to_one}
use Rattle.script_run.proofs.laws.scripts_run_on.Goals as goal

pub returns : goal.returns
returns c = lead_to_one

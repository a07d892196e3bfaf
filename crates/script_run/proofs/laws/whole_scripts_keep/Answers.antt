use Rattle.script_run.proofs.WholeScripts.{whole_scripts_keep}
use Rattle.script_run.proofs.laws.whole_scripts_keep.Goals as goal

pub returns : goal.returns
returns c = whole_scripts_keep

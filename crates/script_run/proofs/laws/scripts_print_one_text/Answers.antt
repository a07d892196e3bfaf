use Rattle.script_run.proofs.ScriptLaws.{prints_one_text}
use Rattle.script_run.proofs.laws.scripts_print_one_text.Goals as goal

pub returns : goal.returns
returns c = prints_one_text

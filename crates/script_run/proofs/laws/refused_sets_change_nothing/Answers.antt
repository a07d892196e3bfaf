use Rattle.script_run.proofs.ScriptLaws.{refused_changes_nothing}
use Rattle.script_run.proofs.laws.refused_sets_change_nothing.Goals as goal

pub returns : goal.returns
returns c = refused_changes_nothing

use Rattle.program.proofs.KeptAnswers.{scripts_are_kept}
use Rattle.program.proofs.laws.script_runs_keep_their_answers.Goals as goal

pub returns : goal.returns
returns c = scripts_are_kept

use Rattle.script_run.proofs.ScriptLaws.{answers_tell, accepted_stay}
use Rattle.script_run.proofs.laws.answers_tell_the_history.Goals as goal

pub returns : goal.returns
returns c = record { added = answers_tell; stays = accepted_stay }

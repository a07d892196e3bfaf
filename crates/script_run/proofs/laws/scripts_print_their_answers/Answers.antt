use Rattle.script_run.proofs.ScriptTexts.{prints_answers, answers_events}
use Rattle.script_run.proofs.laws.scripts_print_their_answers.Goals as goal

pub returns : goal.returns
returns c = record { answers = prints_answers; events = answers_events }

use Rattle.history_laws.proofs.Undoing.{confirms_trials}
use Rattle.history_laws.proofs.trials.trials_are_confirmed.Goals as goal

pub returns : goal.returns
returns c = confirms_trials

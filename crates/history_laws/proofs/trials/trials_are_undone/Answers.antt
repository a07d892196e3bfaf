use Rattle.history_laws.proofs.Undoing.{undoes_trials}
use Rattle.history_laws.proofs.trials.trials_are_undone.Goals as goal

pub returns : goal.returns
returns c = undoes_trials

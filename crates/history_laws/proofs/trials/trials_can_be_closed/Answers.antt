use Rattle.history_laws.proofs.Closings.{closings_are_taken, closings_are_refused}
use Rattle.history_laws.proofs.trials.trials_can_be_closed.Goals as goal

pub returns : goal.returns
returns c = record { taken = closings_are_taken; refused = closings_are_refused }

use Rattle.history_laws.proofs.Deleting.{keeps_uncovered}
use Rattle.history_laws.proofs.Values.{deletes_values}
use Rattle.history_laws.proofs.trees.deletes_are_exact.Goals as goal

pub returns : goal.returns
returns c = record { rows = keeps_uncovered; values = deletes_values }

use Rattle.journal_format.proofs.Runs.{one_history}
use Rattle.journal_format.proofs.laws.one_history.Goals as goal

pub returns : goal.returns
returns c = one_history

use Rattle.journal_format.proofs.Histories.{front_length}
use Rattle.journal_format.proofs.laws.journal_length.Goals as goal

pub returns : goal.returns
returns c = front_length

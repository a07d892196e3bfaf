use Rattle.journal_record.proofs.Lengths.{record_length}
use Rattle.journal_record.proofs.laws.record_length.Goals as goal

pub returns : goal.returns
returns c = record_length

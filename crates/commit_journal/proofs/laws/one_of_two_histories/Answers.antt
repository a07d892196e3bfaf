use Rattle.commit_journal.proofs.AnyOf.{one_of_two}
use Rattle.commit_journal.proofs.laws.one_of_two_histories.Goals as goal

pub returns : goal.returns
returns c = one_of_two

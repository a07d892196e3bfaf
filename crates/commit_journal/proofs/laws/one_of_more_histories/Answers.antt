use Rattle.commit_journal.proofs.AnyOf.{one_of_them, one_of_more}
use Rattle.commit_journal.proofs.laws.one_of_more_histories.Goals as goal

pub returns-clause-one : goal.returns-clause-one
returns-clause-one c = one_of_them

pub returns-clause-more : goal.returns-clause-more
returns-clause-more c = one_of_more

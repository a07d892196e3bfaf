use Rattle.journal_record.proofs.Entries.{alike, none_more}
use Rattle.journal_record.proofs.laws.none_begins_another.Goals as goal

pub returns-clause-alike : goal.returns-clause-alike
returns-clause-alike c = alike

pub returns-clause-none : goal.returns-clause-none
returns-clause-none c = none_more

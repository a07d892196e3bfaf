use Rattle.journal_format.proofs.Runs.{one_damage, not_both}
use Rattle.journal_format.proofs.laws.one_damage.Goals as goal

pub returns-clause-one : goal.returns-clause-one
returns-clause-one c = one_damage

pub returns-clause-no_journal : goal.returns-clause-no_journal
returns-clause-no_journal c = not_both

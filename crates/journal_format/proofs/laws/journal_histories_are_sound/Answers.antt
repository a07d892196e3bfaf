use Rattle.journal_format.proofs.Following.{journal_is_history, journal_is_bounded, journal_is_ahead, journal_can_close, journal_is_base}
use Rattle.journal_format.proofs.laws.journal_histories_are_sound.Goals as goal

pub returns-clause-history : goal.returns-clause-history
returns-clause-history c = journal_is_history

pub returns-clause-bounded : goal.returns-clause-bounded
returns-clause-bounded c = journal_is_bounded

pub returns-clause-ahead : goal.returns-clause-ahead
returns-clause-ahead c = journal_is_ahead

pub returns-clause-can_close : goal.returns-clause-can_close
returns-clause-can_close c = journal_can_close

pub returns-clause-base : goal.returns-clause-base
returns-clause-base c = journal_is_base

use Rattle.connection_server.proofs.Keeping.{grows, entries_are_kept, turns_stand}
use Rattle.connection_server.proofs.laws.sessions_keep_their_entries.Goals as goal

pub returns-clause-goes_on : goal.returns-clause-goes_on
returns-clause-goes_on c = grows

pub returns-clause-kept : goal.returns-clause-kept
returns-clause-kept c = entries_are_kept

pub returns-clause-turns : goal.returns-clause-turns
returns-clause-turns c = turns_stand

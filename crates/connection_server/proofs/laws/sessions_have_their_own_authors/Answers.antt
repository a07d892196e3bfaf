use Rattle.connection_server.proofs.Keeping.{twins_rise, rising_differ, twins_are_new}
use Rattle.connection_server.proofs.laws.sessions_have_their_own_authors.Goals as goal

pub returns-clause-rise : goal.returns-clause-rise
returns-clause-rise c = twins_rise

pub returns-clause-differ : goal.returns-clause-differ
returns-clause-differ c = rising_differ

pub returns-clause-new : goal.returns-clause-new
returns-clause-new c = twins_are_new

use Rattle.h2_events.proofs.Streams.{can_say-append, opened_now, reset_now, ended_now, closed_stays}
use Rattle.h2_events.proofs.laws.what_can_be_said.Goals as goal

pub returns-clause-joined : goal.returns-clause-joined
returns-clause-joined c = can_say-append

pub returns-clause-opened : goal.returns-clause-opened
returns-clause-opened c = opened_now

pub returns-clause-reset : goal.returns-clause-reset
returns-clause-reset c = reset_now

pub returns-clause-ended : goal.returns-clause-ended
returns-clause-ended c = ended_now

pub returns-clause-closed : goal.returns-clause-closed
returns-clause-closed c = closed_stays

use Rattle.h2_events.proofs.Orders.{heard-append, written-append, said_on-append, as_read-append, events_read-append, written-wrote, heard-wrote, as_read-wrote, said_on-wrote}
use Rattle.h2_events.proofs.laws.orders_join.Goals as goal

pub returns-clause-heard : goal.returns-clause-heard
returns-clause-heard c = heard-append

pub returns-clause-written : goal.returns-clause-written
returns-clause-written c = written-append

pub returns-clause-said : goal.returns-clause-said
returns-clause-said c = said_on-append

pub returns-clause-read : goal.returns-clause-read
returns-clause-read c = as_read-append

pub returns-clause-events : goal.returns-clause-events
returns-clause-events c = events_read-append

pub returns-clause-frames : goal.returns-clause-frames
returns-clause-frames c = written-wrote

pub returns-clause-silent : goal.returns-clause-silent
returns-clause-silent c = λ frames. (heard-wrote frames, as_read-wrote frames)

pub returns-clause-unsaid : goal.returns-clause-unsaid
returns-clause-unsaid c = said_on-wrote

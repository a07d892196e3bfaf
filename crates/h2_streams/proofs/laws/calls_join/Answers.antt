use Rattle.h2_streams.proofs.CallLemmas.{calls_joined, calls_cut, frames_joined, events_joined, reads_joined}
use Rattle.h2_streams.proofs.laws.calls_join.Goals as goal

pub returns-clause-joined : goal.returns-clause-joined
returns-clause-joined c = λ start middle last one other p q. calls_joined start middle last one other p q

pub returns-clause-cut : goal.returns-clause-cut
returns-clause-cut c = calls_cut

pub returns-clause-frames : goal.returns-clause-frames
returns-clause-frames c = frames_joined

pub returns-clause-events : goal.returns-clause-events
returns-clause-events c = events_joined

pub returns-clause-reads : goal.returns-clause-reads
returns-clause-reads c = reads_joined

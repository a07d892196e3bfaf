use Rattle.h2_events.proofs.Streams.{highest-append, highest-rises}
use Rattle.h2_events.proofs.laws.highest_of_more.Goals as goal

pub returns-clause-joined : goal.returns-clause-joined
returns-clause-joined c = highest-append

pub returns-clause-rises : goal.returns-clause-rises
returns-clause-rises c = highest-rises

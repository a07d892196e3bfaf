use Rattle.h2_streams.proofs.CallLemmas.{highest_is_from_events}
use Rattle.h2_streams.proofs.LawLemmas.{tells_highest}
use Rattle.h2_streams.proofs.laws.highest_of_events.Goals as goal

pub returns-clause-one : goal.returns-clause-one
returns-clause-one c = tells_highest

pub returns-clause-all : goal.returns-clause-all
returns-clause-all c = highest_is_from_events

use Rattle.session_core.proofs.Streams.{streams_answered, data_fronts}
use Rattle.session_core.proofs.laws.streams_are_answered.Goals as goal

pub returns-clause-frames : goal.returns-clause-frames
returns-clause-frames c = streams_answered

pub returns-clause-data : goal.returns-clause-data
returns-clause-data c = data_fronts

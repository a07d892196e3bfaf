use Rattle.stream_workers.proofs.Theirs.{others_are_feeders}
use Rattle.stream_workers.proofs.laws.others_are_feeders.Goals as goal

pub returns : goal.returns
returns c = others_are_feeders

use Rattle.h2_streams.proofs.OutcomeLemmas.{one_outcome as one}
use Rattle.h2_streams.proofs.laws.one_outcome.Goals as goal

pub returns : goal.returns
returns c = one

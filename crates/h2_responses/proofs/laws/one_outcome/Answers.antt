use Rattle.h2_responses.proofs.OutcomeLemmas.{one_outcome as one}
use Rattle.h2_responses.proofs.laws.one_outcome.Goals as goal

pub returns : goal.returns
returns c = one

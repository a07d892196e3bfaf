use Rattle.h2_streams.proofs.CallLemmas.{one_chain}
use Rattle.h2_streams.proofs.laws.frames_decide.Goals as goal

pub returns : goal.returns
returns c = one_chain

use Rattle.pb_wire.proofs.MessageLemmas.{IsMessage-within}
use Rattle.pb_wire.proofs.laws.within.Goals as goal

pub returns : goal.returns
returns c = IsMessage-within

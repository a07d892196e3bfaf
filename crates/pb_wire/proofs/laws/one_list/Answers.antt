use Rattle.pb_wire.proofs.LawLemmas.{IsMessage-unique}
use Rattle.pb_wire.proofs.laws.one_list.Goals as goal

pub returns : goal.returns
returns c = IsMessage-unique

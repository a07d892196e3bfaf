use Rattle.pb_wire.proofs.LawLemmas.{IsVarint-unique}
use Rattle.pb_wire.proofs.laws.one_number.Goals as goal

pub returns : goal.returns
returns c = IsVarint-unique

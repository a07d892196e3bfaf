use Rattle.pb_wire.proofs.LawLemmas.{IsMessage-append}
use Rattle.pb_wire.proofs.laws.appended.Goals as goal

pub returns : goal.returns
returns c = IsMessage-append

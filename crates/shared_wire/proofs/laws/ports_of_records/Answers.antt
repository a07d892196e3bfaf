use Rattle.shared_wire.proofs.GoingOn.{goes_on_behind}
use Rattle.shared_wire.proofs.laws.ports_of_records.Goals as goal

pub returns : goal.returns
returns c = goes_on_behind

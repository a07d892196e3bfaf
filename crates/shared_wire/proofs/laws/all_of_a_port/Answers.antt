use Rattle.shared_wire.proofs.Owning.{all_of}
use Rattle.shared_wire.proofs.laws.all_of_a_port.Goals as goal

pub returns : goal.returns
returns c = all_of

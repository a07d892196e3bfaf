use Rattle.disk_model.proofs.Machine.{unarmed_passes}
use Rattle.disk_model.proofs.laws.unarmed_passes.Goals as goal

pub returns : goal.returns
returns c = unarmed_passes

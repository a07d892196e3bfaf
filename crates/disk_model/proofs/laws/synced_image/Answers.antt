use Rattle.disk_model.proofs.Images.{synced_iff_front as law}
use Rattle.disk_model.proofs.laws.synced_image.Goals as goal

pub returns : goal.returns
returns c = law

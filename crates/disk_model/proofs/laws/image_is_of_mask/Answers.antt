use Rattle.disk_model.proofs.Images.{image_iff_places as law}
use Rattle.disk_model.proofs.laws.image_is_of_mask.Goals as goal

pub returns : goal.returns
returns c = law

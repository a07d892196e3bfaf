use Rattle.disk_model.proofs.Images.{image_of_touched as law}
use Rattle.disk_model.proofs.laws.image_of_touched.Goals as goal

pub returns : goal.returns
returns c = law

use Rattle.disk_model.proofs.Images.{image_of_written as law}
use Rattle.disk_model.proofs.laws.image_of_written.Goals as goal

pub returns : goal.returns
returns c = law

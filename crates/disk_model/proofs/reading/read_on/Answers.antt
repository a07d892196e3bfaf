use Rattle.disk_model.proofs.Fronts.{reads_least}
use Rattle.disk_model.proofs.reading.read_on.Goals as goal

pub returns-clause-read : goal.returns-clause-read
returns-clause-read g c = reads_least _ _ _ _ _ _ c.in_ok-read.ensures.octets c.requires c.min-count.ensures

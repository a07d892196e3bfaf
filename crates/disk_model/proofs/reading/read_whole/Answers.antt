use Rattle.disk_model.proofs.Progress.{reading_whole}
use Rattle.disk_model.proofs.reading.read_whole.Goals as goal

pub returns-clause-calls : goal.returns-clause-calls
returns-clause-calls g c = reading_whole _ _ _ _ _ _ _ c.in_ok-size.ensures.keeps c.in_ok-size.ensures.length c.in_ok-size.ensures.call c.read_part.ensures.calls

use Rattle.disk_model.proofs.Machine.{stop_hits, stop_before, stop_behind}
use Rattle.disk_model.proofs.laws.stop_hits_its_call.Goals as goal

pub returns : goal.returns
returns c = record { hit = stop_hits; before = stop_before; behind = stop_behind }

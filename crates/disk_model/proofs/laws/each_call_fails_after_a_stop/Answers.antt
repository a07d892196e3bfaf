use Rattle.disk_model.proofs.Machine.{stopped_fails, stopped_stays}
use Rattle.disk_model.proofs.laws.each_call_fails_after_a_stop.Goals as goal

pub returns : goal.returns
returns c = record { fails = stopped_fails; stays = stopped_stays }

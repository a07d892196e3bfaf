use Rattle.disk_model.proofs.Machine.{fail_hits, fail_others}
use Rattle.disk_model.proofs.laws.failure_hits_its_call.Goals as goal

pub returns : goal.returns
returns c = record { hit = fail_hits; others = fail_others }

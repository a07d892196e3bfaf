use Rattle.disk_model.proofs.Calls.{passed_then, failed_then}
use Rattle.disk_model.proofs.laws.calls_add_up.Goals as goal

pub returns : goal.returns
returns c = record { passed = passed_then; failed = failed_then }

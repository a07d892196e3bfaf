use Rattle.std.proofs.Common.{IsTrue}
use Rattle.disk_model.proofs.Moving.{leaves_same}
use Rattle.disk_model.proofs.laws.no_call_changes_images.Goals as goal

pub returns : goal.returns
returns c = λ test told now. leaves_same (λ octets. IsTrue (test octets)) told now

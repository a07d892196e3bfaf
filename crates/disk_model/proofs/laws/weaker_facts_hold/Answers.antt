use Rattle.std.proofs.Common.{IsTrue}
use Rattle.disk_model.proofs.Moving.{leaves_weaker}
use Rattle.disk_model.proofs.laws.weaker_facts_hold.Goals as goal

pub returns : goal.returns
returns c = λ strong weak old new weaker leaves. leaves_weaker (λ octets. IsTrue (strong octets)) (λ octets. IsTrue (weak octets)) old new weaker leaves

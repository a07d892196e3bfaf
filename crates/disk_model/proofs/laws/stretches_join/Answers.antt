use Rattle.std.proofs.Common.{IsTrue}
use Rattle.disk_model.proofs.Moving.{leaves_then}
use Rattle.disk_model.proofs.laws.stretches_join.Goals as goal

pub returns : goal.returns
returns c = λ test old mid new first second. leaves_then (λ octets. IsTrue (test octets)) old mid new first second

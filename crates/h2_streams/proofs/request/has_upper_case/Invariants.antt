use Rattle.std.proofs.Common.{◌≡◌, drop}
use Rattle.h2_streams.specs.Requests.{has_upper_case}
use Rattle.h2_streams.proofs.request.has_upper_case.Given as goal

abbrev pub invariant-loop-octet : goal.invariant-loop-octet
invariant-loop-octet l = has_upper_case (drop l.octet-index l.name) ≡ has_upper_case l.name

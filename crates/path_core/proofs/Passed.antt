-- A fault that a `?` passes on.
use Rattle.std.proofs.Common.{◌≡◌, Err, ap}
use Rattle.std.specs.Result.{IsErrOf}

pub passed_on : {S T E : Type 0} (fault other : E) → IsErrOf {T = S} (Err fault) other → IsErrOf {T = T} (Err fault) other
passed_on {S} {T} {E} fault other is = let same : fault ≡ other = cc in ap (λ (e : E). Err e) same

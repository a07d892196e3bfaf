-- A fault that a `?` passes on.
use Rattle.std.proofs.Common.{◌≡◌, Result, Err, IsErrAnd, ap}
use Rattle.std.specs.Result.{IsErrOf}
use Rattle.std.proofs.lemmas.Result.{err_from_is_err_and}

-- what is passed on is the fault that there was
pub passed : {S T E : Type 0} {was : E} {result : Result T E} → IsErrAnd result (λ fault. fault ≡ was) → {other : E} → IsErrOf result other → IsErrOf {T = S} (Err was) other
passed {was = was} {result = result} given {other} is =
    let found = err_from_is_err_and result given in
    let whole = found.1 in
    let same = found.2 in
    let equal : was ≡ other = cc in
    ap (λ fault. Err fault) equal

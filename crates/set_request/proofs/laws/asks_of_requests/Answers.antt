use Rattle.set_request.proofs.FitAsks.{resolved_is_fit, plain_is_apply}
use Rattle.set_request.proofs.laws.asks_of_requests.Goals as goal

pub returns-clause-fit : goal.returns-clause-fit
returns-clause-fit c = resolved_is_fit

pub returns-clause-plain : goal.returns-clause-plain
returns-clause-plain c = plain_is_apply

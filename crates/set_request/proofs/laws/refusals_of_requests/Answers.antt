use Rattle.set_request.proofs.Refusing.{refusals_of_requests}
use Rattle.set_request.proofs.laws.refusals_of_requests.Goals as goal

pub returns : goal.returns
returns c = refusals_of_requests

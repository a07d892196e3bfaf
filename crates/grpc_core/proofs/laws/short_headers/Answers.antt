use Rattle.grpc_core.proofs.Replies.{short_opening, short_trailers, short_both}
use Rattle.grpc_core.proofs.laws.short_headers.Goals as goal

pub returns-clause-opening : goal.returns-clause-opening
returns-clause-opening c = short_opening

pub returns-clause-trailers : goal.returns-clause-trailers
returns-clause-trailers c = short_trailers

pub returns-clause-together : goal.returns-clause-together
returns-clause-together c = short_both

use Rattle.grpc_core.proofs.Runs.{one, first_ones}
use Rattle.grpc_core.proofs.laws.one_list.Goals as goal

pub returns-clause-one : goal.returns-clause-one
returns-clause-one c = one

pub returns-clause-first : goal.returns-clause-first
returns-clause-first c = λ octets ms ns r s fault p q. first_ones octets ms ns r s fault p q.leading q.ends

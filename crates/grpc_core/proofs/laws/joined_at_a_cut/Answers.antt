use Rattle.grpc_core.proofs.Runs.{goes_on, stays}
use Rattle.grpc_core.proofs.laws.joined_at_a_cut.Goals as goal

pub returns-clause-goes_on : goal.returns-clause-goes_on
returns-clause-goes_on c = goes_on

pub returns-clause-stays : goal.returns-clause-stays
returns-clause-stays c = stays

use Rattle.grpc_core.proofs.Runs.{unfinished}
use Rattle.grpc_core.proofs.laws.least_missing.Goals as goal

pub returns : goal.returns
returns c = unfinished

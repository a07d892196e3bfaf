use Rattle.grpc_core.proofs.Runs.{written}
use Rattle.grpc_core.proofs.laws.written_run.Goals as goal

pub returns : goal.returns
returns c = written

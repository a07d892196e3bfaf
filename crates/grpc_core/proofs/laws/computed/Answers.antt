use Rattle.grpc_core.proofs.Runs.{every, only}
use Rattle.grpc_core.proofs.laws.computed.Goals as goal

pub returns-clause-every : goal.returns-clause-every
returns-clause-every c = every

pub returns-clause-only : goal.returns-clause-only
returns-clause-only c = only

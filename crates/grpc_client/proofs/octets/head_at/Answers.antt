use Rattle.std.proofs.Common.{arith}
use Rattle.grpc_client.proofs.octets.head_at.Goals as goal

pub returns-clause-fit : goal.returns-clause-fit
returns-clause-fit c = λ i. omega (arith, c.type_inv.octets i)

use Rattle.std.proofs.Common.{rules}
use Rattle.grpc_client.proofs.Opening.{added}
use Rattle.grpc_client.proofs.request.add_headers.Goals as goal

pub returns : goal.returns
returns c = added c.extend_from_slice-2.result c.args.out.now _ _ _ c.args.block.now _ c.items.ensures (search rules) c.extend_from_slice-2.ensures.ok

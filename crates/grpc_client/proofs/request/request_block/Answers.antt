use Rattle.grpc_client.proofs.Opening.{block_is, block_few}
use Rattle.grpc_client.proofs.request.request_block.Goals as goal

pub returns-clause-small : goal.returns-clause-small
returns-clause-small c =
    block_few c.args.owes_update c.args.authority.now c.args.method _ c.requires
    (block_is c.args.owes_update c.args.authority.now c.args.method _ _ _ c.in_ok-headers.ensures c.in_ok-block.ensures c.in_ok-encode_block.ensures.ok)

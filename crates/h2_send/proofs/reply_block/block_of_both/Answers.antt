use Rattle.h2_send.proofs.ReplySmall.{joined}
use Rattle.h2_send.proofs.reply_block.block_of_both.Goals as goal

pub returns : goal.returns
returns c = joined c.args.owes_update c.args.first.now c.args.second.now _ _ _ c.in_ok-block.ensures c.in_ok-encode_block.ensures.ok c.in_ok-encode_block-2.ensures.ok

use Rattle.std.proofs.Common.{rules}
use Rattle.h2_send.proofs.ReplySmall.{added}
use Rattle.h2_send.proofs.reply_block.add_frame.Goals as goal

pub returns : goal.returns
returns c = added c.extend_from_slice-2.result c.args.out.now _ _ _ c.args.block.now _ c.items.ensures (search rules) c.extend_from_slice-2.ensures.ok

use Rattle.std.proofs.Common.{length, ◌++◌, ap, arith}
use Rattle.h2_send.proofs.ReplySmall.{block_size, both_few}
use Rattle.h2_send.proofs.reply_block.add_headers.Goals as goal

pub add_frame-requires : goal.add_frame-requires
add_frame-requires c =
    let few = both_few c.args.first.now c.args.second.now c.requires.first c.requires.second in
    omega (arith, ap length c.in_ok-block.ensures, block_size c.args.owes_update (c.args.first.now ++ c.args.second.now) few)

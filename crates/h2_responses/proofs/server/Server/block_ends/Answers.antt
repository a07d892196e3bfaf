use Rattle.h2_responses.proofs.FrameLemmas.{block_unread}
use Rattle.h2_responses.proofs.server.Server.block_ends.Goals as goal

pub returns : goal.returns
returns c =
    block_unread c.args.block c.args.self.now c.block-list.result c.in-Err.why c.block-list.new.self c.unread.result _
    (rw c.items.ensures at c.block-list.ensures) c.in-Err.is c.unread.ensures.too_long c.unread.ensures.bad c.unread.ensures.memory

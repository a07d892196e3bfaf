-- A plain tree may cross threads.
use denote.Param.Send.{IsSend, sendable}
use Rattle.std.proofs.Crossing.{crosses}
use Rattle.plain_tree.specs.contracts.plain_tree.PlainTree as PlainTree
use Rattle.shared_book.proofs.Sending.{row_send}

pub tree_send : IsSend PlainTree.the_row
tree_send = search (sendable, crosses, row_send) depth 60

-- The port of a book of these tests may cross threads.
use denote.RattleType.{RattleType}
use denote.Param.Send.{IsSend, sendable}
use Rattle.std.proofs.Crossing.{crosses}
use Rattle.base_lists.specs.contracts.tally.Tally as Tally
use Rattle.memory_disks.specs.contracts.log.Log as Log
use Rattle.memory_disks.specs.contracts.memory.MemDisk as MemDisk
use Rattle.memory_disks.specs.contracts.memory.MemDiskDisk.TheImpl as disks
use Rattle.plain_tree.specs.contracts.plain_tree.PlainTree as PlainTree
use Rattle.plain_tree.specs.contracts.plain_tree.PlainTreeTreeLike.TheImpl as trees
use Rattle.shared_book.specs.contracts.visit.Visit as Visit
use Rattle.shared_book.proofs.Crossing.{visit_send}
use Rattle.shared_book.proofs.Sending.{remembered_send, row_send}

tally_send : IsSend (Tally.the_field).row
tally_send = search (sendable, crosses, remembered_send) depth 40

log_send : IsSend (Log.the_field).row
log_send = search (sendable, crosses) depth 40 fits 10000

disk_send : IsSend MemDisk.the_row
disk_send = search (sendable, crosses, log_send, tally_send) depth 60 fits 10000

tree_send : IsSend PlainTree.the_row
tree_send = search (sendable, crosses, row_send) depth 60

pub book_send : (R : RattleType) → IsSend R → IsSend (Visit.the_row MemDisk.the_row PlainTree.the_row R disks.ghosts trees.ghosts)
book_send R r = visit_send MemDisk.the_row PlainTree.the_row disks.ghosts trees.ghosts R disk_send tree_send r

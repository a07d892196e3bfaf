-- The ports of these tests may cross threads.
use denote.RattleType.{RattleType}
use denote.Param.{param}
use denote.Param.Send.{IsSend, sendable}
use Rattle.std.proofs.Crossing.{crosses}
use Rattle.base_lists.specs.contracts.tally.Tally as Tally
use Rattle.memory_disks.specs.contracts.fuse.FuseDisk as FuseDisk
use Rattle.memory_disks.specs.contracts.fuse.FuseDiskDisk.TheImpl as disks
use Rattle.memory_disks.specs.contracts.lines.Lines as Lines
use Rattle.memory_disks.specs.contracts.log.Log as Log
use Rattle.memory_disks.specs.contracts.queue.Queue as Queue
use Rattle.plain_tree.specs.contracts.plain_tree.PlainTree as PlainTree
use Rattle.plain_tree.specs.contracts.plain_tree.PlainTreeTreeLike.TheImpl as trees
use Rattle.shared_book.specs.contracts.visit.Visit as Visit
use Rattle.shared_book.proofs.Crossing.{visit_send}
use Rattle.shared_book.proofs.Sending.{remembered_send, row_send}

tally_send : IsSend (Tally.the_field).row
tally_send = search (sendable, crosses, remembered_send) depth 40

log_send : IsSend (Log.the_field).row
log_send = search (sendable, crosses) depth 40 fits 10000

queue_send : (T : RattleType) → IsSend T → IsSend (Queue.the_field T).row
queue_send T s = search (sendable, crosses) depth 40

lines_send : IsSend (Lines.the_field).row
lines_send = search (sendable, crosses, queue_send) depth 40 fits 10000

disk_send : IsSend FuseDisk.the_row
disk_send = search (sendable, crosses, log_send, lines_send, tally_send) depth 60 fits 10000

tree_send : IsSend PlainTree.the_row
tree_send = search (sendable, crosses, row_send) depth 60

pub port_send : (R : RattleType) → IsSend (param 0 R) → IsSend (Visit.the_row FuseDisk.the_row PlainTree.the_row (param 0 R) disks.ghosts trees.ghosts)
port_send R r = visit_send FuseDisk.the_row PlainTree.the_row disks.ghosts trees.ghosts (param 0 R) disk_send tree_send r

-- The port of a book in a file may cross threads.
use denote.RattleType.{RattleType}
use denote.Param.Send.{IsSend, sendable}
use Rattle.std.proofs.Crossing.{crosses}
use Rattle.base_lists.specs.contracts.tally.Tally as Tally
use Rattle.plain_tree.specs.contracts.plain_tree.PlainTree as PlainTree
use Rattle.plain_tree.specs.contracts.plain_tree.PlainTreeTreeLike.TheImpl as trees
use Rattle.shared_book.specs.contracts.visit.Visit as Visit
use Rattle.shared_book.proofs.Crossing.{visit_send}
use Rattle.shared_book.proofs.Sending.{remembered_send}
use Rattle.program.proofs.Crossing.{tree_send}
use Rattle.gnmid.specs.contracts.disks_trusted.FileDisk as FileDisk
use Rattle.gnmid.specs.contracts.disks_trusted.FileDiskDisk.TheImpl as disks

tally_send : IsSend (Tally.the_field).row
tally_send = search (sendable, crosses, remembered_send) depth 40

disk_send : IsSend FileDisk.the_row
disk_send = search (sendable, crosses, tally_send) depth 60 fits 10000

pub book_send : (R : RattleType) → IsSend R → IsSend (Visit.the_row FileDisk.the_row PlainTree.the_row R disks.ghosts trees.ghosts)
book_send R r = visit_send FileDisk.the_row PlainTree.the_row disks.ghosts trees.ghosts R disk_send tree_send r

-- What a book holds may cross threads: entries of its history, its schema, its core where the tree may, and its ledger where the
-- disk may.
use denote.RattleType.{RattleType}
use denote.Param.Send.{IsSend, sendable}
use Rattle.std.proofs.Crossing.{crosses}
use Rattle.base_lists.specs.contracts.seq.Seq as Seq
use Rattle.base_lists.specs.contracts.text.Text as Text
use Rattle.base_lists.specs.contracts.remembered.Past as Past
use Rattle.base_lists.specs.contracts.remembered.Remembered as Remembered
use Rattle.base_lists.proofs.remembered.Past.TheLaws.TheKnot as past
use Rattle.base_kinds.specs.contracts.entry.Entry as Entry
use Rattle.base_kinds.specs.contracts.entry.Kind as Kind
use Rattle.base_kinds.specs.contracts.entry.Limits as Limits
use Rattle.base_kinds.specs.contracts.operation.Op as Op
use Rattle.base_kinds.specs.contracts.operation.Row as Row
use Rattle.base_kinds.specs.contracts.path.Elem as Elem
use Rattle.base_kinds.specs.contracts.schema.Shape as Shape
use Rattle.base_kinds.specs.contracts.value.Value as Value
use Rattle.base_kinds.proofs.value.Value.TheLaws.TheKnot as value
use Rattle.base_kinds.specs.declared.tree.TreeLike as trees
use Rattle.schema_core.specs.contracts.node.Node as Node
use Rattle.schema_core.specs.contracts.schema.Schema as Schema
use Rattle.commit_core.specs.contracts.log.Log as Log
use Rattle.commit_core.specs.contracts.trial.Prepared as Prepared
use Rattle.commit_core.specs.contracts.trial.Trial as Trial
use Rattle.commit_core.specs.contracts.history_core.Core as Core
use Rattle.commit_journal.specs.contracts.ledger.Ledger as Ledger
use Rattle.disk_model.specs.declared.disk.Disk as disks

list_send : (T : RattleType) → IsSend T → IsSend (Seq.the_row T)
list_send T s = search (sendable, crosses) depth 40

pub text_send : IsSend (Text.the_field).row
text_send = search (sendable, crosses) depth 40

-- a list of values holds values, so this stands on the law of the layers of a type that leads back to itself
value_send : IsSend (Value.the_field).row
value_send = search (sendable, crosses, value.crosses, list_send) depth 60

elem_send : IsSend (Elem.the_field).row
elem_send = search (sendable, crosses) depth 40

pub row_send : IsSend (Row.the_field).row
row_send = search (sendable, crosses, value_send, elem_send) depth 40

op_send : IsSend (Op.the_field).row
op_send = search (sendable, crosses, row_send, elem_send) depth 40

kind_send : IsSend (Kind.the_field).row
kind_send = search (sendable, crosses, op_send) depth 40

pub entry_send : IsSend (Entry.the_field).row
entry_send = search (sendable, crosses, kind_send) depth 40

shape_send : IsSend (Shape.the_field).row
shape_send = search (sendable, crosses) depth 40 fits 10000

node_send : IsSend (Node.the_field).row
node_send = search (sendable, crosses, text_send, shape_send) depth 60 fits 10000

pub schema_send : IsSend (Schema.the_field).row
schema_send = search (sendable, crosses, node_send) depth 60

limits_send : IsSend (Limits.the_field).row
limits_send = search (sendable, crosses) depth 40

past_send : (T : RattleType) → IsSend (Past.the_field T).row
past_send T = search (sendable, crosses, past.crosses) depth 60

pub remembered_send : (T : RattleType) → IsSend (Remembered.the_field T).row
remembered_send T = search (sendable, crosses, past_send) depth 60

log_send : IsSend (Log.the_field).row
log_send = search (sendable, crosses, entry_send) depth 40

module _ (T : RattleType) (tree : trees.Ghosts T.Denot) where
  trial_send : IsSend T → IsSend (Trial.the_field T).row
  trial_send t = search (sendable, crosses, text_send) depth 40

  prepared_send : IsSend T → IsSend (Prepared.the_field T).row
  prepared_send t = search (sendable, crosses, text_send) depth 40

  pub core_send : IsSend T → IsSend (Core.the_field T tree).row
  core_send t = let a = trial_send t in let b = prepared_send t in search (sendable, crosses, schema_send, limits_send, log_send) depth 60 fits 10000

module _ (D : RattleType) (disk : disks.Ghosts D.Denot) where
  pub ledger_send : IsSend D → IsSend (Ledger.the_field D disk).row
  ledger_send d = search (sendable, crosses, limits_send, remembered_send) depth 60 fits 10000

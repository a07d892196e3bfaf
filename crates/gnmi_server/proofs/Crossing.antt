-- What a feeder's job holds may cross threads.
use denote.RattleType.{RattleType}
use denote.Param.Send.{IsSend, sendable}
use Rattle.std.proofs.Crossing.{crosses}
use Rattle.base_kinds.specs.contracts.path.Elem as Elem
use Rattle.base_lists.specs.contracts.seq.Seq as Seq
use Rattle.environment.specs.declared.streams.Sink as sinks
use Rattle.h2_send.specs.contracts.wire.Wire as Wire
use Rattle.shared_book.proofs.Sending.{schema_send, text_send}
use Rattle.shared_wire.specs.contracts.held.HeldWire as HeldWire
use Rattle.shared_wire.specs.contracts.visit.WireVisit as WireVisit
use Rattle.stream_worker.specs.contracts.job.FeedDone as FeedDone
use Rattle.stream_worker.specs.contracts.job.FeedJob as FeedJob
use Rattle.sub_plan.specs.contracts.plan.Line as Line
use Rattle.sub_plan.specs.contracts.plan.Plan as Plan
use Rattle.turn_lock.proofs.lock.Pass.TheSendSync as passes
use Rattle.turn_lock.proofs.lock.TurnLock.TheSendSync as locks

-- the port of the wire
module _ (S : RattleType) (sink : sinks.Ghosts S.Denot) where
  wire_send : IsSend S → IsSend (Wire.the_field S sink).row
  wire_send s = search (sendable, crosses) depth 60 fits 100000

  held_send : IsSend S → IsSend (HeldWire.the_row S sink)
  held_send s = let a = wire_send s in search (sendable, crosses) depth 60 fits 100000

  pub visit_send : (R : RattleType) → IsSend S → IsSend R → IsSend (WireVisit.the_row S R sink)
  visit_send R s r = let a = held_send s in search (sendable, crosses, passes.the_field_send, locks.the_field_send, locks.the_field_sync) depth 60 fits 100000

-- the plan
list_send : (T : RattleType) → IsSend T → IsSend (Seq.the_row T)
list_send T s = search (sendable, crosses) depth 40

elem_send : IsSend (Elem.the_field).row
elem_send = search (sendable, crosses, text_send) depth 40

line_send : IsSend (Line.the_field).row
line_send = search (sendable, crosses, elem_send, list_send) depth 60 fits 10000

plan_send : IsSend (Plan.the_field).row
plan_send = search (sendable, crosses, line_send, list_send, text_send) depth 60 fits 10000

-- the job, and what it hands back
module _ (P W C Q R : RattleType) where
  pub job_send : IsSend P → IsSend W → IsSend C → IsSend Q → IsSend R → IsSend (FeedJob.the_row P W C Q R)
  job_send p w c q r = search (sendable, crosses, plan_send, schema_send) depth 60 fits 100000

module _ (P W : RattleType) where
  pub done_send : IsSend P → IsSend W → IsSend (FeedDone.the_row P W)
  done_send p w = search (sendable, crosses) depth 60 fits 100000

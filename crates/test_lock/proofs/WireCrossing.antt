-- A port of a wire may cross threads where its sink and its runtime may.
use denote.RattleType.{RattleType}
use denote.Param.{param}
use denote.Param.Send.{IsSend, sendable}
use Rattle.std.proofs.Crossing.{crosses}
use Rattle.turn_lock.proofs.lock.Pass.TheSendSync as passes
use Rattle.turn_lock.proofs.lock.TurnLock.TheSendSync as locks
use Rattle.environment.specs.declared.streams.Sink as sinks
use Rattle.h2_send.specs.contracts.wire.Wire as Wire
use Rattle.environment.specs.contracts.mem_sink.MemSink as MemSink
use Rattle.environment.specs.contracts.mem_sink.MemSinkSink.TheImpl.{ghosts}
use Rattle.shared_wire.specs.contracts.held.HeldWire as HeldWire
use Rattle.shared_wire.specs.contracts.visit.WireVisit as WireVisit

module _ (S : RattleType) (sink : sinks.Ghosts S.Denot) where
  wire_send : IsSend S → IsSend (Wire.the_field S sink).row
  wire_send s = search (sendable, crosses) depth 60 fits 100000

  held_send : IsSend S → IsSend (HeldWire.the_row S sink)
  held_send s = let a = wire_send s in search (sendable, crosses) depth 60 fits 100000

  visit_send : (R : RattleType) → IsSend S → IsSend R → IsSend (WireVisit.the_row S R sink)
  visit_send R s r = let a = held_send s in search (sendable, crosses, passes.the_field_send, locks.the_field_send, locks.the_field_sync) depth 60 fits 100000

sink_send : IsSend MemSink.the_row
sink_send = search (sendable, crosses) depth 60 fits 100000

pub port_send : (R : RattleType) → IsSend (param 0 R) → IsSend (WireVisit.the_row MemSink.the_row (param 0 R) ghosts)
port_send R r = visit_send MemSink.the_row ghosts (param 0 R) sink_send r

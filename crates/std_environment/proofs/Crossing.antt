-- Starters may cross threads.
use denote.RattleType.{RattleType}
use denote.Param.Send.{IsSend, sendable}
use Rattle.std.proofs.Crossing.{crosses}
use Rattle.environment.specs.contracts.mem_source.MemSource as MemSource
use Rattle.std_environment.specs.contracts.held_starter.HeldStarter as HeldStarter
use Rattle.std_environment.specs.contracts.starters.ThreadStarter as ThreadStarter

mem_source_send : IsSend (MemSource.the_field).row
mem_source_send = search (sendable, crosses) depth 60 fits 100000

pub thread_starter_send : (R : RattleType) → IsSend R → IsSend (ThreadStarter.the_row R)
thread_starter_send R r = search (sendable, crosses, mem_source_send) depth 60 fits 100000

pub held_starter_send : (R J K G : RattleType) → IsSend R → IsSend G → IsSend (HeldStarter.the_row R J K G)
held_starter_send R J K G r g = let threads = thread_starter_send R r in search (sendable, crosses) depth 60 fits 100000

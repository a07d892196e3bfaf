-- Parts of a call. Only private functions cite these.
use Rattle.std.specs.Prelude.{ℕ, ◌<◌, List, [], ◌++◌}
use Rattle.environment.specs.Input.{Input, Read, IsEnded}
use Rattle.environment.specs.Output.{Output, Wrote, FailedWithin}
use Rattle.h2_frame.specs.Frames.{Frame}
use Rattle.grpc_client.specs.declared.fault.CallFault.{CallFault}
use Rattle.grpc_client.specs.declared.fault.CallFault.TheVariants as fault
use Rattle.grpc_client.specs.declared.connection.Connection.{Connection}
use Rattle.grpc_client.specs.declared.reply.Reply.{Reply}
use Rattle.grpc_client.specs.declared.octets.ReadEnd.{ReadEnd}
use Rattle.grpc_client.specs.declared.octets.ReadEnd.TheVariants as end
use Rattle.grpc_client.specs.Connections.{IsPaced}
use Rattle.grpc_client.specs.Exchanges.{Exchange, Did, Gets, Breaks, at, owing}
use Rattle.grpc_client.specs.Replies.{frames_of}
use Rattle.grpc_core.specs.declared.method.Method.{Method}
use Rattle.grpc_core.specs.Messages.{framed}
use Rattle.grpc_client.specs.Requests.{opening_octets, calling}
use Rattle.grpc_client.specs.Connections.{next_stream}
use Rattle.grpc_client.specs.Asked.{FaultComes, CameBy, WentBy, fewest_left}

-- an end of the octets as a fault of the call
abbrev pub fault_at : ReadEnd → CallFault
fault_at end.Ended = fault.Closed
fault_at end.Failed = fault.ReadFault
fault_at end.TooLong = fault.Protocol 6
fault_at end.NoMemory = fault.NoMemory

-- why a frame that came whole isn't taken
abbrev pub FrameFault : CallFault → Connection → Frame → Type 0
FrameFault (fault.Protocol code) old frame = Breaks old frame code
FrameFault fault.NoMemory old frame = Unit {0}
FrameFault _ old frame = ⊥

-- a frame came, and this is its answer
pub record Listened (reply : Reply) (old new : Connection) (input now : Input) : Type 0 where
  pub octets : List ℕ
  pub frame : Frame
  pub read : Read octets input now
  pub gets : Gets octets frame (at old) (owing (frames_of reply) new)

-- why no frame is taken
abbrev pub Stops : CallFault → Connection → List ℕ → Input → Type 0
Stops (fault.Protocol code) old octets input = FaultComes old octets code
Stops fault.Closed old octets input = IsEnded input
Stops fault.Spent old octets input = old.left < fewest_left
Stops fault.ReadFault old octets input = Unit {0}
Stops fault.NoMemory old octets input = Unit {0}
Stops _ old octets input = ⊥

-- no frame came, or one that isn't taken
pub record Unheard (why : CallFault) (old : Connection) (input now : Input) : Type 0 where
  pub more : List ℕ
  pub read : CameBy why more input now
  pub because : Stops why old more now

-- as many octets of the call were sent as can be
pub record Flushes (old new : Connection) (output later : Output) : Type 0 where
  pub went : List ℕ
  pub did : Did (at old) [] went (at new)
  pub wrote : Wrote went output later
  pub paced : IsPaced new

-- a write failed
pub record FlushFails (old : Connection) (output later : Output) : Type 0 where
  pub went : List ℕ
  pub last : Exchange
  pub did : Did (at old) [] went last
  pub failed : FailedWithin went output later

-- one frame, its answer, and what it lets the client send
pub record Advances (old new : Connection) (input now : Input) (output later : Output)
    : Type 0 where
  pub came : List ℕ
  pub went : List ℕ
  pub did : Did (at old) came went (at new)
  pub read : Read came input now
  pub wrote : Wrote went output later
  pub paced : IsPaced new

-- A call has begun: its stream is open, and as many of its octets are sent as can be.
pub record Begins (authority : List ℕ) (method : Method) (message : List ℕ) (old new : Connection)
    (output later : Output) : Type 0 where
  pub went : List ℕ
  pub did : Did (calling (next_stream old) authority method (framed message) old) [] went (at new)
  pub wrote : Wrote (opening_octets old.begun ++ went) output later
  pub paced : IsPaced new

-- the faults that come before anything is read
abbrev pub IsLocal : CallFault → Type 0
IsLocal fault.WriteFault = Unit {0}
IsLocal fault.NoMemory = Unit {0}
IsLocal _ = ⊥

pub record BeginsNot (why : CallFault) (authority : List ℕ) (method : Method) (message : List ℕ)
    (old : Connection) (output later : Output) : Type 0 where
  pub went : List ℕ
  pub last : Exchange
  pub did : Did (calling (next_stream old) authority method (framed message) old) [] went last
  pub wrote : WentBy why (opening_octets old.begun ++ went) output later
  pub local : IsLocal why

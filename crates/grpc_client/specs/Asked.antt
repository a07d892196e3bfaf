-- What a call is answered.
use Rattle.std.specs.Prelude.{◌≡◌, ◌⊎◌, ℕ, ◌<◌, ◌≤◌, List, ◌++◌, take, Option, Some, None, Result, Ok, Err, if◌then◌else◌}
use Rattle.environment.specs.Input.{Input, Read, FailedAfter, IsEnded}
use Rattle.environment.specs.Output.{Output, Wrote, FailedWithin}
use Rattle.h2_frame.specs.Frames.{Frame, Spells, IsTooLong}
use Rattle.h2_frame.specs.ErrorCodes.{frame_size_error}
use Rattle.h2_events.specs.Events.{largest_frame}
use Rattle.h2_responses.specs.declared.server.ResponseState.TheVariants.{Over}
use Rattle.grpc_core.specs.declared.method.Method.{Method}
use Rattle.grpc_core.specs.Messages.{framed}
use Rattle.grpc_client.specs.declared.fault.CallFault.{CallFault}
use Rattle.grpc_client.specs.declared.fault.CallFault.TheVariants as fault
use Rattle.grpc_client.specs.Faults.{goes_on}
use Rattle.grpc_client.specs.declared.connection.Connection.{Connection}
use Rattle.grpc_client.specs.Connections.{next_stream}
use Rattle.grpc_client.specs.Exchanges.{Exchange, Did, at, counted, Breaks}
use Rattle.grpc_client.specs.Requests.{opening_octets, calling}
use Rattle.grpc_client.specs.Responses.{answer_of}

-- ---- a connection that was left in the middle

-- A frame that is a connection error, which these octets are, or begin.
pub record BreaksWith (old : Connection) (octets : List ℕ) (code : ℕ) : Type 0 where
  pub frame : Frame
  pub spells : Spells octets frame
  pub allowed : frame.head.length ≤ largest_frame
  pub breaks : Breaks (counted octets old) frame code

abbrev pub FaultComes : Connection → List ℕ → ℕ → Type 0
FaultComes old octets code =
    (IsTooLong largest_frame octets × (code ≡ frame_size_error)) ⊎ BreaksWith old octets code

-- The fewest octets of those that may still come: one more frame.
abbrev pub fewest_left : ℕ
fewest_left = 16393

-- Why a call was left, where these octets came behind the last whole frame.
abbrev pub Why : CallFault → Exchange → List ℕ → Input → Type 0
Why (fault.Protocol code) last octets input = FaultComes last.connection octets code
Why fault.Closed last octets input =
    IsEnded input ⊎ (last.connection.limit < last.connection.server.last)
Why fault.Spent last octets input = last.connection.left < fewest_left
Why fault.ReadFault last octets input = Unit {0}
Why fault.WriteFault last octets input = Unit {0}
Why fault.NoMemory last octets input = Unit {0}
Why _ last octets input = ⊥

-- ReadFault comes only where a read failed,
abbrev pub CameBy : CallFault → List ℕ → Input → Input → Type 0
CameBy fault.ReadFault octets old new = FailedAfter octets old new
CameBy _ octets old new = Read octets old new

-- and WriteFault only where a write failed. Where memory ran out a prefix was written.
abbrev pub WentBy : CallFault → List ℕ → Output → Output → Type 0
WentBy fault.WriteFault octets old new = FailedWithin octets old new
WentBy fault.NoMemory octets old new = (n : ℕ) × Wrote (take n octets) old new
WentBy _ octets old new = Wrote octets old new

-- Steps led to `last`, and the fault ended them. What was sent stands behind these octets.
pub record Broken (why : CallFault) (before : List ℕ) (first : Exchange) (input now : Input)
    (output later : Output) : Type 0 where
  pub came : List ℕ
  pub went : List ℕ
  pub last : Exchange
  pub did : Did first came went last
  pub more : List ℕ
  pub read : CameBy why (came ++ more) input now
  pub wrote : WentBy why (before ++ went) output later
  pub because : Why why last more now

-- ---- a call whose response is over

-- Steps led from the call's beginning to the end of its response. All that was owed is sent.
pub record Completed (before : List ℕ) (first : Exchange) (new : Connection) (input now : Input)
    (output later : Output) : Type 0 where
  pub came : List ℕ
  pub went : List ℕ
  pub did : Did first came went (at new)
  pub read : Read came input now
  pub wrote : Wrote (before ++ went) output later
  pub over : new.server.state ≡ Over

pub record Answered (result : Result (List ℕ) CallFault) (before : List ℕ) (first : Exchange)
    (new : Connection) (input now : Input) (output later : Output) : Type 0 where
  pub completed : Completed before first new input now output later
  pub answer : result ≡ answer_of new.heard

-- ---- the call

-- The answer is that of a response that is over, or the fault broke the connection.
abbrev pub Asks : Result (List ℕ) CallFault → List ℕ → Exchange → Connection → Input → Input → Output
    → Output → Type 0
Asks (Ok message) before first new input now output later =
    Answered (Ok message) before first new input now output later
Asks (Err why) before first new input now output later =
    Answered (Err why) before first new input now output later
    ⊎ Broken why before first input now output later

-- a stream is left for the call, and the server takes it
pub record CanOpen (old : Connection) : Type 0 where
  pub exists : next_stream old ≤ 2147483647
  pub taken : next_stream old ≤ old.limit

-- A call of a method with a message, from how the connection was.
abbrev pub Asked : List ℕ → Method → List ℕ → Result (List ℕ) CallFault → Connection → Connection
    → Input → Input → Output → Output → Type 0
Asked authority method message result old new input now output later =
    Asks result (opening_octets old.begun)
    (calling (next_stream old) authority method (framed message) old) new input now output later

-- the fault that a client keeps, and answers from then on
abbrev pub kept : Result (List ℕ) CallFault → Option CallFault
kept (Ok message) = None
kept (Err why) = if goes_on why then None else Some why

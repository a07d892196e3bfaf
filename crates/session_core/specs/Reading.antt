-- What a session has read of its peer, by how it ended (RFC 9113 sections 3.4, 5.4.1 and 6.9.1).
use Rattle.std.specs.Prelude.{◌≡◌, ◌⊎◌, ◌<◌, ℕ, List, [], ◌∷◌, ◌++◌, length, true, Some, Ok}
use Rattle.environment.specs.Input.{Input as Source, Read, FailedAfter, IsEnded}
use Rattle.h2_frame.specs.Frames.{Frame}
use Rattle.h2_frame.specs.ErrorCodes.{protocol_error, flow_control_error}
use Rattle.h2_events.specs.declared.event.RecvEvent.{RecvEvent}
use Rattle.h2_streams.specs.Calls.{Moment, read}
use Rattle.h2_recv.specs.declared.reader.Reader.{Reader}
use Rattle.h2_recv.specs.Receiving.{ReadsWithEnds, FaultsWithEnds, EndsFrame, GoesOn, new_reader}
use Rattle.h2_send.specs.Inputs.{Input}
use Rattle.h2_send.specs.Lines.{first_line, overflows}
use Rattle.h2_send.specs.Orders.{line_after}
use Rattle.session_core.specs.declared.how.How.{How}
use Rattle.session_core.specs.declared.how.How.TheVariants as hows

-- the most octets that are read of a peer: this project's own bound
abbrev pub most_octets : ℕ
most_octets = 281474976710656

-- The octets are these frames, and perhaps part of one more. Between the frames this side ended streams.
abbrev pub AreFrames : List ℕ → List Moment → Type 0
AreFrames octets moments = (reader : Reader) × ReadsWithEnds new_reader octets moments reader

-- they end where a frame ends
abbrev pub AreWhole : List ℕ → List Moment → Type 0
AreWhole octets moments =
    (reader : Reader) × ReadsWithEnds new_reader octets moments reader × EndsFrame (Ok reader)

-- they end elsewhere: within the preface or a frame, or before a first SETTINGS
abbrev pub AreCut : List ℕ → List Moment → Type 0
AreCut octets moments =
    (reader : Reader) × ReadsWithEnds new_reader octets moments reader × (EndsFrame (Ok reader) → ⊥)

-- the octets don't begin as the preface does
abbrev pub Departs : List ℕ → ℕ → Type 0
Departs octets code = (GoesOn 0 octets → ⊥) × (code ≡ protocol_error)

-- The last frame would take a window above 2^31 - 1, which is the peer's fault. It changes no window.
pub record Overflows (octets : List ℕ) (moments : List Moment) (inputs : List Input) (code : ℕ)
    : Type 0 where
  pub frame : Frame
  pub event : RecvEvent
  pub frames : AreFrames octets (moments ++ read frame (Some event) ∷ [])
  pub over : overflows event (line_after first_line inputs) ≡ true
  pub code_is : code ≡ flow_control_error

-- the peer is at fault: the connection ends with an error
abbrev pub IsConnectionError : List ℕ → List Moment → List Input → ℕ → Type 0
IsConnectionError octets moments inputs code =
    Departs octets code ⊎ FaultsWithEnds new_reader octets moments code
    ⊎ Overflows octets moments inputs code

-- all octets were read to the source's end, fewer than are read at most
pub record IsReadToEnd (octets : List ℕ) (old new : Source) : Type 0 where
  pub all : Read octets old new
  pub ended : IsEnded new
  pub few : length octets < most_octets

-- a read failed behind these octets, fewer than are read at most
pub record IsReadToFault (octets : List ℕ) (old new : Source) : Type 0 where
  pub failed : FailedAfter octets old new
  pub few : length octets < most_octets

-- a front of the octets is these frames
pub record IsReadPartly (octets : List ℕ) (moments : List Moment) : Type 0 where
  pub front : List ℕ
  pub behind : List ℕ
  pub joined : octets ≡ front ++ behind
  pub frames : AreFrames front moments

-- what the source gave, and whether it was at its end or failed then
abbrev pub IsGiven : How → List ℕ → Source → Source → Type 0
IsGiven hows.Closed octets old new = IsReadToEnd octets old new
IsGiven hows.Cut octets old new = IsReadToEnd octets old new
IsGiven hows.ReadFault octets old new = IsReadToFault octets old new
IsGiven _ octets old new = Read octets old new

-- What the octets are: frames, a connection error behind them, or as many octets as are read. Where the output failed or memory
-- ran out a front of them was served.
abbrev pub IsMadeOf : How → List ℕ → List Moment → List Input → Type 0
IsMadeOf hows.Closed octets moments inputs = AreWhole octets moments
IsMadeOf hows.Cut octets moments inputs = AreCut octets moments
IsMadeOf (hows.Protocol code) octets moments inputs = IsConnectionError octets moments inputs code
IsMadeOf hows.ReadFault octets moments inputs = AreFrames octets moments
IsMadeOf hows.WriteFault octets moments inputs = IsReadPartly octets moments
IsMadeOf hows.Spent octets moments inputs =
    (length octets ≡ most_octets) × AreFrames octets moments
IsMadeOf hows.NoMemory octets moments inputs = IsReadPartly octets moments

-- What a session has written to its peer, by how it ended (RFC 9113 sections 3.4 and 5.4.1).
use Rattle.std.specs.Prelude.{◌≡◌, ◌⊎◌, ℕ, ◌≤◌, List, [], ◌∷◌, ◌++◌, length}
use Rattle.environment.specs.Output.{Output, Wrote, FailedWithin}
use Rattle.h2_streams.specs.Calls.{Moment}
use Rattle.h2_windows.specs.Control.{greeting}
use Rattle.h2_windows.specs.Written.{octets_of}
use Rattle.h2_send.specs.Inputs.{Input}
use Rattle.h2_send.specs.Lines.{first_line}
use Rattle.h2_send.specs.Acting.{handled}
use Rattle.h2_send.specs.Farewells.{farewell}
use Rattle.h2_send.specs.Orders.{line_after}
use Rattle.h2_send.specs.Outputs.{frames_of, frames_until}
use Rattle.session_core.specs.Reading.{IsConnectionError}
use Rattle.session_core.specs.declared.how.How.{How}
use Rattle.session_core.specs.declared.how.How.TheVariants as hows

-- What the sending half was given last is lost where memory was wanting for it.
pub record IsLostLast (how : How) (inputs given : List Input) : Type 0 where
  pub lost : List Input
  pub whole : given ≡ inputs ++ lost
  pub one : length lost ≤ 1
  pub none : (how ≡ hows.NoMemory → ⊥) → lost ≡ []

-- The greeting couldn't be written whole, and nothing was served.
pub record BreaksGreeting (inputs : List Input) (old new : Output) : Type 0 where
  pub none : inputs ≡ []
  pub failed : FailedWithin (octets_of (greeting ∷ [])) old new

-- What is written for the last input couldn't be written whole.
pub record BreaksInput (inputs : List Input) (old new : Output) : Type 0 where
  pub before : List Input
  pub last : Input
  pub split : inputs ≡ before ++ last ∷ []
  pub between : Output
  pub wrote : Wrote (octets_of (frames_of before)) old between
  pub failed : FailedWithin (octets_of (handled last (line_after first_line before)).frames)
      between new

-- The GOAWAY of a connection error couldn't be written whole.
pub record BreaksGoaway (octets : List ℕ) (moments : List Moment) (inputs : List Input)
    (old new : Output) : Type 0 where
  pub code : ℕ
  pub error : IsConnectionError octets moments inputs code
  pub between : Output
  pub wrote : Wrote (octets_of (frames_of inputs)) old between
  pub failed : FailedWithin (octets_of (farewell code (line_after first_line inputs))) between new

-- a write failed, which was the last one
abbrev pub IsBroken : List ℕ → List Moment → List Input → Output → Output → Type 0
IsBroken octets moments inputs old new =
    BreaksGreeting inputs old new ⊎ BreaksInput inputs old new
    ⊎ BreaksGoaway octets moments inputs old new

-- Behind a connection error stands a GOAWAY with its code.
abbrev pub IsWritten : How → List ℕ → List Moment → List Input → Output → Output → Type 0
IsWritten (hows.Protocol code) octets moments inputs old new =
    Wrote (octets_of (frames_until inputs code)) old new
IsWritten hows.WriteFault octets moments inputs old new = IsBroken octets moments inputs old new
IsWritten _ octets moments inputs old new = Wrote (octets_of (frames_of inputs)) old new

-- How a port sees the sender of a connection, and what its calls do there.
use Rattle.std.specs.Prelude.{◌≡◌, ℕ, ◌+◌, ◌-◌, ◌^◌, ◌≤◌, Bool, IsTrue, min, List, [], ◌∷◌, ◌++◌, Option, Some, length, map}
use Rattle.environment.specs.Output.{Output, Wrote, FailedWithin}
use Rattle.h2_windows.specs.Written.{octets_of}
use Rattle.h2_events.specs.Items.{said_on, written}
use Rattle.h2_events.specs.declared.said.Piece.{Piece}
use Rattle.h2_events.specs.declared.said.Said.{Said}
use Rattle.h2_events.specs.declared.port.Took.{Took}
use Rattle.h2_events.specs.declared.port.Took.TheVariants as took
use Rattle.h2_events.specs.declared.port.Ready.{Ready}
use Rattle.h2_events.specs.declared.port.Ready.TheVariants as ready
use Rattle.h2_send.specs.Accepting.{AreAccepted}
use Rattle.h2_send.specs.Farewells.{farewell}
use Rattle.h2_send.specs.Inputs.{Input, Speech, item_of}
use Rattle.h2_send.specs.Lines.{Line, first_line}
use Rattle.h2_send.specs.Acting.{handled}
use Rattle.h2_send.specs.Orders.{line_after, order_after}
use Rattle.h2_send.specs.Conditions.{IsClosed, readiness}
use Rattle.h2_send.specs.declared.condition.Condition.{Condition}
use Rattle.h2_send.specs.declared.condition.Condition.TheVariants as condition

-- How far the sending half of a connection has come: what it was given so far, whether it still writes, and what has gone
-- out to its sink.
pub record Progress : Type 0 where
  pub inputs : List Input
  pub condition : Condition
  pub output : Output

-- the windows and streams that the inputs come to
abbrev pub line_of : Progress → Line
line_of at = line_after first_line at.inputs

-- whether something can be said on a stream
abbrev pub ready_in : ℕ → Progress → Ready
ready_in stream at = readiness at.condition stream (line_of at)

-- what was said on a stream so far
abbrev pub said_so_far : ℕ → Progress → List Said
said_so_far stream at = said_on stream (map item_of at.inputs)

-- What has gone out of a sending half that was open and that others have closed: all of what they gave, and GOAWAY where they
-- ended the connection with an error; a proper front of that, where a write failed; and where memory was wanting, all of it, or
-- all before what was given last.
abbrev pub Ends : Condition → Line → List Input → Output → Output → Type 0
Ends condition.New line others old new = ⊥
Ends condition.Open line others old new = Unit {0}
Ends condition.Finished line others old new =
    (code : ℕ) × Wrote (octets_of (written (order_after line others)
    ++ farewell code (line_after line others))) old new
Ends condition.WriteFault line others old new =
    (code : ℕ) × FailedWithin (octets_of (written (order_after line others)
    ++ farewell code (line_after line others))) old new
Ends condition.NoMemory line others old new =
    (before : List Input) × (lost : List Input) × (length lost ≤ 1)
    × (others ≡ before ++ lost)
    × Wrote (octets_of (written (order_after line before))) old new

-- What others do between two calls of a port. They may give more, each where it is accepted, and just the frames of that go
-- out, also where they close the sending half. Once it is closed nothing changes any more.
pub record GoesOn (old new : Progress) : Type 0 where
  pub others : List Input
  pub inputs : new.inputs ≡ old.inputs ++ others
  pub accepted : AreAccepted (line_of old) others
  pub wrote : old.condition ≡ condition.Open → new.condition ≡ condition.Open
      → Wrote (octets_of (written (order_after (line_of old) others))) old.output new.output
  pub ended : old.condition ≡ condition.Open
      → Ends new.condition (line_of old) others old.output new.output
  pub faults : old.output.faults ≤ new.output.faults
  pub closed : IsClosed old.condition → new ≡ old

-- What becomes of what is said on a stream that is free: it goes out, and what the windows let through behind it. A write
-- fault comes behind a proper front of these octets, and want of memory before any; both close the sending half.
abbrev pub Takes : Took → Input → Progress → Progress → Type 0
Takes took.Taken input old new =
    Wrote (octets_of (handled input (line_of old)).frames) old.output new.output
    × (new.inputs ≡ old.inputs ++ input ∷ [])
    × (new.condition ≡ condition.Open)
Takes took.WriteFault input old new =
    FailedWithin (octets_of (handled input (line_of old)).frames) old.output new.output
    × (new.inputs ≡ old.inputs ++ input ∷ [])
    × (new.condition ≡ condition.WriteFault)
Takes took.NoMemory input old new =
    (new.output ≡ old.output)
    × (new.inputs ≡ old.inputs ++ input ∷ [])
    × (new.condition ≡ condition.NoMemory)
Takes _ input old new = ⊥

-- by how the stream stands: Busy and Gone come exactly where it does, and then nothing changes
abbrev pub Tries : Ready → Took → Input → Progress → Progress → Type 0
Tries ready.Free answer input old new = Takes answer input old new
Tries ready.Busy answer input old new = (answer ≡ took.Busy) × (new ≡ old)
Tries ready.Gone answer input old new = (answer ≡ took.Gone) × (new ≡ old)

-- An offer finds the connection as others left it, and as it was where there are none.
pub record Offers (is_alone : Bool) (answer : Took) (stream : ℕ) (said : Said)
    (old new : Progress) : Type 0 where
  pub found : Progress
  pub goes_on : GoesOn old found
  pub alone : IsTrue is_alone → found ≡ old
  pub tries : Tries (ready_in stream found) answer (Speech stream said) found new

-- So does the question whether a stream takes something.
pub record Asks (is_alone : Bool) (answer : Ready) (stream : ℕ) (old new : Progress) : Type 0 where
  pub goes_on : GoesOn old new
  pub alone : IsTrue is_alone → new ≡ old
  pub answers : answer ≡ ready_in stream new

-- What an offer adds to what is said: the piece where it was accepted, whatever became of its octets.
abbrev pub accepted_by : Took → Said → List Said
accepted_by took.Busy said = []
accepted_by took.Gone said = []
accepted_by _ said = said ∷ []

-- What an offer does through its port: it gives the sending half the piece where it was accepted.
abbrev pub given_by : Took → ℕ → Said → List (Option Input)
given_by answer stream said = map (λ word. Some (Speech stream word)) (accepted_by answer said)

-- ---- what a port counts

-- the pieces that were taken, how often a stream was said to be free, and how often a piece was offered
pub record PortView : Type 0 where
  pub taken : List (ℕ × Piece)
  pub frees : ℕ
  pub offers : ℕ

abbrev pub unused_port : PortView
unused_port = record { taken = []; frees = 0; offers = 0 }

-- A count stands still at the end of its type.
abbrev pub once_more : ℕ → ℕ
once_more count = min (count + 1) (2 ^ 64 - 1)

abbrev pub with_taken : Took → ℕ × Piece → List (ℕ × Piece) → List (ℕ × Piece)
with_taken took.Taken given pieces = pieces ++ given ∷ []
with_taken _ given pieces = pieces

-- after an offer of a piece on a stream
abbrev pub noted : Took → ℕ × Piece → PortView → PortView
noted answer given port =
    record port { taken = with_taken answer given port.taken; offers = once_more port.offers }

-- after an answer to how a stream stands
abbrev pub asked : Ready → PortView → PortView
asked ready.Free port = record port { frees = once_more port.frees }
asked _ port = port

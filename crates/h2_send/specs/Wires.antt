-- A wire as its callers see it, and what its calls do.
use Rattle.std.specs.Prelude.{◌≡◌, ℕ, Bool, true, not, nat_eq, ◌&&◌, List, [], ◌∷◌, ◌++◌, Result, Ok, Err, refl}
use Rattle.std.specs.Coded.{Coded, code_by, coded×}
use Rattle.environment.specs.Output.{Output, Wrote, FailedWithin}
use Rattle.h2_frame.specs.Frames.{Frame}
use Rattle.h2_frame.specs.Kinds.{data_kind, headers_kind}
use Rattle.h2_windows.specs.Control.{greeting}
use Rattle.h2_windows.specs.Written.{octets_of}
use Rattle.h2_events.specs.declared.port.Took.{Took}
use Rattle.h2_events.specs.declared.port.Took.TheVariants as took
use Rattle.h2_send.specs.Orders.{line_after}
use Rattle.h2_send.specs.Port.{PortView, Progress}
pub use Rattle.h2_send.specs.Farewells.{farewell}
use Rattle.h2_send.specs.Inputs.{Input}
use Rattle.h2_send.specs.Lines.{Line, first_line}
use Rattle.h2_send.specs.Acting.{Acted, handled}
use Rattle.h2_send.specs.Accepting.{AreAccepted, HoldWithin}
use Rattle.h2_send.specs.declared.condition.Condition.{Condition}
use Rattle.h2_send.specs.declared.condition.Condition.TheVariants as condition
use Rattle.h2_send.specs.declared.fault.WireFaultOut.{WireFaultOut}
use Rattle.h2_send.specs.declared.fault.WireFaultOut.TheVariants as fault

-- the sink, what is known of the connection, the inputs so far, whether the wire is open, and what it counts as a port
pub record WireView (S : Type 0) : Type 0 where
  pub sink : S
  pub line : Line
  pub inputs : List Input
  pub condition : Condition
  pub port : PortView

module _ {S : Type 0} where
  abbrev pub view_code : Coded S → Coded (Line × (List Input × (Condition × PortView)))
      → Coded (WireView S)
  view_code sink parts =
      code_by (S × (Line × (List Input × (Condition × PortView)))) (coded× sink parts)
      (λ v. (v.sink, (v.line, (v.inputs, (v.condition, v.port)))))
      (λ p. record {
        sink = p.0;
        line = p.1.0;
        inputs = p.1.1.0;
        condition = p.1.1.1.0;
        port = p.1.1.1.1;
      })
      (λ _. refl)

-- how far the wire has come
abbrev pub progress_of : {S : Type 0} → (S → Output) → WireView S → Progress
progress_of seen w =
    record { inputs = w.inputs; condition = w.condition; output = seen w.sink }

-- What a call on an open wire does. Where it answers Ok the frames are written, all of them. A write fault comes behind a
-- proper front of their octets, and want of memory, which only some calls can have, before any. Both close the wire.
abbrev pub Does : {S : Type 0} → (S → Output) → Bool → Condition → List Input → Acted
    → Result (Unit {0}) WireFaultOut → WireView S → WireView S → Type 0
Does seen wants_memory next inputs a (Ok tt) old new =
    Wrote (octets_of a.frames) (seen old.sink) (seen new.sink)
    × (new ≡ record old {
      sink = new.sink;
      line = a.line;
      inputs = old.inputs ++ inputs;
      condition = next;
    })
Does seen wants_memory next inputs a (Err fault.WriteFault) old new =
    FailedWithin (octets_of a.frames) (seen old.sink) (seen new.sink)
    × (new.inputs ≡ old.inputs ++ inputs)
    × (new.condition ≡ condition.WriteFault)
    × (new.port ≡ old.port)
Does seen wants_memory next inputs a (Err fault.NoMemory) old new =
    (wants_memory ≡ true)
    × (seen new.sink ≡ seen old.sink)
    × (new.inputs ≡ old.inputs ++ inputs)
    × (new.condition ≡ condition.NoMemory)
    × (new.port ≡ old.port)
Does seen wants_memory next inputs a (Err fault.Overflow) old new = ⊥

-- The same of the connection and the sink alone.
abbrev pub Responds : Bool → Acted → Result (Unit {0}) WireFaultOut → Line → Output → Output
    → Type 0
Responds wants_memory a (Ok tt) line old new = Wrote (octets_of a.frames) old new × (line ≡ a.line)
Responds wants_memory a (Err fault.WriteFault) line old new =
    FailedWithin (octets_of a.frames) old new
Responds wants_memory a (Err fault.NoMemory) line old new = (wants_memory ≡ true) × (new ≡ old)
Responds wants_memory a (Err fault.Overflow) line old new = ⊥

-- What saying something on a stream that is free does.
abbrev pub Says : {S : Type 0} → (S → Output) → Input → Took → WireView S → WireView S → Type 0
Says seen input took.Taken old new =
    Does seen true condition.Open (input ∷ []) (handled input old.line) (Ok tt) old new
Says seen input took.WriteFault old new =
    Does seen true condition.Open (input ∷ []) (handled input old.line) (Err fault.WriteFault)
    old new
Says seen input took.NoMemory old new =
    Does seen true condition.Open (input ∷ []) (handled input old.line) (Err fault.NoMemory) old new
Says seen input _ old new = ⊥

-- Until a wire is closed its line is what its inputs make of the first one.
abbrev pub IsFolded : Condition → Line → List Input → Type 0
IsFolded condition.New line inputs = line ≡ line_after first_line inputs
IsFolded condition.Open line inputs = line ≡ line_after first_line inputs
IsFolded _ line inputs = Unit {0}

-- of an open wire, that the octets which wait are those of one message a stream at most
abbrev pub IsHeld : Condition → Line → Type 0
IsHeld condition.New line = HoldWithin line.streams
IsHeld condition.Open line = HoldWithin line.streams
IsHeld _ line = Unit {0}

-- What holds of a wire at every moment: each of its inputs could be given where it came, until it is closed its line is what
-- they make of the first one, and what it keeps back is bounded.
pub record IsSoundWire (state : Condition) (line : Line) (inputs : List Input) : Type 0 where
  pub folded : IsFolded state line inputs
  pub accepted : AreAccepted first_line inputs
  pub held : IsHeld state line

-- the greeting, which changes no window
abbrev pub greeted : Line → Acted
greeted line = record { frames = greeting ∷ []; line = line }

-- the end of a connection
abbrev pub finished : ℕ → Line → Acted
finished code line = record { frames = farewell code line; line = line }

-- SETTINGS is the first frame that a server writes (section 3.4), where it writes any.
abbrev pub behind_greeting : List Frame → List Frame
behind_greeting [] = []
behind_greeting (frame ∷ frames) = greeting ∷ frame ∷ frames

-- what is written last, by how the wire stands
abbrev pub last_frames : Condition → ℕ → Line → List Frame
last_frames condition.New code line = behind_greeting (farewell code line)
last_frames _ code line = farewell code line

-- a connection that ends before its greeting
abbrev pub finished_ungreeted : ℕ → Line → Acted
finished_ungreeted code line =
    record { frames = behind_greeting (farewell code line); line = line }

-- neither DATA nor HEADERS: what answers a frame that was read
abbrev pub is_control : Frame → Bool
is_control frame =
    not (nat_eq frame.head.kind data_kind) && not (nat_eq frame.head.kind headers_kind)

-- What has gone out of a wire.
use Rattle.std.specs.Prelude.{◌≡◌, ◌⊎◌, ℕ, List, [], ◌∷◌, ◌++◌}
use Rattle.environment.specs.Output.{Output, Wrote, FailedWithin}
use Rattle.h2_frame.specs.Frames.{Frame}
use Rattle.h2_windows.specs.Control.{greeting}
use Rattle.h2_windows.specs.Written.{octets_of}
use Rattle.h2_events.specs.Items.{written}
use Rattle.h2_send.specs.Farewells.{farewell}
use Rattle.h2_send.specs.Inputs.{Input}
use Rattle.h2_send.specs.Lines.{first_line}
use Rattle.h2_send.specs.Orders.{line_after, order_of}
use Rattle.h2_send.specs.declared.condition.Condition.{Condition}
use Rattle.h2_send.specs.declared.condition.Condition.TheVariants as condition

-- the frames of an open wire: the greeting, and those of the order
abbrev pub frames_of : List Input → List Frame
frames_of inputs = greeting ∷ written (order_of inputs)

-- and of one that ends with this code
abbrev pub frames_until : List Input → ℕ → List Frame
frames_until inputs code = frames_of inputs ++ farewell code (line_after first_line inputs)

-- What a sink has taken of a wire since it was made, by how the wire stands and what it was given: nothing before the greeting;
-- the frames of the order behind it; with a GOAWAY where the connection ended with an error; a proper front of that, where a
-- write failed; and where memory was wanting for the last input, all before that one.
abbrev pub HasGoneOut : Condition → List Input → Output → Output → Type 0
HasGoneOut condition.New inputs start now = (inputs ≡ []) × (now ≡ start)
HasGoneOut condition.Open inputs start now = Wrote (octets_of (frames_of inputs)) start now
HasGoneOut condition.Finished inputs start now =
    (now ≡ start) ⊎ ((code : ℕ) × Wrote (octets_of (frames_until inputs code)) start now)
HasGoneOut condition.WriteFault inputs start now =
    (code : ℕ) × FailedWithin (octets_of (frames_until inputs code)) start now
HasGoneOut condition.NoMemory inputs start now =
    (before : List Input) × (last : Input) × (inputs ≡ before ++ last ∷ [])
    × Wrote (octets_of (frames_of before)) start now

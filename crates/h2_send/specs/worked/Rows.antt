-- Events, worked out.
use Rattle.std.specs.Prelude.{◌≡◌, refl, ℕ, List, [], ◌∷◌, ◌++◌, None, map, replicate, pos, ℤ, negsuc, false, true}
use Rattle.h2_frame.specs.Frames.{Frame}
use Rattle.h2_send.specs.Lines.{Line, overflows}
use Rattle.h2_send.specs.Messages.{octets_said, data_on, waiting_on}
use Rattle.h2_events.specs.declared.said.Said.TheVariants.{Message, Finish}
use Rattle.h2_windows.specs.Control.{settings_ack}
use Rattle.h2_send.specs.Acting.{acted}
use Rattle.h2_windows.specs.Sending.{data_frame}
use Rattle.h2_windows.specs.declared.stream.Stream.{Stream}
use Rattle.h2_events.specs.declared.event.RecvEvent.TheVariants as e

abbrev stream : ℕ → ℤ → List ℕ → Stream
stream id credit pending =
    record { id = id; begun = true; credit = credit; taken = 0; pending = pending }

abbrev line : ℤ → ℕ → List Stream → Line
line window initial streams = record { window = window; initial = initial; owes_update = false; highest = 1; streams = streams }

abbrev octets : ℕ → List ℕ
octets n = replicate n 7

-- with an initial window of 0 nothing goes; 3 octets are granted on the stream; then the rest and more
abbrev waiting : Line
waiting = line (pos 100) 0 (stream 1 (pos 0) (octets 8) ∷ [])

pub some_granted : acted (e.Window 1 3) waiting ≡ record { frames = data_frame 1 (octets 3) ∷ []; line = line (pos 97) 0 (stream 1 (pos 0) (octets 5) ∷ []) }
some_granted = refl

pub rest_granted : acted (e.Window 1 9) (line (pos 97) 0 (stream 1 (pos 0) (octets 5) ∷ [])) ≡ record { frames = data_frame 1 (octets 5) ∷ []; line = line (pos 92) 0 (stream 1 (pos 4) [] ∷ []) }
rest_granted = refl

-- a lower initial window takes a stream's window below 0
pub lowered : (acted (e.Settings 2 false) (line (pos 50) 10 (stream 1 (negsuc 4) (octets 6) ∷ stream 3 (pos 0) (octets 6) ∷ []))).frames ≡ settings_ack ∷ data_frame 3 (octets 2) ∷ []
lowered = refl

-- the connection's window goes to the lowest stream first
pub lowest_first : acted (e.Window 0 7) (line (pos 0) 5 (stream 1 (pos 0) (octets 6) ∷ stream 3 (pos 0) (octets 6) ∷ [])) ≡ record { frames = data_frame 1 (octets 5) ∷ data_frame 3 (octets 2) ∷ []; line = line (pos 0) 5 (stream 1 (negsuc 4) (octets 1) ∷ stream 3 (negsuc 1) (octets 4) ∷ []) }
lowest_first = refl

-- a large reply under an initial window of 0
abbrev big : Line
big = line (pos 75535) 0 (stream 1 (pos 0) (octets 40005) ∷ [])

pub first_piece : map (λ (f : Frame). f.head.length) (acted (e.Window 1 10000) big).frames ≡ 10000 ∷ []
first_piece = refl

pub others : map (λ (f : Frame). f.head.length) (acted (e.Window 1 30005) (line (pos 65535) 0 (stream 1 (pos 0) (octets 30005) ∷ []))).frames ≡ 16384 ∷ 13621 ∷ []
others = refl

pub too_large : overflows (e.Window 0 2147483647) (line (pos 65535) 0 []) ≡ true
too_large = refl

pub just_fits : overflows (e.Window 0 2147418112) (line (pos 65535) 0 []) ≡ false
just_fits = refl

-- of a message some octets go out as DATA, and the others wait
pub some_sent : data_on 1 (acted (e.Window 1 3) waiting).frames ++ waiting_on 1 (acted (e.Window 1 3) waiting).line.streams ≡ waiting_on 1 waiting.streams
some_sent = refl

-- what is said is its messages, each behind five octets
pub two_said : octets_said (Message (octets 2) ∷ Message [] ∷ Finish None ∷ []) ≡ 0 ∷ 0 ∷ 0 ∷ 0 ∷ 2 ∷ 7 ∷ 7 ∷ 0 ∷ 0 ∷ 0 ∷ 0 ∷ 0 ∷ []
two_said = refl

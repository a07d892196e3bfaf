-- What the windows let through, as DATA frames (RFC 9113 sections 6.1 and 6.9).
use Rattle.std.specs.Prelude.{ℕ, zero, suc, List, [], ◌∷◌, ◌++◌, length, take, drop, map, ℤ, pos, ◌-ℤ◌}
use Rattle.h2_frame.specs.Frames.{Frame, frame_of}
use Rattle.h2_frame.specs.Kinds.{data_kind}
use Rattle.h2_windows.specs.Shares.{share}
use Rattle.h2_windows.specs.declared.stream.Stream.{Stream}

-- the largest payload that every peer takes (section 4.2)
abbrev pub largest_payload : ℕ
largest_payload = 16384

-- octets in payloads of at most that, as few as can be
abbrev pub payloads_in : ℕ → List ℕ → List (List ℕ)
payloads_in zero octets = []
payloads_in (suc more) [] = []
payloads_in (suc more) (o ∷ octets) =
    take largest_payload (o ∷ octets) ∷ payloads_in more (drop largest_payload (o ∷ octets))

abbrev pub payloads : List ℕ → List (List ℕ)
payloads octets = payloads_in (length octets) octets

abbrev pub data_frame : ℕ → List ℕ → Frame
data_frame id payload =
    frame_of (record { length = length payload; kind = data_kind; flags = 0; stream = id }) payload

abbrev pub data_frames : ℕ → List ℕ → List Frame
data_frames id octets = map (data_frame id) (payloads octets)

-- a stream after so many of its octets were sent
abbrev pub after_sending : ℕ → Stream → Stream
after_sending n s = record s { credit = s.credit -ℤ pos n; pending = drop n s.pending }

-- what was written, the connection's window after it, and the streams
pub record Sent : Type 0 where
  pub frames : List Frame
  pub window : ℤ
  pub streams : List Stream

abbrev pub before_others : ℕ → Stream → Sent → Sent
before_others n s others = record {
  frames = data_frames s.id (take n s.pending) ++ others.frames;
  window = others.window;
  streams = after_sending n s ∷ others.streams;
}

-- Each stream sends what both windows let through, the first one first.
abbrev pub sent : ℕ → ℤ → List Stream → Sent
sent initial window [] = record { frames = []; window = window; streams = [] }
sent initial window (s ∷ streams) =
    let n = share initial window s in
    before_others n s (sent initial (window -ℤ pos n) streams)

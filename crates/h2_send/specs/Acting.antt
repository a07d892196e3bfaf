-- What is written for an input, and the line after it.
use Rattle.std.specs.Prelude.{ℕ, false, ◌&&◌, List, [], ◌∷◌, ◌++◌}
use Rattle.h2_frame.specs.Frames.{Frame}
use Rattle.h2_windows.specs.Control.{settings_ack, ping_ack, rst_stream, granted_again}
use Rattle.h2_windows.specs.Sending.{Sent, sent}
use Rattle.h2_windows.specs.Streams.{without}
use Rattle.h2_send.specs.Headers.{opening, ending, status_answer}
use Rattle.grpc_core.specs.Messages.{framed}
use Rattle.h2_events.specs.declared.event.RecvEvent.{RecvEvent}
use Rattle.h2_events.specs.declared.event.RecvEvent.TheVariants as event
use Rattle.h2_events.specs.declared.said.Said.{Said}
use Rattle.h2_events.specs.declared.said.Said.TheVariants.{Message, Finish, Status}
use Rattle.h2_send.specs.Inputs.{Input, Event, Speech}
use Rattle.h2_send.specs.Lines.{Line, told}
use Rattle.h2_send.specs.Offers.{has_begun, loaded}

-- What an event is answered with: SETTINGS and PING with ACK, DATA with WINDOW_UPDATE of its length with padding, and a
-- stream error with RST_STREAM (RFC 9113 sections 6.5.3, 6.7, 6.9 and 5.4.2).
abbrev pub replies : RecvEvent → List Frame
replies (event.Settings initial resizes) = settings_ack ∷ []
replies (event.Ping octets) = ping_ack octets ∷ []
replies (event.Piece id octets size ends) = granted_again id size ends
replies (event.StreamFault id code) = rst_stream id code ∷ []
replies _ = []

-- What is written for what is said on a stream, before any DATA: HEADERS before the first message, and what ends the
-- stream.
abbrev pub headers_for : ℕ → Said → Line → List Frame
headers_for id (Message octets) line = opening (has_begun id line.streams) line.owes_update id
headers_for id (Finish refusal) line =
    ending (has_begun id line.streams) line.owes_update id refusal
headers_for id (Status status) line = status_answer line.owes_update id status

-- A message waits on its stream, with the five octets that gRPC puts before it. What comes last ends the stream. An update
-- of the table's size is owed until a header block is written.
abbrev pub spoken : ℕ → Said → Line → Line
spoken id (Message octets) line = record line {
  owes_update = line.owes_update && has_begun id line.streams;
  streams = loaded id (framed octets) line.streams;
}
spoken id (Finish refusal) line =
    record line { owes_update = false; streams = without id line.streams }
spoken id (Status status) line =
    record line { owes_update = false; streams = without id line.streams }

-- what is written for an input at once, whatever the windows are
abbrev pub first_frames : Input → Line → List Frame
first_frames (Event event) line = replies event
first_frames (Speech id said) line = headers_for id said line

-- what an input tells
abbrev pub taken_in : Input → Line → Line
taken_in (Event event) line = told event line
taken_in (Speech id said) line = spoken id said line

-- frames that are written, and the line after them
pub record Acted : Type 0 where
  pub frames : List Frame
  pub line : Line

abbrev pub line_sent : Line → Sent → Line
line_sent line s = record line { window = s.window; streams = s.streams }

-- the streams send what the windows let through
abbrev pub flushed : Line → Acted
flushed line =
    let s = sent line.initial line.window line.streams in
    record { frames = s.frames; line = line_sent line s }

-- frames, and then what the windows let through
abbrev pub and_flushed : List Frame → Line → Acted
and_flushed frames line =
    let a = flushed line in record { frames = frames ++ a.frames; line = a.line }

-- What is written for an input goes first, and then what the windows let through by what it tells.
abbrev pub handled : Input → Line → Acted
handled input line = and_flushed (first_frames input line) (taken_in input line)

-- an event is answered
abbrev pub acted : RecvEvent → Line → Acted
acted event line = handled (Event event) line

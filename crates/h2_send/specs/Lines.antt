-- What a sender knows of its connection, and what each event tells it.
use Rattle.std.specs.Prelude.{ℕ, zero, suc, Bool, true, false, ◌||◌, ◌&&◌, List, [], ℤ, pos, ◌+ℤ◌}
use Rattle.std.specs.List.{list_any}
use Rattle.h2_windows.specs.Windows.{first_window, passes}
use Rattle.h2_windows.specs.Shares.{window_of}
use Rattle.h2_windows.specs.Streams.{is_stream, opened, without, granted}
use Rattle.h2_windows.specs.declared.stream.Stream.{Stream}
use Rattle.h2_events.specs.Events.{highest_with}
use Rattle.h2_events.specs.declared.event.RecvEvent.{RecvEvent}
use Rattle.h2_events.specs.declared.event.RecvEvent.TheVariants as event

pub record Line : Type 0 where
  -- the connection's window
  pub window : ℤ
  -- the peer's initial window for streams (SETTINGS_INITIAL_WINDOW_SIZE)
  pub initial : ℕ
  -- the next header block begins with an update of the table's size, since the peer changed the table (RFC 7541
  -- section 4.2)
  pub owes_update : Bool
  -- the highest stream that the peer has opened, or 0
  pub highest : ℕ
  -- the streams that are open and that this side has not ended, by rising number
  pub streams : List Stream

abbrev pub first_line : Line
first_line = record {
  window = pos first_window;
  initial = first_window;
  owes_update = false;
  highest = 0;
  streams = [];
}

-- WINDOW_UPDATE: of the connection's window, or of a stream's (RFC 9113 section 6.9)
abbrev pub with_increment : ℕ → ℕ → Line → Line
with_increment zero n line = record line { window = line.window +ℤ pos n }
with_increment (suc id) n line = record line { streams = granted (suc id) n line.streams }

-- what an event tells of windows and streams
abbrev pub changed : RecvEvent → Line → Line
changed (event.Settings initial resizes) line =
    record line { initial = initial; owes_update = line.owes_update || resizes }
changed (event.Window id n) line = with_increment id n line
changed (event.Call id headers ends) line = record line { streams = opened id line.streams }
changed (event.TooLong id) line = record line { streams = opened id line.streams }
changed (event.Reset id) line = record line { streams = without id line.streams }
changed (event.StreamFault id code) line = record line { streams = without id line.streams }
changed _ line = line

-- and of the highest stream
abbrev pub told : RecvEvent → Line → Line
told e line = record (changed e line) { highest = highest_with line.highest e }

abbrev pub increment_passes : ℕ → ℕ → Line → Bool
increment_passes zero n line = passes (line.window +ℤ pos n)
increment_passes (suc id) n line =
    list_any (λ s. is_stream (suc id) s && passes (window_of line.initial s +ℤ pos n)) line.streams

-- The event would take a window above 2^31 - 1: the peer's fault, FLOW_CONTROL_ERROR (RFC 9113 sections 6.9.1, 6.9.2).
abbrev pub overflows : RecvEvent → Line → Bool
overflows (event.Settings initial resizes) line =
    list_any (λ s. passes (window_of initial s)) line.streams
overflows (event.Window id n) line = increment_passes id n line
overflows _ line = false

-- a new stream, which alone wants memory
abbrev pub is_new_stream : RecvEvent → Bool
is_new_stream (event.Call id headers ends) = true
is_new_stream (event.TooLong id) = true
is_new_stream _ = false

-- What events of a peer's frames can be, and the streams that they name.
use Rattle.std.specs.Prelude.{◌≡◌, ◌⊎◌, ℕ, ◌^◌, ◌%◌, ◌<◌, ◌≤◌, ◌==◌, ⊤, List, [], ◌∷◌, Bool, false, length, max, if◌then◌else◌}
use Rattle.hpack_block.specs.Tables.{size_of_all}
use Rattle.hpack_block.specs.Answers.{largest_list}
use Rattle.h2_frame.specs.ErrorCodes.{frame_size_error}
use Rattle.h2_events.specs.declared.event.RecvEvent.{RecvEvent}
use Rattle.h2_events.specs.declared.event.RecvEvent.TheVariants as event

-- the largest window, and so the largest initial window and increment (RFC 9113 section 6.9.1)
abbrev pub largest_window : ℕ
largest_window = 2147483647

-- the most octets of payload that this side takes in a frame: SETTINGS_MAX_FRAME_SIZE at first (section 6.5.2)
abbrev pub largest_frame : ℕ
largest_frame = 16384

-- Streams of a client have odd numbers of 31 bits (section 5.1.1).
pub record IsClientStream (stream : ℕ) : Type 0 where
  pub odd : stream % 2 ≡ 1
  pub small : stream < 2 ^ 31

-- A stream error can come of a frame on any stream but 0, where it is one of PRIORITY's size, and else of one on a
-- client's stream.
abbrev pub CanFault : ℕ → ℕ → Type 0
CanFault stream code =
    IsClientStream stream ⊎ ((0 < stream) × (stream < 2 ^ 31) × (code ≡ frame_size_error))

-- what holds of every event that a frame means
abbrev pub IsSound : RecvEvent → Type 0
IsSound (event.Settings size resizes) = size ≤ largest_window
IsSound event.SettingsAck = ⊤
IsSound (event.Ping octets) = octets < 2 ^ 64
IsSound (event.Window stream by) = ((stream ≡ 0) ⊎ IsClientStream stream) × (0 < by) × (by < 2 ^ 31)
IsSound (event.Call stream headers ends) = IsClientStream stream
    × (size_of_all headers ≤ largest_list)
IsSound (event.TooLong stream) = IsClientStream stream
IsSound (event.Piece stream octets size ends) =
    IsClientStream stream × (length octets ≤ size) × (size ≤ largest_frame)
IsSound (event.Trailers stream) = IsClientStream stream
IsSound (event.Reset stream) = IsClientStream stream
IsSound (event.StreamFault stream code) = CanFault stream code
IsSound event.GoAway = ⊤

-- The highest stream that the peer has opened, which a GOAWAY names (section 6.8). A stream error opens its stream too,
-- but not one of PRIORITY's size, which is the only one with that code and opens nothing.
abbrev pub highest_with : ℕ → RecvEvent → ℕ
highest_with highest (event.Call stream headers ends) = max highest stream
highest_with highest (event.TooLong stream) = max highest stream
highest_with highest (event.StreamFault stream code) =
    if code == frame_size_error then highest else max highest stream
highest_with highest _ = highest

abbrev pub highest_from : ℕ → List RecvEvent → ℕ
highest_from highest [] = highest
highest_from highest (event ∷ events) = highest_from (highest_with highest event) events

-- of a connection's events so far; 0 where none was opened
abbrev pub highest_of : List RecvEvent → ℕ
highest_of events = highest_from 0 events

-- a stream is reset by its peer, or by this side for a stream error
abbrev pub resets : ℕ → RecvEvent → Bool
resets stream (event.Reset on) = on == stream
resets stream (event.StreamFault on code) = on == stream
resets stream _ = false

-- the peer opens a stream, and this side may say something on it
abbrev pub opens : ℕ → RecvEvent → Bool
opens stream (event.Call on headers ends) = on == stream
opens stream (event.TooLong on) = on == stream
opens stream _ = false

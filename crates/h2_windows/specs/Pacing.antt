-- What flow control asks of a sender (RFC 9113 sections 5.2.1 and 6.9.1): DATA never passes a window, and octets wait only
-- where a window is 0 or below.
use Rattle.std.specs.Prelude.{◌≡◌, ◌⊎◌, ℕ, ◌≤◌, Bool, true, nat_eq, ◌&&◌, if◌then◌else◌, List, [], ◌∷◌, length, ℤ, pos, ◌-ℤ◌}
use Rattle.std.specs.List.{AllByRecursion}
use Rattle.h2_frame.specs.Frames.{Frame}
use Rattle.h2_frame.specs.Kinds.{data_kind}
use Rattle.h2_windows.specs.Windows.{room}
use Rattle.h2_windows.specs.Shares.{window_of}
use Rattle.h2_windows.specs.declared.stream.Stream.{Stream}

-- DATA counts against the connection's window,
abbrev pub is_data : Frame → Bool
is_data frame = nat_eq frame.head.kind data_kind

-- and against that of its stream. No other frame counts against any.
abbrev pub is_data_on : ℕ → Frame → Bool
is_data_on id frame = is_data frame && nat_eq frame.head.stream id

-- a window after a frame, which may count against it
abbrev pub spent_by : (Frame → Bool) → Frame → ℤ → ℤ
spent_by counts frame window =
    if counts frame then window -ℤ pos (length frame.payload) else window

-- Of the frames, each that counts is within what the window is when it is written.
abbrev pub Within : (Frame → Bool) → ℤ → List Frame → Type 0
Within counts window [] = Unit {0}
Within counts window (frame ∷ frames) =
    (counts frame ≡ true → length frame.payload ≤ room window)
    × Within counts (spent_by counts frame window) frames

-- the window after all of them
abbrev pub window_after : (Frame → Bool) → ℤ → List Frame → ℤ
window_after counts window [] = window
window_after counts window (frame ∷ frames) =
    window_after counts (spent_by counts frame window) frames

-- The frames keep within a window, and leave this of it.
pub record Passing (counts : Frame → Bool) (window after : ℤ) (frames : List Frame) : Type 0 where
  pub within : Within counts window frames
  pub is_after : window_after counts window frames ≡ after

-- a stream has octets that wait only where its window or the connection's is 0 or below
abbrev pub IsPaced : ℕ → ℤ → Stream → Type 0
IsPaced initial window s =
    (s.pending ≡ []) ⊎ ((room window ≡ 0) ⊎ (room (window_of initial s) ≡ 0))

abbrev pub ArePaced : ℕ → ℤ → List Stream → Type 0
ArePaced initial window streams = AllByRecursion (IsPaced initial window) streams

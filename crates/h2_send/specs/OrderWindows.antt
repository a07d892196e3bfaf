-- The peer's windows, by what was read and written alone (RFC 9113 section 6.9).
use Rattle.std.specs.Prelude.{◌≡◌, ℕ, zero, suc, ◌≤◌, Bool, true, ◌==◌, if◌then◌else◌, List, [], ◌∷◌, length, ℤ, pos, ◌+ℤ◌, ◌-ℤ◌}
use Rattle.h2_frame.specs.Frames.{Frame}
use Rattle.h2_windows.specs.Pacing.{is_data, is_data_on, spent_by}
use Rattle.h2_windows.specs.Windows.{first_window, room}
use Rattle.h2_events.specs.Items.{Item}
use Rattle.h2_events.specs.Items as item
use Rattle.h2_events.specs.declared.event.RecvEvent.{RecvEvent}
use Rattle.h2_events.specs.declared.event.RecvEvent.TheVariants as event

-- a window, and the peer's initial window for streams
pub record PeerWindow : Type 0 where
  pub initial : ℕ
  pub window : ℤ

abbrev pub first_peer_window : PeerWindow
first_peer_window = record { initial = first_window; window = pos first_window }

-- What a frame that was read makes of the connection's window, which is that of number 0, and of a stream's: it begins as the
-- initial one, WINDOW_UPDATE adds to it, and another initial window changes it by the difference (section 6.9.2).
abbrev pub window_told : ℕ → RecvEvent → PeerWindow → PeerWindow
window_told zero (event.Window zero n) w = record w { window = w.window +ℤ pos n }
window_told zero _ w = w
window_told (suc id) (event.Settings initial resizes) w =
    record { initial = initial; window = w.window +ℤ (pos initial -ℤ pos w.initial) }
window_told (suc id) (event.Window on n) w =
    if on == suc id then record w { window = w.window +ℤ pos n } else w
window_told (suc id) (event.Call on headers ends) w =
    if on == suc id then record w { window = pos w.initial } else w
window_told (suc id) (event.TooLong on) w =
    if on == suc id then record w { window = pos w.initial } else w
window_told (suc id) _ w = w

-- DATA counts against it: all of it against the connection's, and that of a stream against its own
abbrev pub counts_against : ℕ → Frame → Bool
counts_against zero frame = is_data frame
counts_against (suc id) frame = is_data_on (suc id) frame

abbrev pub window_spent : ℕ → Frame → PeerWindow → PeerWindow
window_spent id frame w = record w { window = spent_by (counts_against id) frame w.window }

-- at no place of the order does what is written pass the window
abbrev pub KeepsWithin : ℕ → PeerWindow → List Item → Type 0
KeepsWithin id w [] = Unit {0}
KeepsWithin id w (item.Meant event ∷ items) = KeepsWithin id (window_told id event w) items
KeepsWithin id w (item.Accepted on said ∷ items) = KeepsWithin id w items
KeepsWithin id w (item.Wrote frame ∷ items) =
    (counts_against id frame ≡ true → length frame.payload ≤ room w.window)
    × KeepsWithin id (window_spent id frame w) items

-- the window behind the order
abbrev pub window_behind : ℕ → PeerWindow → List Item → PeerWindow
window_behind id w [] = w
window_behind id w (item.Meant event ∷ items) = window_behind id (window_told id event w) items
window_behind id w (item.Accepted on said ∷ items) = window_behind id w items
window_behind id w (item.Wrote frame ∷ items) = window_behind id (window_spent id frame w) items

-- of a connection's order
abbrev pub window_in : ℕ → List Item → ℤ
window_in id items = (window_behind id first_peer_window items).window

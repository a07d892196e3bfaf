-- What the windows let a stream send.
use Rattle.std.specs.Prelude.{ℕ, min, ℤ, pos, ◌+ℤ◌, length}
use Rattle.h2_windows.specs.Windows.{room}
use Rattle.h2_windows.specs.declared.stream.Stream.{Stream}

-- A stream's window: the peer's initial window, and what was granted beside it, without what was sent. It may be
-- negative (RFC 9113 section 6.9.2). So a new initial window changes each stream's window by the difference.
abbrev pub window_of : ℕ → Stream → ℤ
window_of initial s = pos initial +ℤ s.credit

-- how many octets of a stream may go now: of those that wait, as many as both windows let through (section 5.2.1)
abbrev pub share : ℕ → ℤ → Stream → ℕ
share initial window s = min (length s.pending) (min (room window) (room (window_of initial s)))

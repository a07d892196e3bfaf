-- The words of the promise. A history is the list of all commits, the oldest first (History.antt of base_kinds); a turn is one atomic
-- step at it (Follows.antt of book_port): the reading of the clock, the history that it found, and the one that it left.
use Rattle.std.specs.Prelude.{◌≡◌, ◌⊎◌, List, ◌++◌, true}
use Rattle.base_kinds.specs.declared.entry.Entry.{Entry}
use Rattle.base_kinds.specs.Step.{after_expiry, is_due}
use Rattle.book_port.specs.Follows.{Turn}

-- the history h has come through the state of this one
abbrev pub IsPrefix : List Entry → List Entry → Type 0
IsPrefix prefix h = (later : List Entry) × (h ≡ prefix ++ later)

-- The turn is a step of the history h: it found a prefix of h, and left one.
pub record IsAt (h : List Entry) (turn : Turn) : Type 0 where
  pub found : IsPrefix turn.found h
  pub left : IsPrefix turn.left h

-- The turn changed nothing: it left the history that it found. Or a trial was open whose time was over, and it has ended, and that is
-- all (gNMI commit-confirmed extension).
abbrev pub ChangesNothing : Turn → Type 0
ChangesNothing turn =
    (turn.left ≡ turn.found)
    ⊎ ((is_due turn.found turn.reading ≡ true) × (turn.left ≡ after_expiry turn.found turn.reading))

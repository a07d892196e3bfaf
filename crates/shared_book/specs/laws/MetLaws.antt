-- What holds of a port that ended by meeting another.
use Rattle.std.specs.Prelude.{◌≡◌, List, ◌++◌}
use Rattle.base_kinds.specs.declared.entry.Entry.{Entry}
use Rattle.book_port.specs.Follows.{OthersWentOn}
use Rattle.book_port.specs.Ports.{PortView, HasJustMade, Meets, end_of}

-- A later history that has just its entries begins with what it had seen, and its author added nothing behind that. What the
-- turns of the other port find, and the book that is given back, are such histories.
abbrev pub MetWentOn : Type 0
MetWentOn = (old other new : PortView) (since more h : List Entry) → Meets old other new →
    other.seen ≡ other.start ++ since → h ≡ new.seen ++ more → HasJustMade h (end_of other) →
    OthersWentOn other.author other.seen h

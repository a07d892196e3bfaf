-- The ports of a session beside feeders.
use Rattle.std.specs.Prelude.{◌≡◌, List, [], ◌++◌, false}
use Rattle.std.specs.List.{AllByRecursion}
use Rattle.book_port.specs.Ports.{PortView}
use Rattle.shared_wire.specs.Visits.{VisitEnd, VisitView}

-- a port of the book, but for what it knows of other ports
abbrev pub own_port : PortView → PortView
own_port port = record port { is_alone = false; met = []; known = 0 }

-- and so a port of the wire
abbrev pub own_visit : VisitView → VisitView
own_visit visit = record visit { met = []; known = 0 }

-- what ended without having done anything at the wire
abbrev pub IsUnused : VisitEnd → Type 0
IsUnused visit = visit.made ≡ []

-- Both are as before, but for what they know of other ports: no turn was taken of the book, and nothing done at the wire, which has
-- met unused ports at most.
pub record StayTheirs (book new_book : PortView) (wire new_wire : VisitView) : Type 0 where
  pub book_is : own_port new_book ≡ own_port book
  pub shared : book.is_alone ≡ false → new_book.is_alone ≡ false
  pub wire_is : own_visit new_wire ≡ own_visit wire
  pub unused : List VisitEnd
  pub met : new_wire.met ≡ wire.met ++ unused
  pub are_unused : AllByRecursion IsUnused unused

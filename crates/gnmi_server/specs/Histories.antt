-- The one history after all sessions have ended.
use Rattle.std.specs.Prelude.{◌≡◌, List, ◌++◌}
use Rattle.std.specs.List.{AllByRecursion}
use Rattle.base_kinds.specs.declared.entry.Entry.{Entry}
use Rattle.book_port.specs.Ports.{PortView, HasJustMade}

-- It begins with the history that the port has seen, and has just the entries that the ports which that one met made.
pub record GoesOnFrom (port : PortView) (h : List Entry) : Type 0 where
  pub more : List Entry
  pub whole : h ≡ port.seen ++ more
  pub has_made : AllByRecursion (HasJustMade h) port.met

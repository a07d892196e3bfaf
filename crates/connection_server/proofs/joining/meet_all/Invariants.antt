use Rattle.std.proofs.Common.{map}
use Rattle.std.specs.List.{AllByRecursion}
use Rattle.book_port.specs.Ports.{PortView, CanMeet}
use Rattle.connection_server.specs.Twins.{MeetEach}
use Rattle.connection_server.proofs.joining.meet_all.Given as goal

-- the others are still to be met
abbrev pub invariant-loop-other : goal.invariant-loop-other
invariant-loop-other g l = record {
  met : (new : PortView) → MeetEach (g.P.BookPort.port l.port) (map g.P.BookPort.port l.other-iterator.rest.items) new
      → MeetEach (g.P.BookPort.port l.initial.port) (map g.P.BookPort.port l.fn.others.items) new;
  can : AllByRecursion (λ other. CanMeet (g.P.BookPort.port l.port) (g.P.BookPort.port other)) l.other-iterator.rest.items;
}

use Rattle.std.proofs.Common.{◌++◌, ◌≤◌, ◌+◌, List, length, vec_len, vec_capacity}
use Rattle.std.specs.List.{AllByRecursion}
use Rattle.book_port.specs.Ports.{PortView, CanMeet}
use Rattle.connection_server.specs.declared.link.LinkEnd.{LinkEnd}
use Rattle.connection_server.specs.Accepting.{port_in}
use Rattle.connection_server.specs.Jobs.{IsDone}
use Rattle.connection_server.specs.inner.Joins.{Joins}
use Rattle.connection_server.proofs.joining.join.Given as goal

-- the sessions that are left are still to be joined
abbrev pub invariant-loop-session : goal.invariant-loop-session
invariant-loop-session g l = record {
  joined : (ends : List (LinkEnd g.row.I.Denot g.row.O.Denot g.row.S-How.Denot)) (new : PortView)
      → Joins g.P.BookPort.port (IsDone g.S.Session.link g.P.BookPort.port g.S.Session.serves g.S.Session.unserved) (g.P.BookPort.port l.port) l.session-iterator.rest.items ends new
      → Joins g.P.BookPort.port (IsDone g.S.Session.link g.P.BookPort.port g.S.Session.serves g.S.Session.unserved) (g.P.BookPort.port l.initial.port) l.fn.running.items (l.ends.items ++ ends) new;
  can : AllByRecursion (λ job. CanMeet (g.P.BookPort.port l.port) (g.P.BookPort.port (port_in g.S.Session.link job))) l.session-iterator.rest.items;
  room : vec_len l.ends + length l.session-iterator.rest.items ≤ vec_capacity l.ends;
}

use Rattle.std.proofs.Common.{◌≡◌, ◌+◌, length, vec_len, vec_capacity}
use Rattle.std.specs.VecDeque.{deque_len}
use Rattle.connection_server.specs.Accepting.{Accepts}
use Rattle.connection_server.proofs.accepting.accept.Given as goal

abbrev pub invariant-loop-number : goal.invariant-loop-number
invariant-loop-number g l = record {
  accepts : Accepts g.D.Reader.Source.seen g.D.Writer.Sink.seen g.S.Session.link (g.M.Sessions.makes l.sessions) g.P.BookPort.port l.initial.twins.items (g.D.Door.seen l.initial.door) l.running.items l.twins.items (g.D.Door.seen l.door);
  quiet : (g.D.Door.seen l.door).faults ≡ (g.D.Door.seen l.initial.door).faults;
  number : length l.running.items ≡ l.number;
  len : vec_len l.running ≡ l.number;
  ports : deque_len l.twins + l.number ≡ l.count;
  room : vec_capacity l.running ≡ vec_capacity l.initial.running;
}

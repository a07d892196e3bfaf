use Rattle.std.proofs.Common.{◌≡◌, length, map}
use Rattle.std.specs.VecDeque.{deque_len, deque_capacity}
use Rattle.connection_server.specs.Twins.{AreTwins}
use Rattle.connection_server.proofs.twins.make_twins.Given as goal

abbrev pub invariant-loop-made : goal.invariant-loop-made
invariant-loop-made g l = record {
  twins : AreTwins (g.P.BookPort.port l.fn.port) (map g.P.BookPort.port l.twins.items) (g.P.BookPort.port l.port);
  long : length l.twins.items ≡ l._made;
  len : deque_len l.twins ≡ l._made;
  capacity : deque_capacity l.twins ≡ deque_capacity l.initial.twins;
}

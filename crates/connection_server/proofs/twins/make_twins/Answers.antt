use Rattle.std.proofs.Common.{◌≡◌, ◌++◌, ◌∷◌, [], length, map, sym, ap, ◌∙◌, subst, arith}
use Rattle.connection_server.specs.Twins.{AreTwins}
use Rattle.connection_server.proofs.Chains.{one_more, one_longer}
use Rattle.connection_server.proofs.twins.make_twins.Goals as goal

pub loop-made-preserved : goal.loop-made-preserved
loop-made-preserved g c =
    let port = g.P.BookPort.port in
    let push = c.push_back_reserved.ensures in
    let held = c.loop-made.invariant in
    let all = one_more port (port c.args.port.now) (port c.loop-made.port) (port c.twin.new.self) c.in-Ok.twin c.loop-made.twins.items held.twins c.in-Ok.ensures.ok in
    let more : length c.push_back_reserved.new.self.items ≡ length (c.loop-made.twins.items ++ c.in-Ok.twin ∷ []) = ap length push.items in
    let long = one_longer c.loop-made.twins.items c.in-Ok.twin in
    let long_before = held.long in
    let len_before = held.len in
    let len = push.len in
    record {
      twins = subst (λ l. AreTwins (port c.args.port.now) (map port l) (port c.twin.new.self)) (sym push.items) all;
      long = omega (arith, more, long, long_before);
      len = omega (arith, len, len_before);
      capacity = push.capacity ∙ held.capacity;
    }

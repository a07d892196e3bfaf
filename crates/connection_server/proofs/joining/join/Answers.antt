use Rattle.std.proofs.Common.{◌≡◌, ◌∷◌, [], ◌++◌, length, sym, ap, ◌∙◌, subst, arith, append_assoc, append-nil}
use Rattle.std.specs.List.{AllByRecursion}
use Rattle.book_port.specs.Ports.{CanMeet}
use Rattle.connection_server.specs.Accepting.{port_in}
use Rattle.connection_server.specs.Jobs.{IsDone}
use Rattle.connection_server.specs.inner.Joins.{Joins}
use Rattle.connection_server.proofs.Chains.{all_still_meet, joins_next, joins_nothing, none_left}
use Rattle.connection_server.proofs.joining.join.Goals as goal

pub loop-session-preserved : goal.loop-session-preserved
loop-session-preserved g c =
    let port = g.P.BookPort.port in
    let gives = IsDone g.S.Session.link port g.S.Session.serves g.S.Session.unserved in
    let held = c.loop-session.invariant in
    let left = c.loop-session.session-iterator.rest.items in
    let after = c.next.new.self.rest.items in
    let done = c.finish-done.result in
    let ends_before = c.loop-session.ends.items in
    let step : left ≡ c.in-Some.session ∷ after = c.in-Some.ensures.steps.0 in
    let push = c.push_reserved.ensures in
    let can = subst (λ l. AllByRecursion (λ job. CanMeet (port c.loop-session.port) (port (port_in g.S.Session.link job))) l) step held.can in
    let room = held.room in
    let shorter = ap length step in
    let len = push.len in
    let capacity = push.capacity in
    record {
      joined = λ ends new later.
          subst (λ l. Joins port gives (port c.args.port.now) c.args.running.items l new) (sym (ap (λ l. l ++ ends) push.items ∙ append_assoc ends_before (done.end ∷ []) ends))
          (held.joined (done.end ∷ ends) new (joins_next port gives (port c.loop-session.port) (port c.meet.new.self) new left after c.in-Some.session done ends step c.finish-done.ensures c.meet.ensures later));
      can = all_still_meet (λ job. port (port_in g.S.Session.link job)) (port c.loop-session.port) (port done.port) (port c.meet.new.self) after c.meet.ensures can.1;
      room = omega (arith, room, shorter, len, capacity);
    }

pub returns : goal.returns
returns g c =
    let port = g.P.BookPort.port in
    let gives = IsDone g.S.Session.link port g.S.Session.serves g.S.Session.unserved in
    let now = port c.loop-session.port in
    let left = c.loop-session.session-iterator.rest in
    let none : left.items ≡ [] = none_left left.items (sym left.ok.0 ∙ c.in-None.ensures.steps.0) in
    subst (λ l. Joins port gives (port c.args.port.now) c.args.running.items l now) (append-nil c.loop-session.ends.items)
    (c.loop-session.invariant.joined [] now (joins_nothing port gives now c.loop-session.session-iterator.rest.items none))

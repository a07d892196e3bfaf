use Rattle.std.proofs.Common.{◌≡◌, ◌∷◌, ◌+◌, length, sym, ap, ◌∙◌, subst, arith}
use Rattle.connection_server.specs.declared.link.Link.{Link}
use Rattle.connection_server.specs.Accepting.{Accepts, halves, port_in}
use Rattle.connection_server.proofs.Accepted.{Gave, accepts_one}
use Rattle.connection_server.proofs.Chains.{one_longer}
use Rattle.connection_server.proofs.accepting.accept.Goals as goal

pub loop-number-preserved : goal.loop-number-preserved
loop-number-preserved g c =
    let reads = g.D.Reader.Source.seen in
    let writes = g.D.Writer.Sink.seen in
    let seen = g.D.Door.seen in
    let of = g.S.Session.link in
    let before = c.loop-number.running.items in
    let job = c.begin-session.result in
    let is = c.begin-session.ensures.link in
    let push = c.put.ensures in
    let popped = c.in-Some.ensures in
    let held = c.loop-number.invariant in
    let gave : Gave reads writes (c.in-Link.input, c.in-Link.output) (seen c.loop-number.door) (seen c.next.new.self) = record {
      fresh = c.in-Link.ensures.0;
      given = c.in-Link.ensures.1;
      left = c.in-Link.ensures.2;
    } in
    let its : Gave reads writes (halves of job) (seen c.loop-number.door) (seen c.next.new.self) =
    subst (λ (link : Link g.row.D-Reader.Denot g.row.D-Writer.Denot g.row.P.Denot). Gave reads writes (link.input, link.output) (seen c.loop-number.door) (seen c.next.new.self)) (sym is) gave in
    let next : c.loop-number.twins.items ≡ port_in of job ∷ c.pop_front.new.self.items =
    popped.items ∙ ap (λ (link : Link g.row.D-Reader.Denot g.row.D-Writer.Denot g.row.P.Denot). link.port ∷ c.pop_front.new.self.items) (sym is) in
    let number : job.number ≡ length before + 1 = c.begin-session.ensures.number ∙ ap (λ n. n + 1) (sym held.number) in
    let all = accepts_one reads writes of (g.M.Sessions.makes c.args.sessions.now) g.P.BookPort.port c.args.twins.now.items (seen c.args.door.now) (seen c.loop-number.door) (seen c.next.new.self) before job c.loop-number.twins.items c.pop_front.new.self.items held.accepts its next number c.begin-session.ensures.made in
    let ports = held.ports in
    let fewer = popped.cases in
    record {
      accepts = subst (λ jobs. Accepts reads writes of (g.M.Sessions.makes c.args.sessions.now) g.P.BookPort.port c.args.twins.now.items (seen c.args.door.now) jobs c.pop_front.new.self.items (seen c.next.new.self)) (sym push.items) all;
      quiet = c.in-Link.ensures.3 ∙ held.quiet;
      number = ap length push.items ∙ one_longer before job ∙ ap (λ n. n + 1) held.number;
      len = push.len ∙ ap (λ n. n + 1) held.len;
      ports = omega (arith, ports, fewer);
      room = push.capacity ∙ held.room;
    }

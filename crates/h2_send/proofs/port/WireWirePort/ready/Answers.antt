use Rattle.std.proofs.Common.{map, refl, subst, sym, ap, true}
use Rattle.std.specs.Prelude.{Some}
use Rattle.h2_send.specs.Port.{Asks, said_so_far}
use Rattle.h2_send.specs.Wires.{progress_of}
use Rattle.h2_send.proofs.Offered.{asks}
use Rattle.h2_send.proofs.port.WireWirePort.ready.Goals as goal

pub returns-clause-asks : goal.returns-clause-asks
returns-clause-asks g c =
    let seen = g.S.Sink.seen in
    subst (λ p. Asks true c.readiness-ready.result c.args.stream (progress_of seen c.args.self.now) p) (sym (ap (λ w. progress_of seen w) c.note_answer.ensures)) (asks seen c.args.stream c.readiness-ready.result c.args.self.now c.args.self.now c.readiness-ready.ensures.line c.readiness-ready.ensures.is refl)

pub returns-clause-own : goal.returns-clause-own
returns-clause-own g c other is = ap (λ w. said_so_far other (progress_of g.S.Sink.seen w)) c.note_answer.ensures

pub returns-clause-given : goal.returns-clause-given
returns-clause-given g c = ap (λ w. map Some (progress_of g.S.Sink.seen w).inputs) c.note_answer.ensures

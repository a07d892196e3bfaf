use Rattle.std.proofs.Common.{false, sym, ap, ◌∙◌, subst}
use Rattle.h2_send.specs.Port.{Asks, asked}
use Rattle.shared_wire.specs.Records.{ReadsOn, left_in}
use Rattle.shared_wire.specs.Visits.{VisitView, given_in}
use Rattle.shared_wire.proofs.Seeing.{asks, counts_were, given_asked}
use Rattle.shared_wire.proofs.visit.WireVisitWirePort.ready.Goals as goal

pub returns-clause-asks : goal.returns-clause-asks
returns-clause-asks g c =
    subst (Asks false c.readiness-ready.result c.args.stream (left_in c.args.self.now.seen)) (sym (ap (λ (v : VisitView). left_in v.seen) c.note_answer.ensures))
    (asks c.args.stream c.readiness-ready.result c.args.self.now c.readiness-ready.new.self c.readiness-ready.ensures)

pub returns-clause-turn : goal.returns-clause-turn
returns-clause-turn g c = counts_were (ReadsOn c.args.stream c.readiness-ready.result) c.args.self.now c.readiness-ready.new.self c.note_answer.new.self (asked c.readiness-ready.result c.readiness-ready.new.self.counts) c.note_answer.ensures c.readiness-ready.ensures

pub returns-clause-given : goal.returns-clause-given
returns-clause-given g c =
    ap (λ (v : VisitView). given_in v.made) c.note_answer.ensures
    ∙ given_asked c.args.stream c.readiness-ready.result c.args.self.now c.readiness-ready.new.self c.readiness-ready.ensures

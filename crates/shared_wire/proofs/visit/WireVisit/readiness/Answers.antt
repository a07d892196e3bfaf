use Rattle.std.proofs.Common.{[], refl, ◌∙◌, subst}
use Rattle.shared_wire.specs.Records.{AddsSo, ReadsOn}
use Rattle.shared_wire.specs.Visits.{DoesInTurn, VisitView, visit_of}
use Rattle.shared_wire.proofs.Holding.{adds_none}
use Rattle.shared_wire.proofs.Turning.{extends, does_in_turn}
use Rattle.shared_wire.proofs.visit.WireVisit.readiness.Goals as goal

pub leave-requires-clause-extends : goal.leave-requires-clause-extends
leave-requires-clause-extends g c =
    let pass = c.enter-held.new.pass.seat.me.0 in let found = c.enter-held.result.records in
    extends pass.turn.number found found pass.seen [] c.enter-held.ensures.seen.0 (adds_none pass.turn.number found c.readiness-ready.ensures.records)

pub returns : goal.returns
returns g c =
    let table = c.self.inside.pass.seat.table_id in let before = c.self.inside.pass.seat.me.0 in let found_by = c.enter-held.new.pass.seat.me.0 in let after = c.leave.new.pass.seat.me.0 in
    let e = c.enter-held.ensures in let same = e.pass.0 in let then_ = c.leave.ensures.pass.0 in let found = c.enter-held.result.records in let records = c.readiness-ready.ensures.records in
    let adds : AddsSo before.turn.number (ReadsOn c.args.stream c.readiness-ready.result) found found = record { added = []; adds = adds_none before.turn.number found records; does = record { none = refl; is = c.readiness-ready.ensures.is } } in
    subst (λ (o : VisitView). DoesInTurn (ReadsOn c.args.stream c.readiness-ready.result) o (visit_of c.leave.new.pass.seat.table_id after c.self.inside.counts)) c.self.view_is
    (does_in_turn (ReadsOn c.args.stream c.readiness-ready.result) table c.leave.new.pass.seat.table_id c.self.inside.counts before found_by after found found before.turn.number
    c.self.invariant.2 same.2 same.3 same.4 same.5 same.6 e.pass.2 e.seen.0 e.seen.1 e.owner records refl adds
    then_.2 then_.4 then_.5 then_.6 (then_.0 ∙ same.0) c.leave.ensures.seen (c.leave.ensures.pass.2 ∙ e.finds) c.leave.ensures.made)

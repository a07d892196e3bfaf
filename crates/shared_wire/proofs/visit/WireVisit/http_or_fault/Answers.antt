use Rattle.std.proofs.Common.{sym, ◌∙◌, subst}
use Rattle.shared_wire.specs.Records.{StatesOrTells}
use Rattle.shared_wire.specs.Visits.{DoesInTurn, VisitView, visit_of}
use Rattle.shared_wire.proofs.Turning.{extends_by, does_in_turn}
use Rattle.shared_wire.proofs.visit.WireVisit.http_or_fault.Goals as goal

pub leave-requires-clause-extends : goal.leave-requires-clause-extends
leave-requires-clause-extends g c =
    let a = c.http_or_fault-took.ensures.does in let pass = c.enter-held.new.pass.seat.me.0 in
    extends_by c.number-author.result pass.turn.number c.enter-held.result.records c.http_or_fault-took.new.self.records pass.seen a.added (c.number-author.ensures.0 ∙ sym c.enter-held.ensures.pass.0.2) c.enter-held.ensures.seen.0 a.adds

pub returns : goal.returns
returns g c =
    let table = c.self.inside.pass.seat.table_id in let before = c.self.inside.pass.seat.me.0 in let found_by = c.enter-held.new.pass.seat.me.0 in let after = c.leave.new.pass.seat.me.0 in
    let e = c.enter-held.ensures in let same = e.pass.0 in let then_ = c.leave.ensures.pass.0 in let a = c.http_or_fault-took.ensures in
    subst (λ (o : VisitView). DoesInTurn (StatesOrTells c.args.stream c.args.status c.http_or_fault-took.result) o (visit_of c.leave.new.pass.seat.table_id after c.self.inside.counts)) c.self.view_is
    (does_in_turn (StatesOrTells c.args.stream c.args.status c.http_or_fault-took.result) table c.leave.new.pass.seat.table_id c.self.inside.counts before found_by after c.enter-held.result.records c.http_or_fault-took.new.self.records c.number-author.result
    c.self.invariant.2 same.2 same.3 same.4 same.5 same.6 e.pass.2 e.seen.0 e.seen.1 e.owner a.records c.number-author.ensures.0 a.does
    then_.2 then_.4 then_.5 then_.6 (then_.0 ∙ same.0) c.leave.ensures.seen (c.leave.ensures.pass.2 ∙ e.finds) c.leave.ensures.made)

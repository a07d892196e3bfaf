use Rattle.std.proofs.Common.{◌≡◌, ℕ, List, ◌++◌, refl, sym, ◌∙◌, subst}
use mathlib.Core.List.{IsPrefix}
use Rattle.book_port.specs.Chronicles.{Adds}
use Rattle.book_port.specs.Ports.{PortView, LooksOnce}
use Rattle.book_core.specs.Views.{BookView}
use Rattle.turn_lock.specs.Chronicles.{entries_by, entries_past, AreBy}
use Rattle.shared_book.specs.declared.item.SharedItem.{SharedItem}
use Rattle.shared_book.specs.Items.{items_of, item_author}
use Rattle.shared_book.specs.Visits.{port_of}
use Rattle.shared_book.proofs.Meeting.{turned_kept}
use Rattle.shared_book.proofs.Turning.{grows, added_by, its_turn, takes_turn}
use Rattle.shared_book.proofs.visit.VisitBookPort.look.Goals as goal

pub leave-requires-clause-extends : goal.leave-requires-clause-extends
leave-requires-clause-extends g c =
    let found : BookView g.row.D.Denot = c.enter-held.result.book in let left : BookView g.row.D.Denot = c.look-answer.new.self.book in
    let author = c.number-author.result in let a = c.look-answer.ensures in
    let is : author ≡ c.enter-held.new.pass.seat.me.0.turn.number = c.number-author.ensures.0 ∙ sym c.enter-held.ensures.pass.0.2 in (
      subst (λ l. IsPrefix l (items_of left)) c.enter-held.ensures.seen.0 (grows author c.look-answer.result found left a.opened a.adds),
      subst (λ (z : ℕ × List SharedItem). AreBy item_author z.0 (entries_past z.1 (items_of left))) (λ i. (is i, c.enter-held.ensures.seen.0 i)) (added_by author c.look-answer.result found left a.opened a.adds),
    )

pub returns : goal.returns
returns g c =
    let found : BookView g.row.D.Denot = c.enter-held.result.book in let left : BookView g.row.D.Denot = c.look-answer.new.self.book in
    let table = c.self.inside.pass.seat.table_id in let before = c.self.inside.pass.seat.me.0 in let found_by = c.enter-held.new.pass.seat.me.0 in let after = c.leave.new.pass.seat.me.0 in
    let kept = c.self.invariant.2 in let e = c.enter-held.ensures in let same = e.pass.0 in let then_ = c.leave.ensures.pass.0 in let a = c.look-answer.ensures in
    let author = c.number-author.ensures.0 in
    let adds : Adds before.turn.number c.look-answer.result found.chronicle left.chronicle = subst (λ (n : ℕ). Adds n c.look-answer.result found.chronicle left.chronicle) author a.adds in
    record {
      once = subst (λ (o : PortView). LooksOnce o c.args.now c.args.patterns.now c.look-answer.result (port_of c.leave.new.pass.seat.table_id after)) c.self.view_is (record {
        turn = its_turn table c.leave.new.pass.seat.table_id c.args.now before found_by after c.look-answer.result found left kept same.2 same.3 same.4 same.5 e.pass.2 e.seen.0 e.seen.1 e.owner a.run a.run_on a.opened adds;
        reading = refl;
        taken = takes_turn table c.leave.new.pass.seat.table_id c.args.now before found_by after c.look-answer.result found left kept same.2 same.3 same.4 same.5 e.pass.2 e.seen.0 e.seen.1 e.owner a.run a.run_on a.opened adds
            then_.2 then_.3 then_.4 then_.5 (then_.6 ∙ same.6) (then_.0 ∙ same.0) c.leave.ensures.seen (c.leave.ensures.pass.2 ∙ e.finds)
            (c.leave.ensures.made ∙ (λ i. e.pass.2 i ++ entries_by item_author (same.2 i) (entries_past (sym e.seen.0 i) (items_of left))));
        answer = c.look-answer.ensures.answer;
      });
    }

pub invariant_of-self : goal.invariant_of-self
invariant_of-self g c = let same = c.enter-held.ensures.pass.0 in let then_ = c.leave.ensures.pass.0 in (
  then_.0 ∙ same.0 ∙ c.self.invariant.0,
  c.leave.ensures.pass.1,
  turned_kept c.self.inside.pass.seat.me.0 c.leave.new.pass.seat.me.0 c.self.invariant.2 (then_.2 ∙ same.2) (then_.3 ∙ same.3) (then_.6 ∙ same.6) c.leave.ensures.owner,
)

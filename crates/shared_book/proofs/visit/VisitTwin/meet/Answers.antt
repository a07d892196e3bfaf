use Rattle.std.proofs.Common.{◌≡◌, sym, ap, ◌∙◌, subst}
use Rattle.shared_book.specs.inner.Keeping.{KeepsBook}
use Rattle.book_port.specs.Ports.{PortView, Meets}
use Rattle.turn_lock.specs.Passes.{OwnsItsEntries, joined_view}
use Rattle.turn_lock.specs.declared.view.View.{View}
use Rattle.atomic_table.specs.Seated.{TableId}
use Rattle.shared_book.specs.declared.item.SharedItem.{SharedItem}
use Rattle.shared_book.specs.Items.{item_author}
use Rattle.shared_book.specs.Visits.{port_of}
use Rattle.shared_book.proofs.Meeting.{meets, joined_kept}
use Rattle.shared_book.proofs.visit.VisitTwin.meet.Goals as goal

pub returns : goal.returns
returns g c =
    let table = c.self.inside.pass.seat.table_id in let v = c.self.inside.pass.seat.me.0 in let u = c.other.inside.pass.seat.me.0 in
    let new : View SharedItem = c.join.new.pass.seat.me.0 in
    let is : new ≡ joined_view v u = ap (λ m. m.0) c.join.ensures.met in
    let met : Meets (port_of table v) (port_of c.other.inside.pass.seat.table_id u) (port_of table (joined_view v u)) =
    meets table c.other.inside.pass.seat.table_id v u c.self.invariant.2 c.other.invariant.2 (subst (OwnsItsEntries item_author) is c.join.ensures.owner) in
    let then_ : Meets (port_of table v) (port_of c.other.inside.pass.seat.table_id u) (port_of c.join.new.pass.seat.table_id new) =
    subst (λ (z : TableId × View SharedItem). Meets (port_of table v) (port_of c.other.inside.pass.seat.table_id u) (port_of z.0 z.1)) (λ i. (sym c.join.ensures.same.0 i, sym is i)) met in
    subst (λ (o : PortView × PortView). Meets o.0 o.1 (port_of c.join.new.pass.seat.table_id new)) (λ i. (c.self.view_is i, c.other.view_is i)) then_

pub invariant_of-self : goal.invariant_of-self
invariant_of-self g c = let me = c.join.ensures.met in let is = ap (λ m. m.0) me in let o = c.self.invariant.1 in (
  c.join.ensures.same.0 ∙ c.self.invariant.0,
  (ap (λ v. v.live) is ∙ o.0, ap (λ v. v.turn.ticket) is ∙ o.1, ap (λ v. v.turn.own) is ∙ o.2, ap (λ v. v.turn.found) is ∙ o.3, ap (λ m. m.1) me),
  subst KeepsBook (sym is) (joined_kept c.self.inside.pass.seat.me.0 c.other.inside.pass.seat.me.0 c.self.invariant.2 (subst (OwnsItsEntries item_author) is c.join.ensures.owner)),
)

use Rattle.std.proofs.Common.{◌≡◌, ◌≤◌, ◌+◌, arith, length, sym, ap, ◌∙◌, subst}
use Rattle.atomic_table.specs.Seated.{TableId}
use Rattle.turn_lock.specs.Passes.{OwnsItsEntries, joined_view, numbers_of}
use Rattle.turn_lock.specs.declared.view.View.{View}
use Rattle.shared_wire.specs.Records.{WireRecord, record_author}
use Rattle.shared_wire.specs.Visits.{VisitView, Meets, most_authors, visit_of}
use Rattle.shared_wire.specs.inner.Keeping.{KeepsWire}
use Rattle.shared_wire.proofs.Meeting.{both_passes, few_passes, joined_kept, meets}
use Rattle.shared_wire.proofs.visit.WireVisit.meet.Goals as goal

pub overflow_add-self : goal.overflow_add-self
overflow_add-self g c =
    let v = c.self.inside.pass.seat.me.0 in let u = c.other.inside.pass.seat.me.0 in
    let new : View WireRecord = c.join.new.pass.seat.me.0 in
    let is : new ≡ joined_view v u = ap (λ m. m.0) c.join.ensures.met in
    let few : length (numbers_of (joined_view v u)) ≤ most_authors = few_passes (joined_view v u) (joined_kept v u c.self.invariant.2 c.other.invariant.2 (subst (OwnsItsEntries record_author) is c.join.ensures.owner)) in
    let many = both_passes v u c.self.inside.passes c.other.inside.passes c.other.invariant.2.some c.self.invariant.3 c.other.invariant.3 in
    omega (arith, few, many)

pub invariant_of-self : goal.invariant_of-self
invariant_of-self g c =
    let v = c.self.inside.pass.seat.me.0 in let u = c.other.inside.pass.seat.me.0 in let o = c.self.invariant.1 in
    let new : View WireRecord = c.join.new.pass.seat.me.0 in let me = c.join.ensures.met in
    let is : new ≡ joined_view v u = ap (λ m. m.0) me in (
      c.join.ensures.same.0 ∙ c.self.invariant.0,
      (ap (λ w. w.live) is ∙ o.0, ap (λ w. w.turn.ticket) is ∙ o.1, ap (λ w. w.turn.own) is ∙ o.2, ap (λ w. w.turn.found) is ∙ o.3, ap (λ m. m.1) me),
      subst KeepsWire (sym is) (joined_kept v u c.self.invariant.2 c.other.invariant.2 (subst (OwnsItsEntries record_author) is c.join.ensures.owner)),
      ap (λ w. length (numbers_of w)) is ∙ both_passes v u c.self.inside.passes c.other.inside.passes c.other.invariant.2.some c.self.invariant.3 c.other.invariant.3,
    )

pub returns : goal.returns
returns g c =
    let table = c.self.inside.pass.seat.table_id in let v = c.self.inside.pass.seat.me.0 in let u = c.other.inside.pass.seat.me.0 in
    let counts = c.self.inside.counts in let others = c.other.inside.counts in
    let new : View WireRecord = c.join.new.pass.seat.me.0 in
    let is : new ≡ joined_view v u = ap (λ m. m.0) c.join.ensures.met in
    let met : Meets (visit_of table v counts) (visit_of c.other.inside.pass.seat.table_id u others) (visit_of table (joined_view v u) counts) =
    meets table c.other.inside.pass.seat.table_id counts others v u c.self.invariant.2 c.other.invariant.2 (subst (OwnsItsEntries record_author) is c.join.ensures.owner) in
    let then_ : Meets (visit_of table v counts) (visit_of c.other.inside.pass.seat.table_id u others) (visit_of c.join.new.pass.seat.table_id new counts) =
    subst (λ (z : TableId × View WireRecord). Meets (visit_of table v counts) (visit_of c.other.inside.pass.seat.table_id u others) (visit_of z.0 z.1 counts)) (λ i. (sym c.join.ensures.same.0 i, sym is i)) met in
    subst (λ (o : VisitView × VisitView). Meets o.0 o.1 (visit_of c.join.new.pass.seat.table_id new counts)) (λ i. (c.self.view_is i, c.other.view_is i)) then_

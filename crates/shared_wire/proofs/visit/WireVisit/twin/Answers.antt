use Rattle.std.proofs.Common.{arith, length, sym, ap, ◌∙◌, subst}
use Rattle.turn_lock.specs.Passes.{numbers_of}
use Rattle.shared_wire.specs.inner.Keeping.{KeepsWire}
use Rattle.shared_wire.proofs.Meeting.{still_kept}
use Rattle.shared_wire.proofs.visit.WireVisit.twin.Goals as goal

pub invariant_of-self : goal.invariant_of-self
invariant_of-self g c =
    let pass = c.self.inside.pass in let v = pass.seat.me.0 in let o = c.self.invariant.1 in let me = c.in_default-split.ensures.spent in let is = ap (λ m. m.0) me in
    let number = pass.numbered in let range = c.self.ranges in (
      c.split.ensures.same.0 ∙ c.self.invariant.0,
      (ap (λ w. w.live) is ∙ o.0, ap (λ w. w.turn.ticket) is ∙ o.1, ap (λ w. w.turn.own) is ∙ o.2, ap (λ w. w.turn.found) is ∙ o.3, ap (λ m. m.1) me ∙ o.4),
      subst KeepsWire (sym is) (still_kept v 4294967295 (omega (arith, number, range)) c.self.invariant.2),
      ap (λ w. length (numbers_of w)) is ∙ c.self.invariant.3,
    )

pub invariant_of-self-2 : goal.invariant_of-self-2
invariant_of-self-2 g c =
    let v = c.self.inside.pass.seat.me.0 in let o = c.self.invariant.1 in let me = c.in-Ok-split.ensures.known.1 in let is = ap (λ m. m.0) me in
    let counted = c.self.invariant.2.counted in let given = c.in-Ok-split.ensures.known.0 in let later = c.in-Ok-split.ensures.ok.2 in (
      c.split.ensures.same.0 ∙ c.self.invariant.0,
      (ap (λ w. w.live) is ∙ o.0, ap (λ w. w.turn.ticket) is ∙ o.1, ap (λ w. w.turn.own) is ∙ o.2, ap (λ w. w.turn.found) is ∙ o.3, ap (λ m. m.1) me ∙ o.4),
      subst KeepsWire (sym is) (still_kept v c.split.new.pass.seat.me.0.known (omega (arith, counted, given, later)) c.self.invariant.2),
      ap (λ w. length (numbers_of w)) is ∙ c.self.invariant.3,
    )

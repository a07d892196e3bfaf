use Rattle.std.proofs.Common.{rules, ◌≡◌, [], ◌∷◌, Err, refl, sym, ap, ◌∙◌, subst, arith}
use Rattle.h2_send.specs.Inputs.{Event, input_of}
use Rattle.h2_send.specs.Lines.{is_new_stream}
use Rattle.h2_send.specs.Wires.{progress_of}
use Rattle.h2_send.specs.declared.condition.Condition.TheVariants as condition
use Rattle.h2_send.specs.declared.fault.WireFaultOut.TheVariants as fault
use Rattle.h2_send.specs.declared.given.Given.TheVariants as given
use Rattle.shared_wire.specs.Parts.{FitTypes, event_parts, input_parts}
use Rattle.shared_wire.specs.Records.{IsPorts, ActsOn, AddsSo, AnswersEvent, ByRoom, Starved, fault_in}
use Rattle.shared_wire.specs.inner.Holding.{HeldView}
use Rattle.shared_wire.specs.inner.Logging.{acted_so, deed_of}
use Rattle.shared_wire.proofs.Leaving.{acts}
use Rattle.shared_wire.proofs.Holding.{by_room, acted_fits, acted_kept, its_record, noted_adds, noted_holds, tells_open}
use Rattle.shared_wire.proofs.held.HeldWire.act.Goals as goal

pub invariant_of-self : goal.invariant_of-self
invariant_of-self g c =
    let seen = g.S.Sink.seen in let w = c.self.inside.wire in let v = c.act-done.new.self in let h = c.self.invariant in
    let result = c.act-done.result in let e = given.Event c.of.result in let deed = acted_so e result in
    let state : c.self.inside.condition ≡ condition.Open = search rules in let o = h.is_open state in
    let fits : FitTypes (input_parts (input_of e)) = subst (λ v. FitTypes (event_parts v)) (sym c.of.ensures) c.fit_types.ensures in
    let numbers : IsPorts c.args.author (deed_of deed) = (c.requires.author, c.ranges.author.fits, acted_fits e result fits) in
    let a = acts seen c.args.author w v o.line c.args.event.now e result (is_new_stream c.args.event.now) refl (ap Event c.of.ensures) o.wire_open (c.act-done.ensures.acts o.wire_open) (c.act-done.ensures.overflow o.wire_open) in
    let next = c.condition_after-self-inside.result in let is = c.condition_after-self-inside.ensures in
    let room = o.room in let not_last = c.if-self.false in
    noted_holds seen c.args.author w v c.self.inside.condition c.self.inside.log c.note.new.self c.self.inside.count h state c.acted-deed.result deed c.acted-deed.ensures c.note.ensures a.0 numbers
    next (acted_kept e result (progress_of seen v)) (a.1 ∙ sym is) c.act-done.ensures.sound.folded
    (λ _. omega (arith, room, not_last))

pub returns-clause-does : goal.returns-clause-does
returns-clause-does g c =
    let seen = g.S.Sink.seen in let w = c.self.inside.wire in let v = c.act-done.new.self in let h = c.self.invariant in
    let result = c.act-done.result in let e = given.Event c.of.result in let deed = acted_so e result in
    let state : c.self.inside.condition ≡ condition.Open = search rules in let o = h.is_open state in
    let fits : FitTypes (input_parts (input_of e)) = subst (λ v. FitTypes (event_parts v)) (sym c.of.ensures) c.fit_types.ensures in
    let numbers : IsPorts c.args.author (deed_of deed) = (c.requires.author, c.ranges.author.fits, acted_fits e result fits) in
    let a = acts seen c.args.author w v o.line c.args.event.now e result (is_new_stream c.args.event.now) refl (ap Event c.of.ensures) o.wire_open (c.act-done.ensures.acts o.wire_open) (c.act-done.ensures.overflow o.wire_open) in
    let log = c.self.inside.log in let counted = h.counted in let not_last = c.if-self.false in
    let r = its_record seen c.args.author w v c.self.inside.condition c.self.inside.log c.note.new.self c.self.inside.count h state c.acted-deed.result deed c.acted-deed.ensures c.note.ensures a.0 numbers in
    subst (λ (old : HeldView g.row.S.Denot). AddsSo c.args.author (ActsOn c.args.event.now result) old.records c.note.new.self) c.self.view_is (record {
      added = r ∷ [];
      adds = noted_adds seen c.args.author w v c.self.inside.condition c.self.inside.log c.note.new.self c.self.inside.count h state c.acted-deed.result deed c.acted-deed.ensures c.note.ensures a.0 numbers;
      does = tells_open log r (λ x. ByRoom log (AnswersEvent c.args.event.now result x) ((x.deed ≡ Starved (Event c.args.event.now)) × (result ≡ Err fault.NoMemory))) (result ≡ fault_in log) o.is_open
          (by_room log (AnswersEvent c.args.event.now result r) ((r.deed ≡ Starved (Event c.args.event.now)) × (result ≡ Err fault.NoMemory)) (λ is. absurd (omega (arith, counted, not_last, is))) a.2);
    })

use Rattle.std.proofs.Common.{rules, ◌≡◌, ◌⊎◌, [], ◌∷◌, refl, sym, ◌∙◌, subst}
use Rattle.h2_send.specs.declared.condition.Condition.{Condition}
use Rattle.h2_send.specs.declared.condition.Condition.TheVariants as condition
use Rattle.shared_wire.specs.Records.{IsPorts, EndsOn, AddsSo, AnswersEnd, fault_in}
use Rattle.shared_wire.specs.inner.Holding.{HeldView}
use Rattle.shared_wire.specs.inner.Logging.{deed_of}
use Rattle.shared_wire.specs.declared.log.Noted.TheVariants as noted
use Rattle.shared_wire.proofs.Leaving.{ends, noted_record}
use Rattle.shared_wire.proofs.Holding.{closed_after, its_record, noted_adds, noted_holds, tells_open}
use Rattle.shared_wire.proofs.held.HeldWire.close.Goals as goal

pub invariant_of-self : goal.invariant_of-self
invariant_of-self g c =
    let seen = g.S.Sink.seen in let w = c.self.inside.wire in let v = c.finish-done.new.self in let h = c.self.invariant in
    let result = c.finish-done.result in let deed = noted.Ended c.args.code in
    let state : c.self.inside.condition ≡ condition.Open = search rules in let o = h.is_open state in
    let numbers : IsPorts c.args.author (deed_of deed) = (c.requires.author, c.ranges.author.fits, c.ranges.code.fits) in
    let a = ends seen c.args.author w v o.line c.args.code result (c.finish-done.ensures.finishes o.wire_open) in
    let next = c.condition_after-self-inside.result in let is = c.condition_after-self-inside.ensures in
    noted_holds seen c.args.author w v c.self.inside.condition c.self.inside.log c.note.new.self c.self.inside.count h state deed deed refl c.note.ensures a.0 numbers
    next refl (a.1 ∙ sym is) c.finish-done.ensures.sound.folded (λ either. absurd (closed_after c.args.code result (noted_record seen c.args.author deed v) a.2 (subst (λ (s : Condition). (s ≡ condition.Open) ⊎ (s ≡ condition.NoMemory)) is either)))

pub returns-clause-does : goal.returns-clause-does
returns-clause-does g c =
    let seen = g.S.Sink.seen in let w = c.self.inside.wire in let v = c.finish-done.new.self in let h = c.self.invariant in
    let result = c.finish-done.result in let deed = noted.Ended c.args.code in
    let state : c.self.inside.condition ≡ condition.Open = search rules in let o = h.is_open state in
    let numbers : IsPorts c.args.author (deed_of deed) = (c.requires.author, c.ranges.author.fits, c.ranges.code.fits) in
    let a = ends seen c.args.author w v o.line c.args.code result (c.finish-done.ensures.finishes o.wire_open) in
    let r = its_record seen c.args.author w v c.self.inside.condition c.self.inside.log c.note.new.self c.self.inside.count h state deed deed refl c.note.ensures a.0 numbers in
    subst (λ (old : HeldView g.row.S.Denot). AddsSo c.args.author (EndsOn c.args.code result) old.records c.note.new.self) c.self.view_is (record {
      added = r ∷ [];
      adds = noted_adds seen c.args.author w v c.self.inside.condition c.self.inside.log c.note.new.self c.self.inside.count h state deed deed refl c.note.ensures a.0 numbers;
      does = tells_open c.self.inside.log r (AnswersEnd c.args.code result) (result ≡ fault_in c.self.inside.log) o.is_open a.2;
    })

use Rattle.std.proofs.Common.{rules, ◌≡◌, [], ◌∷◌, refl, sym, ◌∙◌, subst, arith}
use Rattle.h2_events.specs.declared.port.Took.TheVariants as took
use Rattle.h2_events.specs.declared.said.Said.TheVariants.{Status}
use Rattle.h2_send.specs.Inputs.{Speech}
use Rattle.h2_send.specs.Wires.{progress_of}
use Rattle.h2_send.specs.declared.condition.Condition.TheVariants as condition
use Rattle.h2_send.specs.declared.given.Given.TheVariants as given
use Rattle.shared_wire.specs.Records.{IsPorts, StatesOn, AddsSo, AnswersStatus, ByRoom, Starved, left_in}
use Rattle.shared_wire.specs.inner.Holding.{HeldView}
use Rattle.shared_wire.specs.inner.Logging.{deed_of, stated_so}
use Rattle.shared_wire.proofs.Leaving.{states}
use Rattle.shared_wire.proofs.Holding.{by_room, its_record, noted_adds, noted_holds, tells_open, stated_fits, stated_kept, wider}
use Rattle.shared_wire.proofs.held.HeldWire.http.Goals as goal

pub invariant_of-self : goal.invariant_of-self
invariant_of-self g c =
    let seen = g.S.Sink.seen in let w = c.self.inside.wire in let v = c.http-took.new.self in let h = c.self.invariant in
    let answer = c.http-took.result in let e = given.Status c.args.stream c.args.status in let deed = stated_so e answer in
    let state : c.self.inside.condition ≡ condition.Open = search rules in let o = h.is_open state in let did = c.http-took.ensures in
    let numbers : IsPorts c.args.author (deed_of deed) = (c.requires.author, c.ranges.author.fits, stated_fits e answer (c.ranges.stream.fits, wider c.args.status c.ranges.status.fits)) in
    let a = states seen c.args.author w v o.line c.args.stream c.args.status e answer refl c.requires.status o.wire_open did.says did.begun did.busy did.gone in
    let next = c.condition_by-self-inside.result in let is = c.condition_by-self-inside.ensures in
    let room = o.room in let not_last = c.if-self.false in
    noted_holds seen c.args.author w v c.self.inside.condition c.self.inside.log c.note.new.self c.self.inside.count h state c.stated-deed.result deed c.stated-deed.ensures c.note.ensures a.0 numbers
    next (stated_kept e answer (progress_of seen v)) (a.1 ∙ sym is) did.sound.folded
    (λ _. omega (arith, room, not_last))

pub returns-clause-does : goal.returns-clause-does
returns-clause-does g c =
    let seen = g.S.Sink.seen in let w = c.self.inside.wire in let v = c.http-took.new.self in let h = c.self.invariant in
    let answer = c.http-took.result in let e = given.Status c.args.stream c.args.status in let deed = stated_so e answer in
    let state : c.self.inside.condition ≡ condition.Open = search rules in let o = h.is_open state in let did = c.http-took.ensures in
    let numbers : IsPorts c.args.author (deed_of deed) = (c.requires.author, c.ranges.author.fits, stated_fits e answer (c.ranges.stream.fits, wider c.args.status c.ranges.status.fits)) in
    let a = states seen c.args.author w v o.line c.args.stream c.args.status e answer refl c.requires.status o.wire_open did.says did.begun did.busy did.gone in
    let log = c.self.inside.log in let counted = h.counted in let not_last = c.if-self.false in
    let r = its_record seen c.args.author w v c.self.inside.condition c.self.inside.log c.note.new.self c.self.inside.count h state c.stated-deed.result deed c.stated-deed.ensures c.note.ensures a.0 numbers in
    subst (λ (old : HeldView g.row.S.Denot). AddsSo c.args.author (StatesOn c.args.stream c.args.status answer) old.records c.note.new.self) c.self.view_is (record {
      added = r ∷ [];
      adds = noted_adds seen c.args.author w v c.self.inside.condition c.self.inside.log c.note.new.self c.self.inside.count h state c.stated-deed.result deed c.stated-deed.ensures c.note.ensures a.0 numbers;
      does = tells_open log r (λ x. ByRoom log (AnswersStatus c.args.stream c.args.status (left_in log) answer x) ((x.deed ≡ Starved (Speech c.args.stream (Status c.args.status))) × (answer ≡ took.NoMemory))) (answer ≡ took.Gone) o.is_open
          (by_room log (AnswersStatus c.args.stream c.args.status (left_in log) answer r) ((r.deed ≡ Starved (Speech c.args.stream (Status c.args.status))) × (answer ≡ took.NoMemory)) (λ is. absurd (omega (arith, counted, not_last, is)))
          (subst (λ at. AnswersStatus c.args.stream c.args.status at answer r) (h.stands.is_open o.is_open) a.2));
    })

use Rattle.std.proofs.Common.{◌≡◌, [], ◌∷◌, refl, sym, ap, ◌∙◌, subst, arith}
use Rattle.h2_events.specs.Items.{said_by}
use Rattle.h2_events.specs.declared.said.Piece.{Piece}
use Rattle.h2_events.specs.declared.port.Ready.TheVariants as ready
use Rattle.h2_send.specs.Conditions.{readiness}
use Rattle.h2_send.specs.Inputs.{Input, Speech, input_of}
use Rattle.h2_send.specs.Port.{line_of, ready_in}
use Rattle.h2_send.specs.declared.condition.Condition.TheVariants as condition
use Rattle.h2_send.specs.declared.given.Given.TheVariants as given
use Rattle.h2_send.proofs.Closing.{free_open}
use Rattle.h2_send.proofs.Holding.{accepts_piece, ready_free}
use Rattle.shared_wire.specs.Records.{IsPorts, AddsSo, Gave, IsOpen, SaysOn, left_in}
use Rattle.shared_wire.specs.inner.Holding.{HeldView}
use Rattle.shared_wire.specs.inner.Logging.{deed_of}
use Rattle.shared_wire.specs.declared.log.Noted.TheVariants as noted
use Rattle.shared_wire.proofs.Leaving.{says}
use Rattle.shared_wire.proofs.Holding.{its_record, noted_adds, noted_holds, open_of, said_fits, tells_free}
use Rattle.shared_wire.proofs.held.HeldWire.say.Goals as goal

pub invariant_of-self : goal.invariant_of-self
invariant_of-self g c =
    let seen = g.S.Sink.seen in let w = c.self.inside.wire in let v = c.say-took.new.self in let h = c.self.invariant in let log = c.self.inside.log in
    let answer = c.say-took.result in let e = given.Piece c.args.stream c.of.result in let deed = noted.Gave e in let stream = c.args.stream in
    let found : ready_in stream (left_in log) ≡ ready.Free = subst (λ (o : HeldView g.row.S.Denot). ready_in stream (left_in o.records) ≡ ready.Free) (sym c.self.view_is) (sym c.in-Free.ensures.is) in
    let is_open : IsOpen log = free_open (left_in log).condition stream (line_of (left_in log)) found in
    let state = open_of c.self.inside.condition (λ shut. h.closed shut is_open) in let o = h.is_open state in
    let free : readiness w.condition stream w.line ≡ ready.Free = ap (λ l. readiness w.condition stream l) o.line ∙ ap (ready_in stream) (h.stands.is_open is_open) ∙ found in
    let same : input_of e ≡ Speech stream (said_by c.args.piece.now) = ap (λ (p : Piece). let i : Input = Speech stream (said_by p) in i) c.of.ensures in
    let numbers : IsPorts c.args.author (deed_of deed) = (c.requires.author, c.ranges.author.fits, said_fits stream c.of.result.value c.ranges.stream.fits) in
    let a = says seen c.args.author w v o.line (Speech stream (said_by c.args.piece.now)) e answer same (accepts_piece stream c.args.piece.now w.line c.requires.size (ready_free w.condition stream w.line free)) (c.say-took.ensures.says free) in
    let next = c.condition_by-self-inside.result in let is = c.condition_by-self-inside.ensures in
    let room = o.room in let not_last = c.if-self.false in
    noted_holds seen c.args.author w v c.self.inside.condition log c.note.new.self c.self.inside.count h state deed deed refl c.note.ensures a.0 numbers
    next refl (a.1 ∙ sym is) c.say-took.ensures.sound.folded
    (λ _. omega (arith, room, not_last))

pub returns-clause-does : goal.returns-clause-does
returns-clause-does g c =
    let seen = g.S.Sink.seen in let w = c.self.inside.wire in let v = c.say-took.new.self in let h = c.self.invariant in let log = c.self.inside.log in
    let answer = c.say-took.result in let e = given.Piece c.args.stream c.of.result in let deed = noted.Gave e in let stream = c.args.stream in
    let found : ready_in stream (left_in log) ≡ ready.Free = subst (λ (o : HeldView g.row.S.Denot). ready_in stream (left_in o.records) ≡ ready.Free) (sym c.self.view_is) (sym c.in-Free.ensures.is) in
    let is_open : IsOpen log = free_open (left_in log).condition stream (line_of (left_in log)) found in
    let state = open_of c.self.inside.condition (λ shut. h.closed shut is_open) in let o = h.is_open state in
    let free : readiness w.condition stream w.line ≡ ready.Free = ap (λ l. readiness w.condition stream l) o.line ∙ ap (ready_in stream) (h.stands.is_open is_open) ∙ found in
    let same : input_of e ≡ Speech stream (said_by c.args.piece.now) = ap (λ (p : Piece). let i : Input = Speech stream (said_by p) in i) c.of.ensures in
    let numbers : IsPorts c.args.author (deed_of deed) = (c.requires.author, c.ranges.author.fits, said_fits stream c.of.result.value c.ranges.stream.fits) in
    let a = says seen c.args.author w v o.line (Speech stream (said_by c.args.piece.now)) e answer same (accepts_piece stream c.args.piece.now w.line c.requires.size (ready_free w.condition stream w.line free)) (c.say-took.ensures.says free) in
    let counted = h.counted in let not_last = c.if-self.false in
    let r = its_record seen c.args.author w v c.self.inside.condition log c.note.new.self c.self.inside.count h state deed deed refl c.note.ensures a.0 numbers in
    subst (λ (old : HeldView g.row.S.Denot). AddsSo c.args.author (SaysOn stream (said_by c.args.piece.now) answer) old.records c.note.new.self) c.self.view_is (record {
      added = r ∷ [];
      adds = noted_adds seen c.args.author w v c.self.inside.condition log c.note.new.self c.self.inside.count h state deed deed refl c.note.ensures a.0 numbers;
      does = tells_free stream (said_by c.args.piece.now) answer log r found (ap Gave same, a.2) (λ is. absurd (omega (arith, counted, not_last, is)));
    })

use Rattle.std.proofs.Common.{◌∷◌, [], sym, subst}
use Rattle.shared_wire.specs.Records.{IsPorts, Adds, IsLastRoom, IsOpen, left_in}
use Rattle.shared_wire.specs.inner.Holding.{HeldView}
use Rattle.shared_wire.specs.inner.Logging.{Loses, deed_of, starved_record}
use Rattle.shared_wire.proofs.Holding.{starved_adds, starved_holds, was_open}
use Rattle.shared_wire.proofs.held.HeldWire.starve.Goals as goal

pub invariant_of-self : goal.invariant_of-self
invariant_of-self g c =
    let seen = g.S.Sink.seen in let w = c.self.inside.wire in let v = c.finish.new.self in let h = c.self.invariant in let log = c.self.inside.log in
    let is_open : IsOpen log = subst (λ (o : HeldView g.row.S.Denot). IsOpen o.records) (sym c.self.view_is) c.requires.is_open in
    let loses : Loses c.args.deed (left_in log) = subst (λ (o : HeldView g.row.S.Denot). Loses c.args.deed (left_in o.records)) (sym c.self.view_is) c.requires.loses in
    let last_room : IsLastRoom log = subst (λ (o : HeldView g.row.S.Denot). IsLastRoom o.records) (sym c.self.view_is) c.requires.last in
    let numbers : IsPorts c.args.author (deed_of c.args.deed) = (c.requires.author, c.ranges.author.fits, c.requires.fits) in
    let state = was_open seen c.args.author w v c.self.inside.condition log c.note.new.self c.self.inside.count h is_open last_room c.args.deed loses c.note.ensures numbers in
    starved_holds seen c.args.author w v c.self.inside.condition log c.note.new.self c.self.inside.count h is_open last_room c.args.deed loses c.note.ensures numbers c.finish.result (c.finish.ensures.finishes (h.is_open state).wire_open)

pub returns : goal.returns
returns g c =
    let seen = g.S.Sink.seen in let w = c.self.inside.wire in let v = c.finish.new.self in let h = c.self.invariant in let log = c.self.inside.log in
    let is_open : IsOpen log = subst (λ (o : HeldView g.row.S.Denot). IsOpen o.records) (sym c.self.view_is) c.requires.is_open in
    let loses : Loses c.args.deed (left_in log) = subst (λ (o : HeldView g.row.S.Denot). Loses c.args.deed (left_in o.records)) (sym c.self.view_is) c.requires.loses in
    let last_room : IsLastRoom log = subst (λ (o : HeldView g.row.S.Denot). IsLastRoom o.records) (sym c.self.view_is) c.requires.last in
    let numbers : IsPorts c.args.author (deed_of c.args.deed) = (c.requires.author, c.ranges.author.fits, c.requires.fits) in
    let state = was_open seen c.args.author w v c.self.inside.condition log c.note.new.self c.self.inside.count h is_open last_room c.args.deed loses c.note.ensures numbers in
    record {
      adds = subst (λ (o : HeldView g.row.S.Denot). Adds c.args.author o.records (starved_record c.args.author c.args.deed (left_in o.records) ∷ []) c.note.new.self) c.self.view_is
          (starved_adds seen c.args.author w v c.self.inside.condition log c.note.new.self c.self.inside.count h is_open last_room c.args.deed loses c.note.ensures numbers c.finish.result (c.finish.ensures.finishes (h.is_open state).wire_open));
    }

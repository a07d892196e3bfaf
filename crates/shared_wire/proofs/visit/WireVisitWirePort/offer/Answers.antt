use Rattle.std.proofs.Common.{false, sym, ap, ◌∙◌, subst}
use Rattle.h2_events.specs.Items.{said_by}
use Rattle.h2_send.specs.Port.{Offers, noted}
use Rattle.shared_wire.specs.Records.{SaysOn, left_in}
use Rattle.shared_wire.specs.Visits.{VisitView, given_in}
use Rattle.shared_wire.proofs.Seeing.{counts_were, given_offered, offers}
use Rattle.shared_wire.proofs.visit.WireVisitWirePort.offer.Goals as goal

pub returns-clause-offers : goal.returns-clause-offers
returns-clause-offers g c =
    subst (Offers false c.say-took.result c.args.stream (said_by c.args.piece) (left_in c.args.self.now.seen)) (sym (ap (λ (v : VisitView). left_in v.seen) c.note.ensures.is))
    (offers c.args.stream (said_by c.args.piece) c.say-took.result c.args.self.now c.say-took.new.self c.say-took.ensures)

pub returns-clause-turn : goal.returns-clause-turn
returns-clause-turn g c = counts_were (SaysOn c.args.stream (said_by c.args.piece) c.say-took.result) c.args.self.now c.say-took.new.self c.note.new.self (noted c.say-took.result (c.args.stream, c.args.piece) c.say-took.new.self.counts) c.note.ensures.is c.say-took.ensures

pub returns-clause-given : goal.returns-clause-given
returns-clause-given g c =
    ap (λ (v : VisitView). given_in v.made) c.note.ensures.is
    ∙ given_offered c.args.stream (said_by c.args.piece) c.say-took.result c.args.self.now c.say-took.new.self c.say-took.ensures

use Rattle.std.proofs.Common.{map, subst, sym, ap, ◌∙◌, true}
use Rattle.std.specs.Prelude.{Some}
use Rattle.h2_events.specs.Items.{said_by}
use Rattle.h2_send.specs.Port.{Offers, said_so_far}
use Rattle.h2_send.specs.Wires.{progress_of}
use Rattle.h2_send.proofs.Offered.{given_alone, offers, said_alone}
use Rattle.h2_send.proofs.port.WireWirePort.offer.Goals as goal

pub returns-clause-offers : goal.returns-clause-offers
returns-clause-offers g c =
    let seen = g.S.Sink.seen in
    subst (λ p. Offers true c.say-took.result c.args.stream (said_by c.args.piece) (progress_of seen c.args.self.now) p) (sym (ap (λ w. progress_of seen w) c.note.ensures.is)) (offers seen c.args.stream c.say-took.result (said_by c.args.piece) c.args.self.now c.say-took.new.self c.say-took.ensures.found c.say-took.ensures.says c.say-took.ensures.busy c.say-took.ensures.gone)

pub returns-clause-own : goal.returns-clause-own
returns-clause-own g c other is =
    let seen = g.S.Sink.seen in
    let o = offers seen c.args.stream c.say-took.result (said_by c.args.piece) c.args.self.now c.say-took.new.self c.say-took.ensures.found c.say-took.ensures.says c.say-took.ensures.busy c.say-took.ensures.gone in
    ap (λ w. said_so_far other (progress_of seen w)) c.note.ensures.is ∙ said_alone other c.args.stream (said_by c.args.piece) c.say-took.result (progress_of seen c.args.self.now) (progress_of seen c.say-took.new.self) o

pub returns-clause-given : goal.returns-clause-given
returns-clause-given g c =
    let seen = g.S.Sink.seen in
    let o = offers seen c.args.stream c.say-took.result (said_by c.args.piece) c.args.self.now c.say-took.new.self c.say-took.ensures.found c.say-took.ensures.says c.say-took.ensures.busy c.say-took.ensures.gone in
    ap (λ w. map Some (progress_of seen w).inputs) c.note.ensures.is ∙ given_alone c.args.stream (said_by c.args.piece) c.say-took.result (progress_of seen c.args.self.now) (progress_of seen c.say-took.new.self) o

use Rattle.std.proofs.Common.{ap}
use Rattle.shared_wire.specs.Visits.{VisitView}
use Rattle.test_lock.proofs.wire_turns.offer_next.Goals as goal

pub returns-in-Taken : goal.returns-in-Taken
returns-in-Taken g c = ap (λ (v : VisitView). v.lock) c.offer.ensures.turn.turn.new_is

pub returns-in_default-offer : goal.returns-in_default-offer
returns-in_default-offer g c = ap (λ (v : VisitView). v.lock) c.offer.ensures.turn.turn.new_is

use Rattle.history_laws.proofs.Judged.{accepted_is_next, accepted_is_above, accepted_is_bounded}
use Rattle.history_laws.proofs.steps.accepted_asks.Goals as goal

pub returns : goal.returns
returns c = record { next = accepted_is_next; above = accepted_is_above; bounded = accepted_is_bounded }

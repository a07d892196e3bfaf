use Rattle.history_laws.proofs.Judged.{judged_by_stamp, accepted_at_own_stamp}
use Rattle.history_laws.proofs.steps.stamps_decide.Goals as goal

pub returns : goal.returns
returns c = record { judged = judged_by_stamp; accepted = accepted_at_own_stamp }

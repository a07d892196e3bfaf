use Rattle.history_laws.proofs.States.{history_after_one, front_is_history}
use Rattle.history_laws.proofs.histories.histories_go_on.Goals as goal

pub returns : goal.returns
returns c = record { next = history_after_one; front = front_is_history }

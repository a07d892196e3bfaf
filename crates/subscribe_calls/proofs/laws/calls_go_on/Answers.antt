use Rattle.subscribe_calls.proofs.Going.{calls_go_on, calls_stay}
use Rattle.subscribe_calls.proofs.laws.calls_go_on.Goals as goal

pub returns-clause-turn : goal.returns-clause-turn
returns-clause-turn c = calls_go_on

pub returns-clause-stays : goal.returns-clause-stays
returns-clause-stays c = calls_stay

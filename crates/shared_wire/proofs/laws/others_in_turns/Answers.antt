use Rattle.shared_wire.proofs.OthersDid.{others_later, others_turn}
use Rattle.shared_wire.proofs.laws.others_in_turns.Goals as goal

pub returns-clause-turn : goal.returns-clause-turn
returns-clause-turn c = others_turn

pub returns-clause-later : goal.returns-clause-later
returns-clause-later c = others_later

use Rattle.history_laws.proofs.Given.{given_is_next, legal_is_history, legal_is_bounded, legal_is_ahead}
use Rattle.history_laws.proofs.legal.legal_histories_are_sound.Goals as goal

pub returns : goal.returns
returns c = record { next = given_is_next; history = legal_is_history; bounded = legal_is_bounded; ahead = legal_is_ahead }

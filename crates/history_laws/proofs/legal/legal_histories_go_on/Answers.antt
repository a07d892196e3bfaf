use Rattle.history_laws.proofs.Given.{base_is_legal, fronts_are_legal, given_is_legal, legal_goes_on}
use Rattle.history_laws.proofs.legal.legal_histories_go_on.Goals as goal

pub returns : goal.returns
returns c = record { base = base_is_legal; front = fronts_are_legal; one = given_is_legal; more = legal_goes_on }

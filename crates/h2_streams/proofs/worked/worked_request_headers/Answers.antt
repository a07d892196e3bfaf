use Rattle.std.proofs.Common.{refl}
use Rattle.h2_streams.proofs.worked.worked_request_headers.Goals as goal

pub returns-clause-well_formed : goal.returns-clause-well_formed
returns-clause-well_formed c = refl

pub returns-clause-repeated : goal.returns-clause-repeated
returns-clause-repeated c = refl

pub returns-clause-pseudo_behind : goal.returns-clause-pseudo_behind
returns-clause-pseudo_behind c = refl

pub returns-clause-upper_case : goal.returns-clause-upper_case
returns-clause-upper_case c = refl

pub returns-clause-of_the_connection : goal.returns-clause-of_the_connection
returns-clause-of_the_connection c = refl

pub returns-clause-no_path : goal.returns-clause-no_path
returns-clause-no_path c = refl

pub returns-clause-other_pseudo : goal.returns-clause-other_pseudo
returns-clause-other_pseudo c = refl

pub returns-clause-two_authorities : goal.returns-clause-two_authorities
returns-clause-two_authorities c = refl

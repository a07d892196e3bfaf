use Rattle.set_request.proofs.Places.{rows_belong}
use Rattle.set_request.proofs.laws.rows_belong_to_their_paths.Goals as goal

pub returns : goal.returns
returns c = rows_belong

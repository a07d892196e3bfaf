use Rattle.schema_text.proofs.Placed.{all_placed}
use Rattle.schema_text.proofs.laws.parents_stand_first.Goals as goal

pub returns : goal.returns
returns c = all_placed

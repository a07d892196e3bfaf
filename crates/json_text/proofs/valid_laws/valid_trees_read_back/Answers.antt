use Rattle.json_text.proofs.ValidBack.{valid_back}
use Rattle.json_text.proofs.valid_laws.valid_trees_read_back.Goals as goal

pub returns : goal.returns
returns c = valid_back

use Rattle.json_text.proofs.LeavesBack.{leaf_back}
use Rattle.json_text.proofs.laws.leaves_read_back.Goals as goal

pub returns : goal.returns
returns c = leaf_back

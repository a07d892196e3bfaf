use Rattle.json_text.proofs.LeavesBack.{leaf_list_back}
use Rattle.json_text.proofs.laws.leaf_lists_read_back.Goals as goal

pub returns : goal.returns
returns c = leaf_list_back

use Rattle.path_core.proofs.Elems.{one_path}
use Rattle.path_core.proofs.laws.one_path.Goals as goal

pub returns : goal.returns
returns c = one_path

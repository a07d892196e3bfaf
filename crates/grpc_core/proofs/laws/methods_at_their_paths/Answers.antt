use Rattle.grpc_core.proofs.Replies.{at_its_path}
use Rattle.grpc_core.proofs.laws.methods_at_their_paths.Goals as goal

pub returns : goal.returns
returns c = at_its_path

use Rattle.grpc_core.proofs.Replies.{plain}
use Rattle.grpc_core.proofs.laws.plain_texts.Goals as goal

pub returns : goal.returns
returns c = plain

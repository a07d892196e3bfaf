use Rattle.h2_send.proofs.ReplySmall.{small_if, trailers_small}
use Rattle.h2_send.proofs.replies.last_headers.Goals as goal

pub returns-clause-small : goal.returns-clause-small
returns-clause-small c = small_if c.trailers_of.result _ (trailers_small c.args.refusal) c.trailers_of.ensures

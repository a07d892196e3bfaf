use Rattle.h2_send.proofs.ReplySmall.{small_if, opening_small}
use Rattle.h2_send.proofs.replies.first_headers.Goals as goal

pub returns-clause-small : goal.returns-clause-small
returns-clause-small c = small_if c.opening_headers.result _ opening_small c.opening_headers.ensures

use Rattle.std.proofs.Common.{sym, subst}
use Rattle.h2_send.specs.inner.Sizes.{IsSmall}
use Rattle.h2_send.proofs.ReplySmall.{none_small}
use Rattle.h2_send.proofs.replies.no_headers.Goals as goal

pub returns-clause-small : goal.returns-clause-small
returns-clause-small c = subst IsSmall (sym c.empty.ensures) none_small

use Rattle.std.proofs.Common.{◌≡◌, sym, subst, arith, rules}
use Rattle.h2_send.specs.Headers.{status_headers}
use Rattle.h2_send.specs.inner.Sizes.{IsSmall}
use Rattle.h2_send.proofs.ReplySmall.{status_small}
use Rattle.h2_send.proofs.replies.status_headers.Goals as goal

pub returns-clause-small : goal.returns-clause-small
returns-clause-small c =
    let is : c.push.new.self ≡ status_headers c.args.status = search rules in
    subst IsSmall (sym is) (status_small c.args.status (omega arith))

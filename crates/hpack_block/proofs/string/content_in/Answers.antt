use Rattle.hpack_block.proofs.FieldLemmas.{content_is, content_short, content_none}
use Rattle.hpack_block.proofs.string.content_in.Goals as goal

pub returns-in_err-length-clause-none : goal.returns-in_err-length-clause-none
returns-in_err-length-clause-none c = λ _. content_none c.args.octets.now c.in_err-length.ensures.value

pub returns-then-after-length-clause-none : goal.returns-then-after-length-clause-none
returns-then-after-length-clause-none c =
    λ _. content_short c.args.octets.now c.in_ok-length.length c.in_ok-length.after.now c.in_ok-length.ensures.value c.if-after-length.true

pub returns-clause-some : goal.returns-clause-some
returns-clause-some c =
    content_is c.args.octets.now c.in_ok-length.length c.in_ok-length.after.now c.split_at.result.0.now c.split_at.result.1.now c.in_ok-length.ensures.value c.if-after-length.false
    c.split_at.ensures.front c.split_at.ensures.back

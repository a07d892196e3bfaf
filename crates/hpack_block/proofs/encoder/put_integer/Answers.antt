use Rattle.base_lists.proofs.Fronts.{AppendsFront-more, OnErr-map}
use Rattle.hpack_block.proofs.WrittenLemmas.{integer_of-large}
use Rattle.hpack_block.proofs.encoder.put_integer.Goals as goal

pub returns-clause-err : goal.returns-clause-err
returns-clause-err c =
    OnErr-map c.put_above.result
    (AppendsFront-more c.args.out.now c.push-2.new.self c.put_above.new.out _ _ _ c.in_ok-push.ensures.ok
    (integer_of-large c.args.bits c.args.mark c.args.n c.largest_in-most.result c.largest_in-most.ensures c.if-n-most.false))
    c.put_above.ensures.err

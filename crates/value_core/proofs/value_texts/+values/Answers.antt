use Rattle.std.proofs.Common.{arith}
use Rattle.value_core.proofs.Lists.{values_more}
use Rattle.value_core.proofs.value_texts.+values.Goals as goal

pub put_values-loop-place-preserved : goal.put_values-loop-place-preserved
put_values-loop-place-preserved t c =
    values_more c.args.values.now c.loop-place.place c.index-values-place.result c.args.out.now c.loop-place.out c.put_separator.new.out c.put_value.new.out
    (omega arith) c.index-values-place.is c.loop-place.invariant c.in_ok-put_separator.ensures c.in_ok-put_value.ensures

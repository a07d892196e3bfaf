use Rattle.std.proofs.Common.{◌+◌, ◌-◌, ◌/◌, ◌%◌, refl, arith}
use Rattle.std.proofs.lemmas.List.{length-set}
use Rattle.value_core.proofs.Glyphs.{written_more}
use Rattle.value_core.proofs.written.split_digits.Goals as goal

pub loop-at-preserved : goal.loop-at-preserved
loop-at-preserved c =
    written_more c.loop-at.at (c.loop-at.at - 1) c.loop-at.digits _ c.args.number c.loop-at.whole (48 + c.loop-at.whole % 10) (c.loop-at.whole / 10) (omega arith) c.loop-at.invariant refl refl (length-set c.loop-at.digits (c.loop-at.at - 1) (48 + c.loop-at.whole % 10)) refl

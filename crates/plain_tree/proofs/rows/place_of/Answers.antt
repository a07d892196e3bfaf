use Rattle.std.proofs.Common.{arith, sym, ◌∙◌}
use Rattle.plain_tree.proofs.Gaps.{behind_middle}
use Rattle.plain_tree.proofs.rows.place_of.Goals as goal

pub loop-low-preserved-in-Less : goal.loop-low-preserved-in-Less
loop-low-preserved-in-Less c =
    let short = c.loop-low-test.true in
    behind_middle _ c.index-rows-middle.result _ c.loop-low.low _ _ c.requires c.loop-low.invariant (omega arith) (omega (arith, short)) (sym c.cmp_paths.ensures ∙ c.in-Less.is)

use Rattle.std.proofs.Common.{sym, ◌∙◌}
use Rattle.path_core.proofs.Searches.{match_passes, never_passes}
use Rattle.path_core.proofs.patterns.passes.Goals as goal

pub returns-in-Match : goal.returns-in-Match
returns-in-Match c =
    sym (c.loop-elems.invariant ∙ match_passes c.loop-elems.anchored c.args.extent c.loop-elems.patterns.now c.loop-elems.rest.now c.in-Match.ensures)

pub returns-in-Never : goal.returns-in-Never
returns-in-Never c =
    sym (c.loop-elems.invariant ∙ never_passes c.loop-elems.anchored c.args.extent c.loop-elems.patterns.now c.loop-elems.rest.now c.in-Never.ensures)

use Rattle.std.proofs.Common.{sym, ◌∙◌}
use Rattle.path_core.proofs.Searches.{came_further, skips_here, differs_here}
use Rattle.path_core.proofs.patterns.take_step.Goals as goal

pub returns-then-is_text : goal.returns-then-is_text
returns-then-is_text c =
    skips_here c.args.extent c.args.pattern.now c.args.path.now c.loop-first.patterns.now c.loop-first.rest.now c.in-Some.first.now c.in-Some.others.now c.loop-first.invariant c.in-Some.ensures.cases.0 (sym c.is_text.ensures ∙ c.if-is_text.true)

pub returns-then-not-matches_elem : goal.returns-then-not-matches_elem
returns-then-not-matches_elem c =
    differs_here c.args.extent c.args.pattern.now c.args.path.now c.loop-first.patterns.now c.loop-first.rest.now c.in-Some.first.now c.in-Some.others.now c.in-Some-split_first.elem.now c.in-Some-split_first.elems.now c.loop-first.invariant c.in-Some.ensures.cases.0 (sym c.is_text.ensures ∙ c.if-is_text.false) c.in-Some-split_first.ensures.cases.0 (sym c.matches_elem.ensures ∙ c.if-not-matches_elem.true)

pub loop-first-preserved : goal.loop-first-preserved
loop-first-preserved c =
    came_further c.args.extent c.args.pattern.now c.args.path.now c.loop-first.patterns.now c.loop-first.rest.now c.in-Some.first.now c.in-Some.others.now c.in-Some-split_first.elem.now c.in-Some-split_first.elems.now c.loop-first.invariant c.in-Some.ensures.cases.0 (sym c.is_text.ensures ∙ c.if-is_text.false) c.in-Some-split_first.ensures.cases.0 (sym c.matches_elem.ensures ∙ c.if-not-matches_elem.false)

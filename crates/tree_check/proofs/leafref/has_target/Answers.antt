use Rattle.std.proofs.Common.{◌∙◌}
use Rattle.tree_check.proofs.Targets.{looked_up}
use Rattle.tree_check.proofs.leafref.has_target.Goals as goal

pub returns : goal.returns
returns c =
    c.is_ok.ensures.value
    ∙ looked_up c.args.schema.now c.args.targets.now c.args.value.now c.args.names.now c.in-Some.id.0 c.in-Some-scalar_of.scalar c.binary_search.result
    c.requires.sorted c.requires.within c.each_has_its_place.ensures.distinct c.in-Some.ensures.within c.in-Some.ensures.named c.in-Some-scalar_of.ensures c.binary_search.ensures.bound c.binary_search.ensures.position

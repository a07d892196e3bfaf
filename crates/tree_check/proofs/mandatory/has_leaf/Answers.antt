use Rattle.std.proofs.Common.{is_some, ap, ◌∙◌}
use Rattle.base_kinds.specs.Ancestors.{child}
use Rattle.tree_check.proofs.Leaves.{has_found, copied_some}
use Rattle.tree_check.proofs.mandatory.has_leaf.Goals as goal

pub returns : goal.returns
returns c = c.is_some.ensures ∙ copied_some c.find_leaf.result ∙ ap is_some c.find_leaf.ensures ∙ has_found c.args.rows.now (child c.args.instance.now c.args.name.now)

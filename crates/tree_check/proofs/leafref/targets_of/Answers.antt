use Rattle.tree_check.proofs.Targets.{targets_sorted}
use Rattle.tree_check.proofs.leafref.targets_of.Goals as goal

pub returns-in-Ok-true-clause-targets : goal.returns-in-Ok-true-clause-targets
returns-in-Ok-true-clause-targets c = targets_sorted c.args.schema.now c.args.rows.now c.put_targets.new.targets.items c.sort_unstable.new.self.items (c.in-Ok-true.ensures.targets c.in-Ok-true.field-0-test) c.sort_unstable.ensures.permutation

pub returns-in-Ok-true-clause-sorted : goal.returns-in-Ok-true-clause-sorted
returns-in-Ok-true-clause-sorted c = c.sort_unstable.ensures.sorted

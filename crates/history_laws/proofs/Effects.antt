-- Every operation leaves the rows rising.
use Rattle.std.proofs.Common.{List, [], ◌∷◌}
use Rattle.base_kinds.specs.declared.operation.Row.{Row}
use Rattle.base_kinds.specs.declared.operation.Op.{Op}
use Rattle.base_kinds.specs.declared.operation.Act.{Act}
use Rattle.base_kinds.specs.declared.operation.Act.TheVariants.{Delete, Replace, Update}
use Rattle.base_kinds.specs.Tree.{act_effect, op_effect, in_turn, effect, with_act, uncovered}
use Rattle.base_kinds.specs.Rising.{IsRising}
use Rattle.history_laws.proofs.Setting.{rising_sets, rising_uncovered}

rising_act : (act : Act) (op : Op) (tree : List Row) → IsRising tree → IsRising (act_effect act op tree)
rising_act Delete op tree rising = rising_uncovered op.path tree rising
rising_act Replace op tree rising = rising_sets op.rows (uncovered op.path tree) (rising_uncovered op.path tree rising)
rising_act Update op tree rising = rising_sets op.rows tree rising

pub rising_op : (op : Op) (tree : List Row) → IsRising tree → IsRising (op_effect op tree)
rising_op op tree rising = rising_act op.act op tree rising

pub rising_in_turn : (ops : List Op) (tree : List Row) → IsRising tree → IsRising (in_turn ops tree)
rising_in_turn [] tree rising = rising
rising_in_turn (op ∷ ops) tree rising = rising_in_turn ops (op_effect op tree) (rising_op op tree rising)

pub rising_effect : (ops : List Op) (tree : List Row) → IsRising tree → IsRising (effect ops tree)
rising_effect ops tree rising = rising_in_turn (with_act Update ops) _ (rising_in_turn (with_act Replace ops) _ (rising_in_turn (with_act Delete ops) tree rising))

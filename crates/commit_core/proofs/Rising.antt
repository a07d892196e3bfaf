-- The rows of a core's tree rise by path.
use Rattle.std.proofs.Common.{◌≡◌, List, subst}
use Rattle.base_kinds.specs.declared.operation.Row.{Row}
use Rattle.base_kinds.specs.declared.operation.Op.{Op}
use Rattle.base_kinds.specs.declared.entry.Entry.{Entry}
use Rattle.base_kinds.specs.History.{World, world_of}
use Rattle.base_kinds.specs.Tree.{effect}
use Rattle.base_kinds.specs.Rising.{IsRising}
use Rattle.history_laws.proofs.Effects.{rising_effect}
use Rattle.history_laws.proofs.States.{rising_world}

-- they do in the state that a history stands for
pub rising_tree : (h : List Entry) (world : World) → world_of h ≡ world → IsRising world.tree
rising_tree h world is = subst (λ (w : World). IsRising w.tree) is (rising_world h)

-- and operations keep it so
pub changed_rises : (ops : List Op) (old new : List Row) → IsRising old → new ≡ effect ops old → IsRising new
changed_rises ops old new rising is = rw is (rising_effect ops old rising)

use Rattle.std.proofs.Common.{◌≡◌, ◌+◌, ◌++◌, length}
use Rattle.base_kinds.specs.Tree.{set_rows}
use Rattle.base_kinds.specs.Rising.{IsRising}
use Rattle.stream_core.proofs.notes.joined.Given as goal

-- what is there already, and what is left
abbrev pub invariant-loop-row : goal.invariant-loop-row
invariant-loop-row l = record {
  all : l.all.items ++ set_rows l.now.items l.kept.items ≡ set_rows l.fn.now.items l.fn.kept.items;
  kept : IsRising l.kept.items;
  now : IsRising l.now.items;
}

abbrev pub decreases-loop-row : goal.decreases-loop-row
decreases-loop-row l = length l.kept.items + length l.now.items

use Rattle.std.proofs.Common.{◌≡◌, drop}
use Rattle.base_kinds.specs.Tree.{set_rows}
use Rattle.base_kinds.specs.Rising.{IsRising}
use Rattle.plain_tree.proofs.rows.put_rows.Given as goal

-- setting the rows that are left gives what setting all of them gives
abbrev pub invariant-loop-row : goal.invariant-loop-row
invariant-loop-row l = record {
  rows : set_rows (drop l.row-index l.rows) l.tree.items ≡ set_rows l.rows l.fn.tree.items;
  rising : IsRising l.tree.items;
}

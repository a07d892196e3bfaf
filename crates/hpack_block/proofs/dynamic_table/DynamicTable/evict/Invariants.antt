use Rattle.std.proofs.Common.{◌≡◌, ◌+◌, ◌≤◌, length}
use Rattle.hpack_block.specs.Tables.{fitting_entries, size_of_all}
use Rattle.hpack_block.proofs.dynamic_table.DynamicTable.evict.Given as goal

-- what is to be kept is there still
abbrev pub invariant-loop-self : goal.invariant-loop-self
invariant-loop-self l = record {
  same : fitting_entries l.most l.self-inside.entries.items ≡ fitting_entries l.most l.fn.self.entries;
  size : size_of_all l.self-inside.entries.items + l.self-inside.room ≡ l.self-inside.maximum;
  maximum : l.self-inside.maximum ≡ l.fn.self.maximum;
  bounded : l.self-inside.maximum ≤ 4096;
}

abbrev pub decreases-loop-self : goal.decreases-loop-self
decreases-loop-self l = length l.self-inside.entries.items

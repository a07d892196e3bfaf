use Rattle.std.proofs.Common.{◌≡◌, ◌≤◌, [], drop}
use Rattle.tree_check.specs.inner.ListEntries.{few_behind, entries_along}
use Rattle.tree_check.proofs.max_elements.few_entries.Given as goal

-- what is left to come decides with the count so far as all that comes decides from the start
abbrev pub invariant-loop-row : goal.invariant-loop-row
invariant-loop-row l = (l.count ≤ l.most) × (few_behind l.most l.last l.count (entries_along l.names (drop l.row-index l.rows)) ≡ few_behind l.most [] 0 (entries_along l.names l.rows))

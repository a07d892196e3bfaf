use Rattle.std.proofs.Common.{◌≡◌, take}
use Rattle.base_kinds.specs.Parts.{part}
use Rattle.plain_tree.proofs.rows.put_covered.Given as goal

-- what was found is the part of the rows so far
abbrev pub invariant-loop-row : goal.invariant-loop-row
invariant-loop-row l = l.found.items ≡ part l.patterns (take l.row-index l.rows)

use Rattle.std.proofs.Common.{◌≡◌, take}
use Rattle.plain_tree.proofs.rows.put_copies.Given as goal

-- the copies are the rows so far
abbrev pub invariant-loop-row : goal.invariant-loop-row
invariant-loop-row l = l.copies.items ≡ take l.row-index l.rows

use Rattle.std.proofs.Common.{◌≡◌, ◌++◌, take, drop}
use Rattle.base_kinds.specs.Tree.{set_row}
use Rattle.set_request.proofs.key_merge.place_of.Given as goal

-- the rows before the place stay
abbrev pub invariant-loop-i : goal.invariant-loop-i
invariant-loop-i l = set_row l.row l.rows ≡ take l.i l.rows ++ set_row l.row (drop l.i l.rows)

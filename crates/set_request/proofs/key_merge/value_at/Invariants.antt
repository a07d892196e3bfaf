use Rattle.std.proofs.Common.{◌≡◌, drop}
use Rattle.base_kinds.specs.Rising.{value_at}
use Rattle.set_request.proofs.key_merge.value_at.Given as goal

-- no row so far has the path
abbrev pub invariant-loop-row : goal.invariant-loop-row
invariant-loop-row l = value_at l.path (drop l.row-index l.rows) ≡ value_at l.path l.rows

use Rattle.std.proofs.Common.{◌≡◌, ◌++◌, [], ◌∷◌, drop}
use Rattle.base_kinds.specs.Parts.{part}
use Rattle.request_desk.proofs.notes.rows_under.Given as goal

-- what was found, and the part of the rows that are left
abbrev pub invariant-loop-row : goal.invariant-loop-row
invariant-loop-row l =
    l.found ++ part (l.path ∷ []) (drop l.row-index l.rows) ≡ part (l.path ∷ []) l.rows

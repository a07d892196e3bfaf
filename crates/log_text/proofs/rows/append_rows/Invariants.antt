use Rattle.std.proofs.Common.{◌≡◌, ◌++◌, take}
use Rattle.std.specs.List.{flat_map}
use Rattle.log_text.specs.Logs.{row_text}
use Rattle.log_text.proofs.rows.append_rows.Given as goal

-- the rows so far are added
abbrev pub invariant-loop-row : goal.invariant-loop-row
invariant-loop-row l = l.out ≡ l.fn.out ++ flat_map (λ row. l.front ++ row_text row) (take l.row-index l.rows)

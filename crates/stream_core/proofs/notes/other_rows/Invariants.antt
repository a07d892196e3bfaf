use Rattle.std.proofs.Common.{◌≡◌, take, filter, not}
use Rattle.base_kinds.specs.declared.operation.Row.{Row}
use Rattle.sub_plan.specs.Groups.{group_of}
use Rattle.stream_laws.specs.Beats.{beat_numbered, is_due}
use Rattle.stream_core.proofs.notes.other_rows.Given as goal

abbrev pub invariant-loop-row : goal.invariant-loop-row
invariant-loop-row l = l.found.items ≡ filter (λ (row : Row). not (is_due (beat_numbered l.beats (group_of l.lines row.path)))) (take l.row-index l.rows)

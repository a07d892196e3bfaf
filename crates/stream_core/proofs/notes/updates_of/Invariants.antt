use Rattle.std.proofs.Common.{◌≡◌, take, filter}
use Rattle.base_kinds.specs.declared.operation.Row.{Row}
use Rattle.sub_plan.specs.Groups.{group_of}
use Rattle.stream_laws.specs.Beats.{beat_numbered}
use Rattle.stream_laws.specs.Notes.{is_sent}
use Rattle.stream_core.proofs.notes.updates_of.Given as goal

abbrev pub invariant-loop-row : goal.invariant-loop-row
invariant-loop-row l = l.found ≡ filter (λ (row : Row). is_sent (beat_numbered l.beats (group_of l.lines row.path)) l.sent row) (take l.row-index l.rows)

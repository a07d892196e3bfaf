use Rattle.std.proofs.Common.{◌≡◌, take, filter, map, ◌&&◌}
use Rattle.base_kinds.specs.declared.operation.Row.{Row}
use Rattle.sub_plan.specs.Groups.{group_of}
use Rattle.stream_laws.specs.Differences.{is_gone}
use Rattle.stream_laws.specs.Beats.{beat_numbered, is_due}
use Rattle.stream_core.proofs.notes.deletes_of.Given as goal

abbrev pub invariant-loop-row : goal.invariant-loop-row
invariant-loop-row l = l.found ≡ map (λ (row : Row). row.path) (filter (λ (row : Row). is_due (beat_numbered l.beats (group_of l.lines row.path)) && is_gone l.rows row) (take l.row-index l.sent))

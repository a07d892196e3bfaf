use Rattle.std.proofs.Common.{not}
use Rattle.base_kinds.specs.declared.operation.Row.{Row}
use Rattle.sub_plan.specs.Groups.{group_of}
use Rattle.stream_laws.specs.Beats.{beat_numbered, is_due}
use Rattle.stream_laws.proofs.Kept.{rising_filter}
use Rattle.stream_core.proofs.notes.sent_after.Goals as goal

pub joined-requires-clause-kept : goal.joined-requires-clause-kept
joined-requires-clause-kept c = rw c.in_ok-kept.ensures (rising_filter (λ (row : Row). not (is_due (beat_numbered c.args.beats.now (group_of c.args.lines.now row.path)))) _ c.requires.sent)

pub joined-requires-clause-now : goal.joined-requires-clause-now
joined-requires-clause-now c = rw c.in_ok-now.ensures (rising_filter (λ (row : Row). is_due (beat_numbered c.args.beats.now (group_of c.args.lines.now row.path))) _ c.requires.rows)

-- The octets in which a Commit is written: fields by rising number.
use Rattle.std.specs.Prelude.{ℕ, List, [], ◌++◌}
use Rattle.std.specs.Int.{w64, cast_unsigned}
use Rattle.base_kinds.specs.declared.request.Action.{Action}
use Rattle.base_kinds.specs.declared.request.Action.TheVariants as actions
use Rattle.base_kinds.specs.declared.request.Span.{Span}
use Rattle.base_kinds.specs.declared.request.Span.TheVariants as spans
use Rattle.pb_wire.specs.Writing.{octets_field}
use Rattle.gnmi_data_msg.specs.Writing.{text_field, number_field}
use Rattle.gnmi_ext_msg.specs.Numbers.{commit_id, commit_commit, commit_confirm, commit_cancel, commit_set_rollback_duration, rollback_duration, duration_seconds, duration_nanos}

-- a message that has this duration
abbrev pub span_message : Span → List ℕ
span_message spans.Absent = []
span_message (spans.Of seconds nanos) =
    octets_field rollback_duration
    (number_field duration_seconds (cast_unsigned w64 seconds)
    ++ number_field duration_nanos (cast_unsigned w64 nanos))

-- A Commit with this action. An empty one is read as Mixed, and a request that asks for Plain has no Commit.
abbrev pub commit_message : Action → List ℕ
commit_message actions.Plain = []
commit_message (actions.Trial id span) =
    text_field commit_id id ++ octets_field commit_commit (span_message span)
commit_message (actions.Confirm id) = text_field commit_id id ++ octets_field commit_confirm []
commit_message (actions.Cancel id) = text_field commit_id id ++ octets_field commit_cancel []
commit_message (actions.Extend id span) =
    text_field commit_id id ++ octets_field commit_set_rollback_duration (span_message span)
commit_message actions.Mixed = []

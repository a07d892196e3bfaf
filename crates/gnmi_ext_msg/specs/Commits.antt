-- What the octets of gnmi_ext.proto's Commit ask for. `None` stands where they are no such message.
use Rattle.std.specs.Prelude.{ℕ, ◌%◌, ◌^◌, List, Option, Some, None, unwrap_or, ◌==◌, if◌then◌else◌}
use Rattle.std.specs.Int.{w32, w64, cast_signed}
use Rattle.base_lists.specs.Options.{◌>>=◌}
use Rattle.base_kinds.specs.declared.request.Action.{Action}
use Rattle.base_kinds.specs.declared.request.Action.TheVariants as actions
use Rattle.base_kinds.specs.declared.request.Span.{Span}
use Rattle.base_kinds.specs.declared.request.Span.TheVariants as spans
use Rattle.pb_message.specs.Fields.{is_message}
use Rattle.pb_message.specs.Values.{number_under, text_under, message_under, member_under}
use Rattle.gnmi_ext_msg.specs.Numbers.{commit_id, commit_commit, commit_confirm, commit_cancel, commit_actions, rollback_duration, duration_seconds, duration_nanos}

-- A Duration. The seconds are an int64; the nanoseconds an int32, of which a longer varint gives the
-- low 32 bits (protobuf.dev, "Language Guide (proto 3)", "Updating A Message Type").
unfoldable pub duration_of : List ℕ → Option Span
duration_of octets =
    if is_message octets then
    Some (spans.Of (cast_signed w64 (unwrap_or (number_under duration_seconds octets) 0))
    (cast_signed w32 (unwrap_or (number_under duration_nanos octets) 0 % 2 ^ 32)))
    else None

abbrev pub span_given : Option (List ℕ) → Option Span
span_given None = Some spans.Absent
span_given (Some duration) = duration_of duration

-- the duration in a CommitRequest or a CommitSetRollbackDuration
unfoldable pub span_of : List ℕ → Option Span
span_of octets =
    if is_message octets then span_given (message_under rollback_duration octets) else None

-- a CommitConfirm and a CommitCancel have no fields of their own
abbrev pub if_message : List ℕ → Action → Option Action
if_message octets action = if is_message octets then Some action else None

-- what the member with this number asks for, by the octets of its message
unfoldable pub action_of : List ℕ → ℕ → List ℕ → Option Action
action_of id number octets =
    if number == commit_commit then (do
      span ← span_of octets
      Some (actions.Trial id span))
    else if number == commit_confirm then if_message octets (actions.Confirm id)
    else if number == commit_cancel then if_message octets (actions.Cancel id)
    else (do
      span ← span_of octets
      Some (actions.Extend id span))

-- a Commit that has none of the members asks for nothing that can be done
abbrev pub action_given : List ℕ → Option (ℕ × List ℕ) → Option Action
action_given id None = Some actions.Mixed
action_given id (Some member) = action_of id member.0 member.1

-- what a Commit asks for
unfoldable pub commit_of : List ℕ → Option Action
commit_of octets =
    if is_message octets then (do
      id ← text_under commit_id octets
      action_given id (member_under commit_actions octets))
    else None

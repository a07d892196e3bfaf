-- What a request asks for beside its operations (gNMI commit-confirmed extension), and why that is refused. Bounds are
-- this project's own.
use Rattle.std.specs.Prelude.{ℕ, ◌+◌, ◌*◌, ℤ, List, Bool, true, false, not, ◌&&◌, ◌||◌, ◌==◌, nat_lt, length, Option, Some, None, option_and_then, if◌then◌else◌}
use Rattle.base_kinds.specs.declared.operation.Op.{Op}
use Rattle.base_kinds.specs.declared.entry.Ask.{Ask}
use Rattle.base_kinds.specs.declared.entry.Ask.TheVariants as asks
use Rattle.base_kinds.specs.declared.request.Span.{Span}
use Rattle.base_kinds.specs.declared.request.Span.TheVariants as spans
use Rattle.base_kinds.specs.declared.request.Action.{Action}
use Rattle.base_kinds.specs.declared.request.Action.TheVariants as actions
use Rattle.base_kinds.specs.declared.request.UnresolvedSet.{UnresolvedSet}
use Rattle.base_kinds.specs.Legal.{is_fit_id, is_fit_duration}
use Rattle.base_kinds.specs.Limits.{second, default_duration}
use Rattle.set_request.specs.Numbers.{natural}

abbrev pub has_operations : UnresolvedSet → Bool
has_operations ask =
    not (length ask.deletes == 0) || not (length ask.replaces == 0) || not (length ask.updates == 0)

-- more than one action, a commit without one, or operations beside an action that has none
abbrev pub is_mixed : Action → Bool → Bool
is_mixed actions.Mixed operations = true
is_mixed (actions.Confirm id) operations = operations
is_mixed (actions.Cancel id) operations = operations
is_mixed (actions.Extend id span) operations = operations
is_mixed _ operations = false

abbrev pub has_fit_id : Action → Bool
has_fit_id (actions.Trial id span) = is_fit_id id
has_fit_id (actions.Confirm id) = is_fit_id id
has_fit_id (actions.Cancel id) = is_fit_id id
has_fit_id (actions.Extend id span) = is_fit_id id
has_fit_id _ = true

-- a duration of whole seconds and nanoseconds, of which there are fewer than a second has, in nanoseconds
abbrev pub fit_nanoseconds : ℕ → ℕ → Option ℕ
fit_nanoseconds nanos all = if nat_lt nanos second && is_fit_duration all then Some all else None

abbrev pub nanoseconds : ℤ → ℤ → Option ℕ
nanoseconds seconds nanos =
    option_and_then (λ s. option_and_then (λ n. fit_nanoseconds n (s * second + n)) (natural nanos))
    (natural seconds)

-- the duration in nanoseconds, where one is given or not
abbrev pub duration : Span → Option ℕ
duration spans.Absent = Some default_duration
duration (spans.Of seconds nanos) = nanoseconds seconds nanos

-- an action without a duration has none to be wrong
abbrev pub action_duration : Action → Option ℕ
action_duration (actions.Trial id span) = duration span
action_duration (actions.Extend id span) = duration span
action_duration _ = Some 0

-- the ask of an action with these operations and this duration
abbrev pub ask_of : Action → List Op → ℕ → Ask
ask_of (actions.Trial id span) ops nanos = asks.Trial id ops nanos
ask_of (actions.Confirm id) ops nanos = asks.Confirm id
ask_of (actions.Cancel id) ops nanos = asks.Cancel id
ask_of (actions.Extend id span) ops nanos = asks.Extend id nanos
ask_of _ ops nanos = asks.Apply ops

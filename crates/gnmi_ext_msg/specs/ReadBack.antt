-- Actions that are read back as they are written.
use Rattle.std.specs.Prelude.{◌≡◌, ℕ, ℤ, pos, ◌^◌, ◌<◌, List, true, length, FitsSigned}
use Rattle.std.specs.Int.{w64}
use Rattle.std.specs.Str.{is_utf8}
use Rattle.base_kinds.specs.declared.request.Action.{Action}
use Rattle.base_kinds.specs.declared.request.Action.TheVariants as actions
use Rattle.base_kinds.specs.declared.request.Span.{Span}
use Rattle.base_kinds.specs.declared.request.Span.TheVariants as spans

pub record IsWritableId (id : List ℕ) : Type 0 where
  pub is_text : is_utf8 id ≡ true
  pub short : length id < 2 ^ 64

-- no nanoseconds below 0, and so many as an int32 has
pub record IsWritableDuration (seconds nanos : ℤ) : Type 0 where
  pub seconds_fit : FitsSigned w64 seconds
  pub count : ℕ
  pub is_count : nanos ≡ pos count
  pub few : count < 2 ^ 31

abbrev pub IsWritableSpan : Span → Type 0
IsWritableSpan spans.Absent = Unit {0}
IsWritableSpan (spans.Of seconds nanos) = IsWritableDuration seconds nanos

-- Plain is what a request without a Commit asks for
abbrev pub IsWritable : Action → Type 0
IsWritable actions.Plain = ⊥
IsWritable (actions.Trial id span) = IsWritableId id × IsWritableSpan span
IsWritable (actions.Confirm id) = IsWritableId id
IsWritable (actions.Cancel id) = IsWritableId id
IsWritable (actions.Extend id span) = IsWritableId id × IsWritableSpan span
IsWritable actions.Mixed = Unit {0}

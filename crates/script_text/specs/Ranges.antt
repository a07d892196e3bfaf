-- The ranges of what a line says: numbers, texts and paths.
use Rattle.std.specs.Prelude.{◌≡◌, ◌≢◌, ℕ, ◌<◌, ◌≤◌, ◌^◌, ℤ, pos, [], IsTrue, IsUtf8}
use Rattle.base_kinds.specs.declared.fill.Fill.{Fill}
use Rattle.base_kinds.specs.declared.fill.Fill.TheVariants as fills
use Rattle.base_kinds.specs.declared.operation.Act.TheVariants as acts
use Rattle.base_kinds.specs.declared.request.ListMode.TheVariants as modes
use Rattle.base_kinds.specs.declared.request.Span.{Span}
use Rattle.base_kinds.specs.declared.request.Span.TheVariants as spans
use Rattle.base_kinds.specs.declared.request.SubLine.{SubLine}
use Rattle.base_kinds.specs.declared.request.SubMode.TheVariants as sub_modes
use Rattle.path_core.specs.PathText.{AreElems}
use Rattle.script_text.specs.declared.line.Line.{Line}
use Rattle.script_text.specs.declared.line.Line.TheVariants as lines
use Rattle.plain_texts.specs.Names.{is_name}

abbrev pub IsFitAuthor : ℕ → Type 0
IsFitAuthor author = (1 ≤ author) × (author < 2 ^ 32)

-- whole seconds of an i64, and none below 0
pub record IsWholeSeconds (seconds nanos : ℤ) : Type 0 where
  pub number : ℕ
  pub small : number < 2 ^ 63
  pub whole : seconds ≡ pos number
  pub none : nanos ≡ pos 0

abbrev pub IsWhole : Span → Type 0
IsWhole spans.Absent = Unit {0}
IsWhole (spans.Of seconds nanos) = IsWholeSeconds seconds nanos

-- a mode that the line names, and times of 64 bits
pub record IsFitSubscription (line : SubLine) : Type 0 where
  pub path : AreElems line.path
  pub mode : line.mode ≢ sub_modes.Other
  pub interval : line.interval < 2 ^ 64
  pub heartbeat : line.heartbeat < 2 ^ 64

abbrev pub IsOctetFill : Fill → Type 0
IsOctetFill fills.Old = Unit {0}
IsOctetFill fills.New = Unit {0}
IsOctetFill (fills.Octet octet) = octet < 256

abbrev pub IsInRange : Line → Type 0
IsInRange (lines.At reading) = reading < 2 ^ 64
IsInRange (lines.Add act path value) = AreElems path × (act ≡ acts.Delete → value ≡ [])
IsInRange (lines.Set author) = IsFitAuthor author
IsInRange (lines.Trial author id span) = IsFitAuthor author × IsUtf8 id × IsWhole span
IsInRange (lines.Confirm author id) = IsFitAuthor author × IsUtf8 id
IsInRange (lines.Cancel author id) = IsFitAuthor author × IsUtf8 id
IsInRange (lines.Extend author id span) = IsFitAuthor author × IsUtf8 id × IsWhole span
IsInRange (lines.Get author path) = IsFitAuthor author × AreElems path
IsInRange (lines.Sub line) = IsFitSubscription line
IsInRange (lines.Open author name mode only) =
    IsFitAuthor author × IsTrue (is_name name) × (mode ≢ modes.Other)
IsInRange (lines.Turn name) = IsTrue (is_name name)
IsInRange (lines.Poll name) = IsTrue (is_name name)
IsInRange (lines.End name) = IsTrue (is_name name)
IsInRange (lines.Stop calls fill) = (calls < 2 ^ 64) × IsOctetFill fill
IsInRange (lines.Fail calls) = calls < 2 ^ 64

-- A stream as its callers see it.
use Rattle.std.specs.Prelude.{ℕ, List, Bool, true, false, Option, Some, None, max}
use Rattle.base_kinds.specs.declared.request.Note.{Note}
use Rattle.base_kinds.specs.declared.entry.View.{View}
use Rattle.base_kinds.specs.Step.{clamped_reading}
use Rattle.sub_plan.specs.declared.plan.Line.{Line}
use Rattle.sub_plan.specs.declared.plan.Plan.{Plan}
use Rattle.stream_laws.specs.declared.kinds.Mark.{Mark}
use Rattle.stream_laws.specs.Beats.{TurnInput}
use Rattle.stream_laws.specs.Notes.{note_of}
use Rattle.stream_laws.specs.Runs.{Turn, Sending, first_sending, turn_input, sending_after, first_note}

-- The lines of its plan, what it has sent, the time of its last turn in nanoseconds, the stamp of the state that its last turn
-- was made at, and its last mark.
pub record StreamView : Type 0 where
  pub lines : List Line
  pub sending : Sending
  pub time : ℕ
  pub since : ℕ
  pub mark : Mark

-- a stream that begins at this reading of the clock: its first mark is the sync
abbrev pub stream_from : Plan → ℕ → View → StreamView
stream_from plan now view = record {
  lines = plan.lines;
  sending = first_sending plan.groups (record { time = clamped_reading now; view = view });
  time = clamped_reading now;
  since = view.stamp;
  mark = record { stamp = view.stamp; sync = true };
}

-- a turn at this reading: the time never goes back
abbrev pub turn_of : StreamView → ℕ → View → Turn
turn_of stream now view =
    record { time = max (clamped_reading now) stream.time; view = view }

abbrev pub turn_input_of : StreamView → ℕ → View → TurnInput
turn_input_of stream now view = turn_input stream.lines stream.sending (turn_of stream now view)

-- a turn without a notification makes no mark
abbrev pub mark_after : Option Note → Mark → Mark
mark_after None mark = mark
mark_after (Some note) mark = record { stamp = note.stamp; sync = false }

abbrev pub stream_after : StreamView → ℕ → View → StreamView
stream_after stream now view = record {
  lines = stream.lines;
  sending = sending_after stream.lines stream.sending (turn_of stream now view);
  time = max (clamped_reading now) stream.time;
  since = view.stamp;
  mark = mark_after (note_of (turn_input_of stream now view) view.stamp) stream.mark;
}

-- no notification comes first where updates alone are asked for
abbrev pub begins_with : Bool → View → Option Note
begins_with true view = None
begins_with false view = Some (first_note view)

-- The messages of one stream (gNMI 3.5.1.4 and 3.5.2.3): a first notification of all rows and a sync, and then one
-- notification for each turn at which a group is due.
use Rattle.std.specs.Prelude.{◌≡◌, ℕ, ◌≤◌, List, [], ◌∷◌, ◌++◌, Bool, Option, Some, None, map, max, take, length, if◌then◌else◌}
use Rattle.base_kinds.specs.declared.operation.Row.{Row}
use Rattle.base_kinds.specs.declared.request.Note.{Note}
use Rattle.base_kinds.specs.declared.entry.Entry.{Entry}
use Rattle.base_kinds.specs.declared.entry.View.{View}
use Rattle.base_kinds.specs.Events.{view_of}
use Rattle.base_kinds.specs.Step.{clamped_reading}
use Rattle.sub_plan.specs.declared.plan.Group.{Group}
use Rattle.sub_plan.specs.declared.plan.Line.{Line}
use Rattle.sub_plan.specs.declared.plan.Plan.{Plan}
use Rattle.sub_plan.specs.Groups.{patterns_of}
use Rattle.stream_laws.specs.declared.kinds.GroupState.{GroupState}
use Rattle.gnmi_kinds.specs.declared.reply.SubReply.{SubReply}
use Rattle.gnmi_kinds.specs.declared.reply.SubReply.TheVariants as replies
use Rattle.stream_laws.specs.Beats.{TurnInput, groups_after}
use Rattle.stream_laws.specs.Notes.{note_of, sent_after}

-- a turn: its time in nanoseconds, and what the plan's lines show then
pub record Turn : Type 0 where
  pub time : ℕ
  pub view : View

-- what a stream knows between two turns: its groups, and the rows that its subscriber has
pub record Sending : Type 0 where
  pub groups : List GroupState
  pub sent : List Row

abbrev pub started : ℕ → Group → GroupState
started time group = record { group = group; last = time; full = time }

-- after the first turn: its rows are sent, or known to the subscriber already, and all times are its own
abbrev pub first_sending : List Group → Turn → Sending
first_sending groups turn =
    record { groups = map (started turn.time) groups; sent = turn.view.rows }

abbrev pub turn_input : List Line → Sending → Turn → TurnInput
turn_input lines sending turn = record {
  lines = lines;
  groups = sending.groups;
  sent = sending.sent;
  rows = turn.view.rows;
  time = turn.time;
}

-- after one further turn
abbrev pub sending_after : List Line → Sending → Turn → Sending
sending_after lines sending turn = record {
  groups = groups_after (turn_input lines sending turn);
  sent = sent_after (turn_input lines sending turn);
}

abbrev pub sending_after_all : List Line → Sending → List Turn → Sending
sending_after_all lines sending [] = sending
sending_after_all lines sending (turn ∷ turns) =
    sending_after_all lines (sending_after lines sending turn) turns

-- the first notification has all rows
abbrev pub first_note : View → Note
first_note view = record { stamp = view.stamp; deletes = []; updates = view.rows }

-- the messages of the first turn
abbrev pub first_messages : Bool → View → List SubReply
first_messages updates_only view =
    if updates_only then replies.Sync ∷ []
    else replies.Note (first_note view) ∷ replies.Sync ∷ []

abbrev pub note_messages : Option Note → List SubReply
note_messages None = []
note_messages (Some note) = replies.Note note ∷ []

-- the messages of a later turn
abbrev pub turn_messages : List Line → Sending → Turn → List SubReply
turn_messages lines sending turn =
    note_messages (note_of (turn_input lines sending turn) turn.view.stamp)

abbrev pub later_messages : List Line → Sending → List Turn → List SubReply
later_messages lines sending [] = []
later_messages lines sending (turn ∷ turns) =
    turn_messages lines sending turn
    ++ later_messages lines (sending_after lines sending turn) turns

-- the messages of a stream with these turns
abbrev pub messages_of : Plan → Turn → List Turn → List SubReply
messages_of plan first later =
    first_messages plan.updates_only first.view
    ++ later_messages plan.lines (first_sending plan.groups first) later

-- ---- turns over a history

-- What the clock showed at a turn and the turn's time, in nanoseconds, and the position of the history that it is made at: how
-- many entries there are. A run says of a reading only which time it leads to; that it is the one that a turn was called with
-- is said where a run goes on (Follows.antt).
pub record Moment : Type 0 where
  pub reading : ℕ
  pub time : ℕ
  pub position : ℕ

-- what the lines show at the position
abbrev pub view_at : List Line → List Entry → ℕ → View
view_at lines h position = view_of (take position h) (patterns_of lines)

abbrev pub turn_at : List Line → List Entry → Moment → Turn
turn_at lines h moment = record { time = moment.time; view = view_at lines h moment.position }

-- Times are the readings, but for one that is before the last time, which counts as that. Positions don't fall, and none is
-- above this number.
abbrev pub GoOn : ℕ → ℕ → ℕ → List Moment → Type 0
GoOn most time position [] = Unit {0}
GoOn most time position (moment ∷ moments) =
    (moment.time ≡ max (clamped_reading moment.reading) time) × (position ≤ moment.position)
    × (moment.position ≤ most) × GoOn most moment.time moment.position moments

-- The messages are those of a stream of the plan, with turns at these moments of the history, of which neither times nor
-- positions fall.
pub record IsStreamRun (plan : Plan) (first : Moment) (later : List Moment)
    (messages : List SubReply) (h : List Entry) : Type 0 where
  pub time : first.time ≡ clamped_reading first.reading
  pub inside : first.position ≤ length h
  pub go_on : GoOn (length h) first.time first.position later
  pub whole : messages ≡
      messages_of plan (turn_at plan.lines h first) (map (turn_at plan.lines h) later)

-- A stream in the midst of a run, as whoever feeds it keeps it.
use Rattle.std.specs.Prelude.{◌≡◌, ℕ, ◌≤◌, List, [], ◌∷◌, ◌++◌, true, false, max, map, length}
use Rattle.base_kinds.specs.declared.entry.Entry.{Entry}
use Rattle.base_kinds.specs.declared.entry.View.{View}
use Rattle.base_kinds.specs.Step.{clamped_reading}
use Rattle.sub_plan.specs.declared.plan.Plan.{Plan}
use Rattle.gnmi_kinds.specs.declared.reply.SubReply.{SubReply}
use Rattle.gnmi_kinds.specs.declared.reply.SubReply.TheVariants as replies
use Rattle.stream_laws.specs.declared.kinds.Mark.{Mark}
use Rattle.stream_laws.specs.Runs.{sending_after_all, first_messages, note_messages, Moment, view_at, turn_at, IsStreamRun}
use Rattle.stream_laws.specs.Folds.{fold_of, first_sending_at, last_moment}
use Rattle.stream_laws.specs.Notes.{note_of}
use Rattle.stream_laws.specs.Streams.{StreamView, turn_input_of, stream_from, stream_after, begins_with}

-- the mark that these messages leave behind one before them: a sync names the state of the notification before it
abbrev pub mark_behind : Mark → List SubReply → Mark
mark_behind mark [] = mark
mark_behind mark (replies.Note note ∷ messages) =
    mark_behind (record { stamp = note.stamp; sync = false }) messages
mark_behind mark (replies.Sync ∷ messages) =
    mark_behind (record { stamp = mark.stamp; sync = true }) messages

-- the last mark of these messages, which are those of whole turns and begin at this state
abbrev pub last_mark : View → List SubReply → Mark
last_mark view messages = mark_behind (record { stamp = view.stamp; sync = true }) messages

-- The messages so far are a run with these turns, and the stream is as its last turn left it: `since` is the stamp of the
-- last turn's state, and `mark` that of the last mark.
pub record IsStreamAt (plan : Plan) (first : Moment) (later : List Moment)
    (messages : List SubReply) (h : List Entry) (stream : StreamView) : Type 0 where
  pub run : IsStreamRun plan first later messages h
  pub lines : stream.lines ≡ plan.lines
  pub sending : stream.sending ≡
      sending_after_all plan.lines (first_sending_at plan h first)
      (map (turn_at plan.lines h) later)
  pub time : stream.time ≡ (last_moment first later).time
  pub since : stream.since ≡ (turn_at plan.lines h (last_moment first later)).view.stamp
  pub mark : stream.mark ≡ last_mark (turn_at plan.lines h first).view messages

-- the moment of a first turn at this reading of the clock
abbrev pub first_moment : ℕ → ℕ → Moment
first_moment now position =
    record { reading = now; time = clamped_reading now; position = position }

-- what a stream that is started says: its first notification, where there is one, and a sync
abbrev pub started_messages : Plan → View → List SubReply
started_messages plan view =
    note_messages (begins_with plan.updates_only view) ++ replies.Sync ∷ []

-- the moment of a later turn at this reading of the clock
abbrev pub moment_of : StreamView → ℕ → ℕ → Moment
moment_of stream now position =
    record {
      reading = now;
      time = max (clamped_reading now) stream.time;
      position = position;
    }

-- what a turn at this reading and this position says
abbrev pub messages_at : StreamView → ℕ → View → List SubReply
messages_at stream now view = note_messages (note_of (turn_input_of stream now view) view.stamp)

-- the first turn begins a run
abbrev pub RunsBegin : Type 0
RunsBegin =
    (plan : Plan) (h : List Entry) (now position : ℕ) → position ≤ length h →
    IsStreamAt plan (first_moment now position) []
    (first_messages plan.updates_only (view_at plan.lines h position)) h
    (stream_from plan now (view_at plan.lines h position))

-- and its messages are what a stream that is started says
abbrev pub StartsSay : Type 0
StartsSay =
    (plan : Plan) (view : View) →
    started_messages plan view ≡ first_messages plan.updates_only view

-- a turn at a position that isn't before the last one goes on with the run
abbrev pub TurnsGoOn : Type 0
TurnsGoOn =
    (plan : Plan) (first : Moment) (later : List Moment) (messages : List SubReply)
    (h : List Entry) (stream : StreamView) (now position : ℕ) →
    IsStreamAt plan first later messages h stream →
    (last_moment first later).position ≤ position → position ≤ length h →
    IsStreamAt plan first (later ++ moment_of stream now position ∷ [])
    (messages ++ messages_at stream now (view_at plan.lines h position)) h
    (stream_after stream now (view_at plan.lines h position))

-- a run stays one when the history grows
abbrev pub RunsStay : Type 0
RunsStay =
    (plan : Plan) (first : Moment) (later : List Moment) (messages : List SubReply)
    (h more : List Entry) (stream : StreamView) → IsStreamAt plan first later messages h stream →
    IsStreamAt plan first later messages (h ++ more) stream

abbrev pub MessagesStay : Type 0
MessagesStay =
    (plan : Plan) (first : Moment) (later : List Moment) (messages : List SubReply)
    (h more : List Entry) → IsStreamRun plan first later messages h →
    IsStreamRun plan first later messages (h ++ more)

-- what a stream's subscriber has is what its messages fold to
abbrev pub StreamsFold : Type 0
StreamsFold =
    (plan : Plan) (first : Moment) (later : List Moment) (messages : List SubReply)
    (h : List Entry) (stream : StreamView) → IsStreamAt plan first later messages h stream →
    fold_of plan (turn_at plan.lines h first).view messages ≡ stream.sending.sent

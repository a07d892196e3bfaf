-- What follows of a stream's messages (gNMI 3.5.1.4). At each mark they fold, for each group, to its part of the state of its
-- own last sending. That is the mark's state for all groups at the sync, and behind it for those that were due and for the
-- group of changes.
use Rattle.std.specs.Prelude.{◌≡◌, ℕ, ◌≤◌, List, [], ◌∷◌, ◌++◌, Bool, true, false, Some, None, slice_get, map, take, length, if◌then◌else◌}
use Rattle.std.specs.List.{list_any}
use Rattle.base_kinds.specs.declared.operation.Row.{Row}
use Rattle.base_kinds.specs.declared.request.Note.{Note}
use Rattle.base_kinds.specs.declared.entry.Entry.{Entry}
use Rattle.base_kinds.specs.declared.entry.View.{View}
use Rattle.base_kinds.specs.History.{IsHistory, stamp_of, world_of}
use Rattle.base_kinds.specs.Parts.{part}
use Rattle.base_kinds.specs.Rising.{IsRising}
use Rattle.sub_plan.specs.declared.plan.Group.{Group}
use Rattle.sub_plan.specs.declared.plan.GroupSort.TheVariants.{Change}
use Rattle.sub_plan.specs.declared.plan.Line.{Line}
use Rattle.sub_plan.specs.declared.plan.Plan.{Plan}
use Rattle.sub_plan.specs.Groups.{group_rows, patterns_of}
use Rattle.gnmi_kinds.specs.declared.reply.SubReply.{SubReply}
use Rattle.gnmi_kinds.specs.declared.reply.SubReply.TheVariants as replies
use Rattle.stream_laws.specs.Beats.{TurnInput, beats, beat_or_quiet, is_due, some_due}
use Rattle.stream_laws.specs.Notes.{note_of, sent_after, rows_after_note, fold_notes}
use Rattle.stream_laws.specs.Runs.{Turn, Sending, turn_input, sending_after, sending_after_all, first_sending, first_messages, turn_messages, messages_of, Moment, turn_at, IsStreamRun}

-- the notification of a turn leads from the rows that were sent to those that are sent after it
abbrev pub NoteLeads : Type 0
NoteLeads =
    (turn : TurnInput) (stamp : ℕ) (note : Note) → IsRising turn.sent → IsRising turn.rows →
    note_of turn stamp ≡ Some note → rows_after_note turn.sent note ≡ sent_after turn

-- and without one they stay
abbrev pub QuietStays : Type 0
QuietStays =
    (turn : TurnInput) (stamp : ℕ) → IsRising turn.sent → IsRising turn.rows →
    note_of turn stamp ≡ None → sent_after turn ≡ turn.sent

-- ---- whole runs

abbrev pub notes_in : List SubReply → List Note
notes_in [] = []
notes_in (replies.Note note ∷ messages) = note ∷ notes_in messages
notes_in (replies.Sync ∷ messages) = notes_in messages

-- what a subscriber has who took these messages: one who asked for updates alone knows the first rows
abbrev pub fold_of : Plan → View → List SubReply → List Row
fold_of plan view messages =
    fold_notes (if plan.updates_only then view.rows else []) (notes_in messages)

-- the group is due at the turn
abbrev pub is_due_then : List Line → Sending → ℕ → Turn → Bool
is_due_then lines sending number turn =
    is_due (beat_or_quiet (slice_get (beats (turn_input lines sending turn)) number))

-- the moment of the group's last sending: the first one, or the last at which it was due
abbrev pub last_sending : List Line → List Entry → Sending → ℕ → Moment → List Moment → Moment
last_sending lines h sending number last [] = last
last_sending lines h sending number last (moment ∷ moments) =
    last_sending lines h (sending_after lines sending (turn_at lines h moment)) number
    (if is_due_then lines sending number (turn_at lines h moment) then moment else last) moments

abbrev pub last_moment : Moment → List Moment → Moment
last_moment last [] = last
last_moment last (moment ∷ moments) = last_moment moment moments

abbrev pub tree_at : List Entry → Moment → List Row
tree_at h moment = (world_of (take moment.position h)).tree

abbrev pub first_sending_at : Plan → List Entry → Moment → Sending
first_sending_at plan h first = first_sending plan.groups (turn_at plan.lines h first)

-- the group is due at the last of these turns, or, where there are none, at the one before them
abbrev pub is_due_last : List Line → List Entry → Bool → Sending → ℕ → List Moment → Bool
is_due_last lines h due sending number [] = due
is_due_last lines h due sending number (moment ∷ moments) =
    is_due_last lines h (is_due_then lines sending number (turn_at lines h moment))
    (sending_after lines sending (turn_at lines h moment)) number moments

-- The part of the messages' fold that is a group's is the group's part of the state of its own last sending (`each`). That is
-- the state of the last turn where the group was due there, as all groups are at the first turn (`due`), and for the group of
-- changes whether it was due or not (`changes`); for another group it may be an older one. Nothing else is in the fold.
pub record FoldsToStates (plan : Plan) (first : Moment) (later : List Moment)
    (messages : List SubReply) (h : List Entry) : Type 0 where
  pub each : (number : ℕ) →
      group_rows plan.lines number (fold_of plan (turn_at plan.lines h first).view messages) ≡
      group_rows plan.lines number
      (tree_at h (last_sending plan.lines h (first_sending_at plan h first) number first later))
  pub due : (number : ℕ) →
      is_due_last plan.lines h true (first_sending_at plan h first) number later ≡ true →
      group_rows plan.lines number (fold_of plan (turn_at plan.lines h first).view messages) ≡
      group_rows plan.lines number (tree_at h (last_moment first later))
  pub changes : (number : ℕ) (group : Group) → slice_get plan.groups number ≡ Some group →
      group.sort ≡ Change →
      group_rows plan.lines number (fold_of plan (turn_at plan.lines h first).view messages) ≡
      group_rows plan.lines number (tree_at h (last_moment first later))
  pub nothing_else :
      part (patterns_of plan.lines) (fold_of plan (turn_at plan.lines h first).view messages) ≡
      fold_of plan (turn_at plan.lines h first).view messages

abbrev pub RunsFold : Type 0
RunsFold =
    (plan : Plan) (first : Moment) (later : List Moment) (messages : List SubReply)
    (h : List Entry) → IsStreamRun plan first later messages h →
    FoldsToStates plan first later messages h

-- a run goes on with one turn more
abbrev pub RunsGoOn : Type 0
RunsGoOn =
    (plan : Plan) (first : Turn) (later : List Turn) (turn : Turn) →
    messages_of plan first (later ++ turn ∷ []) ≡
    messages_of plan first later ++ turn_messages plan.lines
    (sending_after_all plan.lines (first_sending plan.groups first) later) turn

-- ---- marks: a sync, and each notification behind the first sync

abbrev pub is_sync : SubReply → Bool
is_sync replies.Sync = true
is_sync (replies.Note note) = false

-- the stamp of the last notification, or this one
abbrev pub last_stamp : ℕ → List SubReply → ℕ
last_stamp stamp [] = stamp
last_stamp stamp (replies.Note note ∷ messages) = last_stamp note.stamp messages
last_stamp stamp (replies.Sync ∷ messages) = last_stamp stamp messages

abbrev pub last_turn : Turn → List Turn → Turn
last_turn last [] = last
last_turn last (turn ∷ turns) = last_turn turn turns

-- the last of these turns says something, or, where there are none, the one before them
abbrev pub ends_with_message : List Line → Bool → Sending → List Turn → Bool
ends_with_message lines says sending [] = says
ends_with_message lines says sending (turn ∷ turns) =
    ends_with_message lines (some_due (turn_input lines sending turn))
    (sending_after lines sending turn) turns

-- Messages up to a mark are those of the first turns of the run, perhaps of all, of which the last made the mark, and the
-- mark's stamp is that turn's. At the sync it is the first turn.
pub record IsMarked (plan : Plan) (first : Turn) (later : List Turn)
    (front : List SubReply) : Type 0 where
  pub turns : ℕ
  pub inside : turns ≤ length later
  pub whole : front ≡ messages_of plan first (take turns later)
  pub made :
      ends_with_message plan.lines true (first_sending plan.groups first) (take turns later) ≡ true
  pub sync : front ≡ first_messages plan.updates_only first.view → turns ≡ 0
  pub stamp : last_stamp first.view.stamp front ≡ (last_turn first (take turns later)).view.stamp

-- messages among which there is a sync end with a mark, wherever they are cut off
abbrev pub MarksNameTurns : Type 0
MarksNameTurns =
    (plan : Plan) (first : Turn) (later : List Turn) (front rest : List SubReply) →
    messages_of plan first later ≡ front ++ rest → list_any is_sync front ≡ true →
    IsMarked plan first later front

-- Messages of a run up to a mark are a run of its first turns, the last of which made the mark, so that no turn is at a state
-- before that of an earlier one (`run`, `made`; at the sync it is the first turn, `sync`). They fold to the states of those
-- turns, and the mark's stamp is that of the last one's state. In a history no other state has this stamp (StampsNamePositions).
pub record IsMarkedState (plan : Plan) (first : Moment) (later : List Moment)
    (front : List SubReply) (h : List Entry) : Type 0 where
  pub turns : ℕ
  pub inside : turns ≤ length later
  pub run : IsStreamRun plan first (take turns later) front h
  pub made : ends_with_message plan.lines true (first_sending_at plan h first)
      (map (turn_at plan.lines h) (take turns later)) ≡ true
  pub sync : front ≡ first_messages plan.updates_only (turn_at plan.lines h first).view → turns ≡ 0
  pub folds : FoldsToStates plan first (take turns later) front h
  pub stamp : last_stamp (turn_at plan.lines h first).view.stamp front ≡
      stamp_of (take (last_moment first (take turns later)).position h)

abbrev pub MarksNameStates : Type 0
MarksNameStates =
    (plan : Plan) (first : Moment) (later : List Moment) (messages front rest : List SubReply)
    (h : List Entry) → IsStreamRun plan first later messages h → messages ≡ front ++ rest →
    list_any is_sync front ≡ true → IsMarkedState plan first later front h

-- Of two marks of one stream the second was made by the turn of the first or a later one, at no older state;
-- these are how many later turns there are up to each.
pub record MarksRise (plan : Plan) (first : Moment) (later : List Moment)
    (front longer : List SubReply) (h : List Entry) (one two : ℕ) : Type 0 where
  pub turns : one ≤ two
  pub positions : (last_moment first (take one later)).position ≤
      (last_moment first (take two later)).position
  pub stamps : IsHistory h → last_stamp (turn_at plan.lines h first).view.stamp front ≤
      last_stamp (turn_at plan.lines h first).view.stamp longer

abbrev pub MarksDontFall : Type 0
MarksDontFall =
    (plan : Plan) (first : Moment) (later : List Moment) (front more : List SubReply)
    (h : List Entry) (mark : IsMarkedState plan first later front h)
    (next : IsMarkedState plan first later (front ++ more) h) →
    MarksRise plan first later front (front ++ more) h mark.turns next.turns

-- positions of a history with equal stamps are the same
abbrev pub StampsNamePositions : Type 0
StampsNamePositions =
    (h : List Entry) (one two : ℕ) → IsHistory h → one ≤ length h → two ≤ length h →
    stamp_of (take one h) ≡ stamp_of (take two h) → one ≡ two

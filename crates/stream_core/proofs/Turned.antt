-- A stream after a turn, by the parts that the turn found.
use Rattle.std.proofs.Common.{◌≡◌, ℕ, suc, List, [], ◌∷◌, length, Bool, true, false, refl, sym, ap, ◌∙◌, subst, max, filter, map, not, ◌&&◌, Some, None, if◌then◌else◌}
use Rattle.std.specs.List.{list_any}
use Rattle.base_kinds.specs.declared.operation.Row.{Row}
use Rattle.base_kinds.specs.declared.request.Note.{Note}
use Rattle.base_kinds.specs.declared.entry.View.{View}
use Rattle.base_kinds.specs.Step.{clamped_reading}
use Rattle.base_kinds.specs.Tree.{set_rows}
use Rattle.base_kinds.specs.Rising.{IsRising}
use Rattle.sub_plan.specs.declared.plan.Line.{Line}
use Rattle.sub_plan.specs.Groups.{group_of}
use Rattle.stream_laws.specs.declared.kinds.Beat.{Beat}
use Rattle.stream_laws.specs.declared.kinds.GroupState.{GroupState}
use Rattle.stream_laws.specs.declared.kinds.Mark.{Mark}
use Rattle.stream_laws.specs.Differences.{is_gone}
use Rattle.stream_laws.specs.Beats.{TurnInput, beats_from, some_due, is_due, beat_numbered, groups_after}
use Rattle.stream_laws.specs.Notes.{note_of, sent_after, is_sent, deletes, updates}
use Rattle.stream_laws.specs.Streams.{StreamView, turn_input_of, stream_after, mark_after}
use Rattle.stream_core.specs.inner.Kept.{moved_all}
use Rattle.stream_laws.proofs.Steps.{stays, note_at}
use Rattle.stream_core.proofs.Beating.{moved_from}
use Rattle.stream_laws.proofs.Kept.{rising_filter}
use Rattle.history_laws.proofs.Setting.{rising_sets}

abbrev pub stream_of : List Line → List GroupState → List Row → ℕ → ℕ → Mark → StreamView
stream_of lines states sent time since mark = record { lines = lines; sending = record { groups = states; sent = sent }; time = time; since = since; mark = mark }

abbrev pub judged : List Line → List GroupState → List Row → List Row → ℕ → TurnInput
judged lines states sent rows time = record { lines = lines; groups = states; sent = sent; rows = rows; time = time }

-- what a turn found: its time, the beats, and how the groups move on
pub record IsTurn (lines : List Line) (states : List GroupState) (sent : List Row) (last : ℕ) (now : ℕ) (view : View) (time : ℕ) (all : List Beat) (moved : List GroupState) : Type 0 where
  pub sent_rises : IsRising sent
  pub rows_rise : IsRising view.rows
  pub timed : time ≡ max (clamped_reading now) last
  pub found : all ≡ beats_from (judged lines states sent view.rows time) 0 states
  pub moved_on : moved ≡ moved_all time states all

no_note : (some : Bool) (note : Note) → some ≡ false → (if some then Some note else None) ≡ None
no_note some note is = ap (λ b. if b then Some note else None) is

a_note : (some : Bool) (note : Note) → some ≡ true → Some note ≡ (if some then Some note else None)
a_note some note is = sym (ap (λ b. if b then Some note else None) is)

-- the groups of the turn move on
groups_are : (lines : List Line) (states moved : List GroupState) (sent rows : List Row) (time : ℕ) (all : List Beat) → all ≡ beats_from (judged lines states sent rows time) 0 states → moved ≡ moved_all time states all → moved ≡ groups_after (judged lines states sent rows time)
groups_are lines states moved sent rows time all found made = made ∙ ap (moved_all time states) found ∙ moved_from (judged lines states sent rows time) 0 states

pub quiet_after : (lines : List Line) (states : List GroupState) (sent : List Row) (last since now : ℕ) (mark : Mark) (view : View) (time : ℕ) (all : List Beat) (moved : List GroupState) → IsTurn lines states sent last now view time all moved → list_any is_due all ≡ false → stream_of lines moved sent time view.stamp mark ≡ stream_after (stream_of lines states sent last since mark) now view
quiet_after lines states sent last since now mark view time all moved is none =
    let turn = judged lines states sent view.rows time in
    let quiet : some_due turn ≡ false = ap (list_any is_due) (sym is.found) ∙ none in
    let groups : moved ≡ groups_after turn = groups_are lines states moved sent view.rows time all is.found is.moved_on in
    let kept : sent ≡ sent_after turn = sym (stays turn (record { sent = is.sent_rises; rows = is.rows_rise }) quiet) in
    let marked : mark ≡ mark_after (note_of turn view.stamp) mark = sym (ap (λ n. mark_after n mark) (no_note (some_due turn) (note_at turn view.stamp) quiet)) in
    let here : stream_of lines moved sent time view.stamp mark ≡ stream_of lines (groups_after turn) (sent_after turn) time view.stamp (mark_after (note_of turn view.stamp) mark) = λ i. stream_of lines (groups i) (kept i) time view.stamp (marked i) in
    here ∙ ap (λ t. stream_of lines (groups_after (judged lines states sent view.rows t)) (sent_after (judged lines states sent view.rows t)) t view.stamp (mark_after (note_of (judged lines states sent view.rows t) view.stamp) mark)) is.timed

-- the Note that was made
pub record IsNoted (lines : List Line) (all : List Beat) (sent : List Row) (view : View) (note : Note) (left : List Row) : Type 0 where
  pub stamp : note.stamp ≡ view.stamp
  pub deletes : note.deletes ≡ map (λ (row : Row). row.path) (filter (λ (row : Row). is_due (beat_numbered all (group_of lines row.path)) && is_gone view.rows row) sent)
  pub updates : note.updates ≡ filter (λ (row : Row). is_sent (beat_numbered all (group_of lines row.path)) sent row) view.rows
  pub after : left ≡ set_rows (filter (λ (row : Row). is_due (beat_numbered all (group_of lines row.path))) view.rows) (filter (λ (row : Row). not (is_due (beat_numbered all (group_of lines row.path)))) sent)

pub said_now : (lines : List Line) (states : List GroupState) (sent : List Row) (last since now : ℕ) (mark : Mark) (view : View) (time : ℕ) (all : List Beat) (moved : List GroupState) (note : Note) (after : List Row) → IsTurn lines states sent last now view time all moved → IsNoted lines all sent view note after → list_any is_due all ≡ true → Some note ≡ note_of (turn_input_of (stream_of lines states sent last since mark) now view) view.stamp
said_now lines states sent last since now mark view time all moved note after is made some =
    let turn = judged lines states sent view.rows time in
    let due : some_due turn ≡ true = ap (list_any is_due) (sym is.found) ∙ some in
    let gone : note.deletes ≡ deletes turn = made.deletes ∙ ap (λ a. map (λ (row : Row). row.path) (filter (λ (row : Row). is_due (beat_numbered a (group_of lines row.path)) && is_gone view.rows row) sent)) is.found in
    let there : note.updates ≡ updates turn = made.updates ∙ ap (λ a. filter (λ (row : Row). is_sent (beat_numbered a (group_of lines row.path)) sent row) view.rows) is.found in
    let stamped : note.stamp ≡ view.stamp = made.stamp in
    let whole : note ≡ note_at turn view.stamp = λ i. record { stamp = stamped i; deletes = gone i; updates = there i } in
    ap Some whole ∙ a_note (some_due turn) (note_at turn view.stamp) due ∙ ap (λ t. note_of (judged lines states sent view.rows t) view.stamp) is.timed

pub due_after : (lines : List Line) (states : List GroupState) (sent : List Row) (last since now : ℕ) (mark : Mark) (view : View) (time : ℕ) (all : List Beat) (moved : List GroupState) (note : Note) (after : List Row) → IsTurn lines states sent last now view time all moved → IsNoted lines all sent view note after → list_any is_due all ≡ true → stream_of lines moved after time view.stamp (record { stamp = view.stamp; sync = false }) ≡ stream_after (stream_of lines states sent last since mark) now view
due_after lines states sent last since now mark view time all moved note after is made some =
    let turn = judged lines states sent view.rows time in
    let due : some_due turn ≡ true = ap (list_any is_due) (sym is.found) ∙ some in
    let groups : moved ≡ groups_after turn = groups_are lines states moved sent view.rows time all is.found is.moved_on in
    let kept : after ≡ sent_after turn = made.after ∙ ap (λ a. set_rows (filter (λ (row : Row). is_due (beat_numbered a (group_of lines row.path))) view.rows) (filter (λ (row : Row). not (is_due (beat_numbered a (group_of lines row.path)))) sent)) is.found in
    let marked : record { stamp = view.stamp; sync = false } ≡ mark_after (note_of turn view.stamp) mark = ap (λ n. mark_after n mark) (a_note (some_due turn) (note_at turn view.stamp) due) in
    let here : stream_of lines moved after time view.stamp (record { stamp = view.stamp; sync = false }) ≡ stream_of lines (groups_after turn) (sent_after turn) time view.stamp (mark_after (note_of turn view.stamp) mark) = λ i. stream_of lines (groups i) (kept i) time view.stamp (marked i) in
    here ∙ ap (λ t. stream_of lines (groups_after (judged lines states sent view.rows t)) (sent_after (judged lines states sent view.rows t)) t view.stamp (mark_after (note_of (judged lines states sent view.rows t) view.stamp) mark)) is.timed

-- and what it keeps
groups_length : (time : ℕ) (states : List GroupState) (all : List Beat) → length all ≡ length states → length all ≡ length (moved_all time states all)
groups_length time [] all room = room
groups_length time (state ∷ states) [] room = refl
groups_length time (state ∷ states) (one ∷ all) room = ap suc (groups_length time states all (cc room))

pub after_rises : (lines : List Line) (all : List Beat) (sent : List Row) (view : View) (note : Note) (left : List Row) → IsRising sent → IsNoted lines all sent view note left → IsRising left
after_rises lines all sent view note left rising made =
    let kept = rising_sets (filter (λ (row : Row). is_due (beat_numbered all (group_of lines row.path))) view.rows) (filter (λ (row : Row). not (is_due (beat_numbered all (group_of lines row.path)))) sent) (rising_filter (λ (row : Row). not (is_due (beat_numbered all (group_of lines row.path)))) sent rising) in
    subst IsRising (sym made.after) kept

-- At each mark the messages of a run fold to states of the history that aren't older than those of the mark before.
use Rattle.std.proofs.Common.{◌≡◌, ℕ, zero, suc, ◌≤◌, append-nil, List, [], ◌∷◌, ◌++◌, Bool, true, false, Some, slice_get, map, take, length, refl, sym, ap, ◌∙◌, arith, if◌then◌else◌}
use Rattle.std.specs.List.{list_any}
use Rattle.base_kinds.specs.declared.entry.Entry.{Entry}
use Rattle.base_kinds.specs.declared.entry.View.{View}
use Rattle.base_kinds.specs.History.{stamp_of}
use Rattle.gnmi_kinds.specs.declared.reply.SubReply.{SubReply}
use Rattle.sub_plan.specs.declared.plan.Group.{Group}
use Rattle.sub_plan.specs.declared.plan.GroupSort.TheVariants.{Change}
use Rattle.sub_plan.specs.declared.plan.Line.{Line}
use Rattle.sub_plan.specs.declared.plan.Plan.{Plan}
use Rattle.sub_plan.specs.Groups.{group_rows}
use Rattle.stream_laws.specs.Runs.{Moment, first_messages, Sending, GoOn, IsStreamRun, turn_at, sending_after}
use Rattle.stream_laws.specs.Folds.{FoldsToStates, IsMarkedState, last_stamp, last_moment, last_sending, is_due_then, is_sync, first_sending_at}
use Rattle.stream_laws.proofs.Marks.{marks_name_states}
use Rattle.stream_laws.proofs.Order.{marks_dont_fall}
use Rattle.program.specs.headline.Marks.{Mark, FoldsAtMarks, IsUpToMark, ReadsState, part_at, told_at, tree_at}
use Rattle.program.proofs.headline.Whole.{changes_are_states, groups_are_states}

older : (lines : List Line) (h : List Entry) (sending : Sending) (number most : ℕ) (last first : Moment) (moments : List Moment) → last.position ≤ first.position → GoOn most first.time first.position moments → (last_sending lines h sending number last moments).position ≤ (last_moment first moments).position
older lines h sending number most last first [] before go = before
older lines h sending number most last first (moment ∷ moments) before go =
    older lines h (sending_after lines sending (turn_at lines h moment)) number most (if is_due_then lines sending number (turn_at lines h moment) then moment else last) moment moments (by_test (is_due_then lines sending number (turn_at lines h moment))) go.3
  where
    by_test : (test : Bool) → (if test then moment else last).position ≤ moment.position
    by_test true = omega (arith)
    by_test false = let here = go.1 in omega (arith, here, before)

within : (most : ℕ) (first : Moment) (moments : List Moment) → first.position ≤ most → GoOn most first.time first.position moments → (last_moment first moments).position ≤ most
within most first [] inside go = inside
within most first (moment ∷ moments) inside go = within most moment moments go.2 go.3

no_lower : (most : ℕ) (first : Moment) (moments : List Moment) → GoOn most first.time first.position moments → first.position ≤ (last_moment first moments).position
no_lower most first [] go = omega (arith)
no_lower most first (moment ∷ moments) go =
    let here = go.1 in
    let later = no_lower most moment moments go.3 in
    omega (arith, here, later)

module _ (plan : Plan) (first : Moment) (later : List Moment) (messages : List SubReply) (h : List Entry) (run : IsStreamRun plan first later messages h) where
  marked : (front : List SubReply) → IsUpToMark messages front → IsMarkedState plan first later front h
  marked front is = marks_name_states plan first later messages front is.0.0 h run is.0.1 is.1

  at_mark : (front : List SubReply) → IsMarkedState plan first later front h → Mark plan h first.position front
  at_mark front state =
      let moments = take state.turns later in
      let last = last_moment first moments in
      record {
        position = last.position;
        inside = within (length h) first moments state.run.inside state.run.go_on;
        stamp = state.stamp;
        each = λ number. ((last_sending plan.lines h (first_sending_at plan h first) number first moments).position, older plan.lines h (first_sending_at plan h first) number (length h) first first moments (omega (arith)) state.run.go_on, state.folds.each number);
        whole = changes_are_states plan h first.position front last.position state.folds.nothing_else state.folds.changes;
        changes = state.folds.changes;
        nothing_else = state.folds.nothing_else;
      }

  folds_at_marks : (since : ℕ) → since ≤ first.position → FoldsAtMarks plan h since messages
  unfolding at_mark marked
  folds_at_marks since not_before = record {
    began = first.position;
    not_before = not_before;
    from_there = λ front is. let state = marked front is in no_lower (length h) first (take state.turns later) state.run.go_on;
    mark = λ front is. at_mark front (marked front is);
    rises = λ front more one two. (marks_dont_fall plan first later front more h (marked front one) (marked (front ++ more) two)).positions;
  }

pub marks_fold : (plan : Plan) (first : Moment) (later : List Moment) (messages : List SubReply) (h : List Entry) (since : ℕ) → since ≤ first.position → IsStreamRun plan first later messages h → FoldsAtMarks plan h since messages
marks_fold plan first later messages h since not_before run = folds_at_marks plan first later messages h run since not_before

-- ---- one read

pub no_later : {A : Type 0} (n : ℕ) (none : List A) → none ≡ [] → take n none ≡ []
no_later zero [] is = refl
no_later (suc n) [] is = refl
no_later n (a ∷ none) is = absurd (cc is)

begins_synced : (only : Bool) (view : View) → list_any is_sync (first_messages only view ++ []) ≡ true
begins_synced true view = refl
begins_synced false view = refl

module _ (plan : Plan) (first : Moment) (messages : List SubReply) (h : List Entry) (run : IsStreamRun plan first [] messages h) where
  is_synced : list_any is_sync messages ≡ true
  is_synced = ap (list_any is_sync) run.whole ∙ begins_synced plan.updates_only (turn_at plan.lines h first).view

  reads : (later : List Moment) → later ≡ [] → FoldsToStates plan first later messages h → last_stamp (turn_at plan.lines h first).view.stamp messages ≡ stamp_of (take (last_moment first later).position h) → ReadsState plan h first.position messages
  reads [] none folds stamp = record {
    synced = is_synced;
    stamp = stamp;
    state = groups_are_states plan h first.position messages first.position folds.nothing_else folds.each;
  }
  reads (moment ∷ later) none folds stamp = absurd (cc none)

  one_read : ReadsState plan h first.position messages
  one_read =
      let state = marks_name_states plan first [] messages messages [] h run (sym (append-nil messages)) is_synced in
      reads (take state.turns []) (no_later state.turns [] refl) state.folds state.stamp

pub reads_state : (plan : Plan) (first : Moment) (messages : List SubReply) (h : List Entry) → IsStreamRun plan first [] messages h → ReadsState plan h first.position messages
reads_state plan first messages h run = one_read plan first messages h run

-- Whole runs: what their messages fold to.
use Rattle.std.proofs.Common.{◌≡◌, ℕ, zero, suc, ◌+◌, List, [], ◌∷◌, ◌++◌, Bool, true, false, refl, sym, ap, ◌∙◌, true≢false, Option, Some, None, map, take, ◌||◌, is_some, if◌then◌else◌, slice_get, append_assoc, append-nil}
use Rattle.std.specs.List.{list_any}
use Rattle.base_kinds.specs.declared.path.Elem.{Elem}
use Rattle.base_kinds.specs.declared.operation.Row.{Row}
use Rattle.base_kinds.specs.declared.request.Note.{Note}
use Rattle.base_kinds.specs.declared.entry.Entry.{Entry}
use Rattle.base_kinds.specs.declared.entry.View.{View}
use Rattle.base_kinds.specs.Match.{covers}
use Rattle.base_kinds.specs.Parts.{is_covered, part}
use Rattle.base_kinds.specs.Tree.{set_rows}
use Rattle.base_kinds.specs.Rising.{IsRising, value_at}
use Rattle.history_laws.proofs.States.{rising_world}
use Rattle.history_laws.proofs.Setting.{rising_sets}
use Rattle.history_laws.proofs.Values.{value_at_filter, values_decide}
use Rattle.sub_plan.specs.declared.plan.Group.{Group}
use Rattle.sub_plan.specs.declared.plan.GroupSort.TheVariants.{Change}
use Rattle.sub_plan.specs.declared.plan.Line.{Line}
use Rattle.sub_plan.specs.declared.plan.Plan.{Plan}
use Rattle.sub_plan.specs.Groups.{group_of, is_group, group_rows, patterns_of}
use Rattle.stream_laws.specs.declared.kinds.Beat.{Beat}
use Rattle.stream_laws.specs.declared.kinds.Beat.TheVariants.{Quiet, Changes, All}
use Rattle.stream_laws.specs.declared.kinds.GroupState.{GroupState}
use Rattle.gnmi_kinds.specs.declared.reply.SubReply.{SubReply}
use Rattle.gnmi_kinds.specs.declared.reply.SubReply.TheVariants as replies
use Rattle.stream_laws.specs.Beats.{TurnInput, beat, beats, beat_numbered, is_due, some_due, moved_on, groups_from}
use Rattle.stream_laws.specs.Notes.{note_of, sent_after, rows_after_note, fold_notes}
use Rattle.stream_laws.specs.Runs.{Turn, Sending, started, turn_input, sending_after, sending_after_all, first_sending, first_messages, note_messages, turn_messages, later_messages, messages_of, Moment, turn_at, IsStreamRun}
use Rattle.stream_laws.specs.Folds.{notes_in, fold_of, is_due_then, is_due_last, last_sending, last_moment, tree_at, first_sending_at, FoldsToStates}
use Rattle.stream_laws.proofs.Kept.{or_else, rising_filter, value_at_rising}
use Rattle.stream_laws.proofs.Steps.{note_at, note_leads, stays, rising_after, value_after_turn}
use Rattle.stream_laws.proofs.Groups.{rising_own, value_at_own, own_after, changes_follow}

-- ---- one turn

pub quiet_stays : (turn_input : TurnInput) (stamp : ℕ) → IsRising turn_input.sent → IsRising turn_input.rows → note_of turn_input stamp ≡ None → sent_after turn_input ≡ turn_input.sent
quiet_stays turn_input stamp sent rows none = stays turn_input (record { sent = sent; rows = rows }) (by_test (some_due turn_input) none)
  where
    by_test : (some : Bool) → (if some then Some (note_at turn_input stamp) else None) ≡ None → some ≡ false
    by_test true is = absurd (true≢false (ap is_some is))
    by_test false is = refl

pub note_leads_on : (turn_input : TurnInput) (stamp : ℕ) (note : Note) → IsRising turn_input.sent → IsRising turn_input.rows → note_of turn_input stamp ≡ Some note → rows_after_note turn_input.sent note ≡ sent_after turn_input
note_leads_on turn_input stamp note sent rows is = by_test (some_due turn_input) is
  where
    by_test : (some : Bool) → (if some then Some (note_at turn_input stamp) else None) ≡ Some note → rows_after_note turn_input.sent note ≡ sent_after turn_input
    by_test true same =
        let note_is : note_at turn_input stamp ≡ note = cc same in
        ap (rows_after_note turn_input.sent) (sym note_is) ∙ note_leads turn_input (record { sent = sent; rows = rows })
    by_test false same = absurd (true≢false (sym (ap is_some same)))

-- the messages of one turn fold to what the subscriber has after it
said_leads : (lines : List Line) (sending : Sending) (turn : Turn) → IsRising sending.sent → IsRising turn.view.rows → fold_notes sending.sent (notes_in (turn_messages lines sending turn)) ≡ (sending_after lines sending turn).sent
said_leads lines sending turn sent rows = by_note (note_of (turn_input lines sending turn) turn.view.stamp) refl
  where
    by_note : (note : Option Note) → note_of (turn_input lines sending turn) turn.view.stamp ≡ note → fold_notes sending.sent (notes_in (note_messages note)) ≡ sent_after (turn_input lines sending turn)
    by_note None is = sym (quiet_stays (turn_input lines sending turn) turn.view.stamp sent rows is)
    by_note (Some note) is = note_leads_on (turn_input lines sending turn) turn.view.stamp note sent rows is

-- ---- many turns

notes_append : (xs ys : List SubReply) → notes_in (xs ++ ys) ≡ notes_in xs ++ notes_in ys
notes_append [] ys = refl
notes_append (replies.Note note ∷ xs) ys = ap (λ notes. note ∷ notes) (notes_append xs ys)
notes_append (replies.Sync ∷ xs) ys = notes_append xs ys

folded_append : (rows : List Row) (xs ys : List Note) → fold_notes rows (xs ++ ys) ≡ fold_notes (fold_notes rows xs) ys
folded_append rows [] ys = refl
folded_append rows (x ∷ xs) ys = folded_append (rows_after_note rows x) xs ys

abbrev TurnsRise : List Turn → Type 0
TurnsRise [] = Unit {0}
TurnsRise (turn ∷ turns) = IsRising turn.view.rows × TurnsRise turns

rising_turned : (lines : List Line) (sending : Sending) (turn : Turn) → IsRising sending.sent → IsRising turn.view.rows → IsRising (sending_after lines sending turn).sent
rising_turned lines sending turn sent rows = rising_after (turn_input lines sending turn) (record { sent = sent; rows = rows })

said_all_leads : (lines : List Line) (sending : Sending) (turns : List Turn) → IsRising sending.sent → TurnsRise turns → fold_notes sending.sent (notes_in (later_messages lines sending turns)) ≡ (sending_after_all lines sending turns).sent
said_all_leads lines sending [] sent rise = refl
said_all_leads lines sending (turn ∷ turns) sent rise =
    ap (fold_notes sending.sent) (notes_append (turn_messages lines sending turn) (later_messages lines (sending_after lines sending turn) turns))
    ∙ folded_append sending.sent (notes_in (turn_messages lines sending turn)) (notes_in (later_messages lines (sending_after lines sending turn) turns))
    ∙ ap (λ rows. fold_notes rows (notes_in (later_messages lines (sending_after lines sending turn) turns))) (said_leads lines sending turn sent rise.0)
    ∙ said_all_leads lines (sending_after lines sending turn) turns (rising_turned lines sending turn sent rise.0) rise.1

-- rising rows that are set in nothing stay
set_in_nothing : (rows : List Row) → IsRising rows → IsRising (set_rows rows []) → set_rows rows [] ≡ rows
set_in_nothing rows rising set = values_decide (set_rows rows []) rows set rising (λ path. value_at_rising path rows [] rising ∙ either (value_at path rows))
  where
    either : (value : Option _) → or_else value None ≡ value
    either None = refl
    either (Some value) = refl

nothing_rises : (rows : List Row) → rows ≡ [] → IsRising rows
unfolding Rattle.std.specs.List.Sorted.IsStrictlySortedBy
nothing_rises [] is = tt
nothing_rises (row ∷ rows) is = absurd (cc is)

opens : (only : Bool) (view : View) → IsRising view.rows → fold_notes (if only then view.rows else []) (notes_in (first_messages only view)) ≡ view.rows
opens true view rising = refl
opens false view rising = set_in_nothing view.rows rising (rising_sets view.rows [] (nothing_rises [] refl))

-- the messages of a run fold to what the stream has sent
pub run_folds : (plan : Plan) (first : Turn) (later : List Turn) → IsRising first.view.rows → TurnsRise later → fold_of plan first.view (messages_of plan first later) ≡ (sending_after_all plan.lines (first_sending plan.groups first) later).sent
run_folds plan first later rising rise =
    let start : List Row = if plan.updates_only then first.view.rows else [] in
    let said_later = later_messages plan.lines (first_sending plan.groups first) later in
    ap (fold_notes start) (notes_append (first_messages plan.updates_only first.view) said_later)
    ∙ folded_append start (notes_in (first_messages plan.updates_only first.view)) (notes_in said_later)
    ∙ ap (λ rows. fold_notes rows (notes_in said_later)) (opens plan.updates_only first.view rising)
    ∙ said_all_leads plan.lines (first_sending plan.groups first) later rising rise

-- ---- what stands at each group

-- a group's rows are among those that the lines cover
covered_in : (lines : List Line) (number : ℕ) (path : List Elem) → is_group (group_of lines path) number ≡ true → is_covered (patterns_of lines) path ≡ true
covered_in [] number path is = absurd (true≢false (sym is))
covered_in (line ∷ lines) number path is = by_test (covers line.pattern path) is (λ there. covered_in lines number path there)
  where
    by_test : (here : Bool) → is_group (if here then Some line.group else group_of lines path) number ≡ true → (is_group (group_of lines path) number ≡ true → is_covered (patterns_of lines) path ≡ true) → (here || is_covered (patterns_of lines) path) ≡ true
    by_test true there rest = refl
    by_test false there rest = rest there

pub own_part : (lines : List Line) (number : ℕ) (tree : List Row) → IsRising tree → group_rows lines number (part (patterns_of lines) tree) ≡ group_rows lines number tree
own_part lines number tree rising =
    values_decide (group_rows lines number (part (patterns_of lines) tree)) (group_rows lines number tree)
    (rising_own lines number (part (patterns_of lines) tree) (rising_filter (λ (row : Row). is_covered (patterns_of lines) row.path) tree rising))
    (rising_own lines number tree rising)
    (λ path. value_at_own lines number path (part (patterns_of lines) tree)
    ∙ ap (λ o. if is_group (group_of lines path) number then o else None) (value_at_filter (is_covered (patterns_of lines)) path tree)
    ∙ by_group path (is_group (group_of lines path) number) refl
    ∙ sym (value_at_own lines number path tree))
  where
    by_group : (path : List Elem) (inside : Bool) → is_group (group_of lines path) number ≡ inside → (if inside then (if is_covered (patterns_of lines) path then value_at path tree else None) else None) ≡ (if inside then value_at path tree else None)
    by_group path true is = ap (λ b. if b then value_at path tree else None) (covered_in lines number path is)
    by_group path false is = refl

pub rising_at : (lines : List Line) (h : List Entry) (moment : Moment) → IsRising (turn_at lines h moment).view.rows
rising_at lines h moment = rising_filter (λ (row : Row). is_covered (patterns_of lines) row.path) (tree_at h moment) (rising_world (take moment.position h))

pub rising_all : (lines : List Line) (h : List Entry) (moments : List Moment) → TurnsRise (map (turn_at lines h) moments)
rising_all lines h [] = tt
rising_all lines h (moment ∷ moments) = (rising_at lines h moment, rising_all lines h moments)

chosen_moment : (due : Bool) (lines : List Line) (h : List Entry) (number : ℕ) (moment last : Moment) → (if due then group_rows lines number (turn_at lines h moment).view.rows else group_rows lines number (turn_at lines h last).view.rows) ≡ group_rows lines number (turn_at lines h (if due then moment else last)).view.rows
chosen_moment true lines h number moment last = refl
chosen_moment false lines h number moment last = refl

-- a group has the rows of its last sending
sendings_hold : (lines : List Line) (h : List Entry) (sending : Sending) (number : ℕ) (last : Moment) (moments : List Moment) → IsRising sending.sent → group_rows lines number sending.sent ≡ group_rows lines number (turn_at lines h last).view.rows → group_rows lines number (sending_after_all lines sending (map (turn_at lines h) moments)).sent ≡ group_rows lines number (turn_at lines h (last_sending lines h sending number last moments)).view.rows
sendings_hold lines h sending number last [] rising is = is
sendings_hold lines h sending number last (moment ∷ moments) rising is =
    let turn = turn_at lines h moment in
    let due = is_due_then lines sending number turn in
    let here : group_rows lines number (sending_after lines sending turn).sent ≡ group_rows lines number (turn_at lines h (if due then moment else last)).view.rows =
    own_after (turn_input lines sending turn) number (record { sent = rising; rows = rising_at lines h moment })
    ∙ ap (λ rows. if due then group_rows lines number turn.view.rows else rows) is
    ∙ chosen_moment due lines h number moment last in
    sendings_hold lines h (sending_after lines sending turn) number (if due then moment else last) moments (rising_turned lines sending turn rising (rising_at lines h moment)) here

-- the group with the number sends changes
record IsChanges (groups : List GroupState) (number : ℕ) : Type 0 where
  state : GroupState
  there : slice_get groups number ≡ Some state
  sort : state.group.sort ≡ Change

started_there : (time number : ℕ) (groups : List Group) (group : Group) → slice_get groups number ≡ Some group → slice_get (map (started time) groups) number ≡ Some (started time group)
started_there time number [] group is = absurd (true≢false (sym (ap is_some is)))
started_there time zero (first ∷ groups) group is = ap (λ g. Some (started time g)) cc
started_there time (suc number) (first ∷ groups) group is = started_there time number groups group is

same_group : (time : ℕ) (beat : Beat) (state : GroupState) → (moved_on time beat state).group ≡ state.group
same_group time Quiet state = refl
same_group time Changes state = refl
same_group time All state = refl

changes_kept : (turn_input : TurnInput) (from number : ℕ) (states : List GroupState) → IsChanges states number → IsChanges (groups_from turn_input from states) number
changes_kept turn_input from number [] is = absurd (true≢false (sym (ap is_some is.there)))
changes_kept turn_input from zero (first ∷ states) is =
    let same : first ≡ is.state = let there = is.there in cc in
    record { state = moved_on turn_input.time (beat turn_input from first) first; there = refl; sort = ap (λ g. g.sort) (same_group turn_input.time (beat turn_input from first) first) ∙ ap (λ s. s.group.sort) same ∙ is.sort }
changes_kept turn_input from (suc number) (first ∷ states) is =
    let kept = changes_kept turn_input (from + 1) number states (record { state = is.state; there = is.there; sort = is.sort }) in
    record { state = kept.state; there = kept.there; sort = kept.sort }

changes_hold : (lines : List Line) (h : List Entry) (sending : Sending) (number : ℕ) (last : Moment) (moments : List Moment) → IsRising sending.sent → IsChanges sending.groups number → group_rows lines number sending.sent ≡ group_rows lines number (turn_at lines h last).view.rows → group_rows lines number (sending_after_all lines sending (map (turn_at lines h) moments)).sent ≡ group_rows lines number (turn_at lines h (last_moment last moments)).view.rows
changes_hold lines h sending number last [] rising changes is = is
changes_hold lines h sending number last (moment ∷ moments) rising changes is =
    let turn = turn_at lines h moment in
    let here = changes_follow (turn_input lines sending turn) number changes.state (record { sent = rising; rows = rising_at lines h moment }) changes.there changes.sort in
    changes_hold lines h (sending_after lines sending turn) number moment moments (rising_turned lines sending turn rising (rising_at lines h moment)) (changes_kept (turn_input lines sending turn) 0 number sending.groups changes) here

-- what no line covers has no row
abbrev NothingAt : List Line → List Row → Type 0
NothingAt lines rows = (path : List Elem) → is_covered (patterns_of lines) path ≡ false → value_at path rows ≡ None

no_group : (lines : List Line) (path : List Elem) → is_covered (patterns_of lines) path ≡ false → group_of lines path ≡ None
no_group [] path is = refl
no_group (line ∷ lines) path is = by_test (covers line.pattern path) is (λ none. no_group lines path none)
  where
    by_test : (here : Bool) → (here || is_covered (patterns_of lines) path) ≡ false → (is_covered (patterns_of lines) path ≡ false → group_of lines path ≡ None) → (if here then Some line.group else group_of lines path) ≡ None
    by_test true none rest = absurd (true≢false none)
    by_test false none rest = rest none

nothing_turned : (lines : List Line) (sending : Sending) (turn : Turn) → IsRising sending.sent → IsRising turn.view.rows → NothingAt lines sending.sent → NothingAt lines (sending_after lines sending turn).sent
nothing_turned lines sending turn sent rows nothing path none =
    value_after_turn (turn_input lines sending turn) path (record { sent = sent; rows = rows })
    ∙ ap (λ g. if is_due (beat_numbered (beats (turn_input lines sending turn)) g) then value_at path turn.view.rows else value_at path sending.sent) (no_group lines path none)
    ∙ nothing path none

nothing_all : (lines : List Line) (sending : Sending) (turns : List Turn) → IsRising sending.sent → TurnsRise turns → NothingAt lines sending.sent → NothingAt lines (sending_after_all lines sending turns).sent
nothing_all lines sending [] sent rise nothing = nothing
nothing_all lines sending (turn ∷ turns) sent rise nothing = nothing_all lines (sending_after lines sending turn) turns (rising_turned lines sending turn sent rise.0) rise.1 (nothing_turned lines sending turn sent rise.0 nothing)

rising_turned_all : (lines : List Line) (sending : Sending) (turns : List Turn) → IsRising sending.sent → TurnsRise turns → IsRising (sending_after_all lines sending turns).sent
rising_turned_all lines sending [] sent rise = sent
rising_turned_all lines sending (turn ∷ turns) sent rise = rising_turned_all lines (sending_after lines sending turn) turns (rising_turned lines sending turn sent rise.0) rise.1

all_covered : (lines : List Line) (rows : List Row) → IsRising rows → NothingAt lines rows → part (patterns_of lines) rows ≡ rows
all_covered lines rows rising nothing =
    values_decide (part (patterns_of lines) rows) rows (rising_filter (λ (row : Row). is_covered (patterns_of lines) row.path) rows rising) rising
    (λ path. value_at_filter (is_covered (patterns_of lines)) path rows ∙ by_test path (is_covered (patterns_of lines) path) refl)
  where
    by_test : (path : List Elem) (inside : Bool) → is_covered (patterns_of lines) path ≡ inside → (if inside then value_at path rows else None) ≡ value_at path rows
    by_test path true is = refl
    by_test path false is = sym (nothing path is)

-- a group that is due at the last turn has its last sending there
last_is : (lines : List Line) (h : List Entry) (due : Bool) (sending : Sending) (number : ℕ) (last current : Moment) (later : List Moment) → is_due_last lines h due sending number later ≡ true → last_sending lines h sending number (if due then current else last) later ≡ last_moment current later
last_is lines h due sending number last current [] is = ap (λ b. if b then current else last) is
last_is lines h due sending number last current (moment ∷ moments) is = last_is lines h (is_due_then lines sending number (turn_at lines h moment)) (sending_after lines sending (turn_at lines h moment)) number (if due then current else last) moment moments is

pub runs_fold : (plan : Plan) (first : Moment) (later : List Moment) (messages : List SubReply) (h : List Entry) → IsStreamRun plan first later messages h → FoldsToStates plan first later messages h
runs_fold plan first later messages h run =
    let lines = plan.lines in
    let begins = turn_at lines h first in
    let turns = map (turn_at lines h) later in
    let folds : fold_of plan begins.view messages ≡ (sending_after_all lines (first_sending plan.groups begins) turns).sent =
    ap (fold_of plan begins.view) run.whole ∙ run_folds plan begins turns (rising_at lines h first) (rising_all lines h later) in
    let of_tree : (number : ℕ) (moment : Moment) → group_rows lines number (turn_at lines h moment).view.rows ≡ group_rows lines number (tree_at h moment) =
    λ number moment. own_part lines number (tree_at h moment) (rising_world (take moment.position h)) in
    record {
      each = λ number. ap (group_rows lines number) folds ∙ sendings_hold lines h (first_sending plan.groups begins) number first later (rising_at lines h first) refl ∙ of_tree number (last_sending lines h (first_sending_at plan h first) number first later);
      due = λ number last.
          ap (group_rows lines number) folds ∙ sendings_hold lines h (first_sending plan.groups begins) number first later (rising_at lines h first) refl
          ∙ of_tree number (last_sending lines h (first_sending_at plan h first) number first later)
          ∙ ap (λ moment. group_rows lines number (tree_at h moment)) (last_is lines h true (first_sending_at plan h first) number first first later last);
      changes = λ number group there sort.
          ap (group_rows lines number) folds
          ∙ changes_hold lines h (first_sending plan.groups begins) number first later (rising_at lines h first) (record { state = started first.time group; there = started_there first.time number plan.groups group there; sort = sort }) refl
          ∙ of_tree number (last_moment first later);
      nothing_else =
          ap (part (patterns_of lines)) folds
          ∙ all_covered lines (sending_after_all lines (first_sending plan.groups begins) turns).sent
          (rising_turned_all lines (first_sending plan.groups begins) turns (rising_at lines h first) (rising_all lines h later))
          (nothing_all lines (first_sending plan.groups begins) turns (rising_at lines h first) (rising_all lines h later) (λ path none. value_at_filter (is_covered (patterns_of lines)) path (tree_at h first) ∙ ap (λ b. if b then value_at path (tree_at h first) else None) none))
          ∙ sym folds;
    }

-- ---- one turn more

said_more : (lines : List Line) (sending : Sending) (turns : List Turn) (turn : Turn) → later_messages lines sending (turns ++ turn ∷ []) ≡ later_messages lines sending turns ++ turn_messages lines (sending_after_all lines sending turns) turn
said_more lines sending [] turn = append-nil (turn_messages lines sending turn)
said_more lines sending (first ∷ turns) turn = ap (λ more. turn_messages lines sending first ++ more) (said_more lines (sending_after lines sending first) turns turn) ∙ sym (append_assoc (turn_messages lines sending first) (later_messages lines (sending_after lines sending first) turns) (turn_messages lines (sending_after_all lines (sending_after lines sending first) turns) turn))

pub runs_go_on : (plan : Plan) (first : Turn) (later : List Turn) (turn : Turn) → messages_of plan first (later ++ turn ∷ []) ≡ messages_of plan first later ++ turn_messages plan.lines (sending_after_all plan.lines (first_sending plan.groups first) later) turn
runs_go_on plan first later turn = ap (λ more. first_messages plan.updates_only first.view ++ more) (said_more plan.lines (first_sending plan.groups first) later turn) ∙ sym (append_assoc (first_messages plan.updates_only first.view) (later_messages plan.lines (first_sending plan.groups first) later) (turn_messages plan.lines (sending_after_all plan.lines (first_sending plan.groups first) later) turn))

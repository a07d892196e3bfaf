-- A stream's run goes on turn by turn.
use Rattle.std.proofs.Common.{◌≡◌, ℕ, ◌≤◌, List, [], ◌∷◌, ◌++◌, refl, sym, ap, ◌∙◌, arith, max, map, length, append-nil, Bool, true, false, Option, Some, None}
use Rattle.std.proofs.lemmas.List.{take-append-le, length-append}
use Rattle.base_kinds.specs.Events.{view_of}
use Rattle.sub_plan.specs.Groups.{patterns_of}
use Rattle.base_kinds.specs.declared.entry.Entry.{Entry}
use Rattle.base_kinds.specs.Step.{clamped_reading}
use Rattle.sub_plan.specs.declared.plan.Line.{Line}
use Rattle.sub_plan.specs.declared.plan.Plan.{Plan}
use Rattle.gnmi_kinds.specs.declared.reply.SubReply.{SubReply}
use Rattle.stream_laws.specs.Runs.{Turn, Sending, sending_after, sending_after_all, first_sending, turn_messages, messages_of, first_messages, note_messages, Moment, view_at, turn_at, GoOn, IsStreamRun}
use Rattle.stream_laws.specs.Folds.{fold_of, first_sending_at, last_moment}
use Rattle.stream_laws.specs.Notes.{note_of}
use Rattle.stream_laws.specs.declared.kinds.Mark.{Mark}
use Rattle.base_kinds.specs.declared.request.Note.{Note}
use Rattle.base_kinds.specs.declared.entry.View.{View}
use Rattle.gnmi_kinds.specs.declared.reply.SubReply.TheVariants as replies
use Rattle.stream_laws.specs.Streams.{StreamView, turn_input_of, stream_from, stream_after, mark_after, begins_with}
use Rattle.stream_laws.specs.Follows.{IsStreamAt, mark_behind, last_mark, first_moment, started_messages, moment_of, messages_at}
use Rattle.stream_laws.proofs.Runs.{runs_go_on, run_folds, rising_at, rising_all}

map_more : (lines : List Line) (h : List Entry) (moments : List Moment) (moment : Moment) → map (turn_at lines h) (moments ++ moment ∷ []) ≡ map (turn_at lines h) moments ++ turn_at lines h moment ∷ []
map_more lines h [] moment = refl
map_more lines h (first ∷ moments) moment = ap (λ rest. turn_at lines h first ∷ rest) (map_more lines h moments moment)

last_more : (first : Moment) (moments : List Moment) (moment : Moment) → last_moment first (moments ++ moment ∷ []) ≡ moment
last_more first [] moment = refl
last_more first (other ∷ moments) moment = last_more other moments moment

turned_more : (lines : List Line) (sending : Sending) (turns : List Turn) (turn : Turn) → sending_after_all lines sending (turns ++ turn ∷ []) ≡ sending_after lines (sending_after_all lines sending turns) turn
turned_more lines sending [] turn = refl
turned_more lines sending (first ∷ turns) turn = turned_more lines (sending_after lines sending first) turns turn

go_further : (most : ℕ) (first : Moment) (moments : List Moment) (moment : Moment) → GoOn most first.time first.position moments → moment.time ≡ max (clamped_reading moment.reading) (last_moment first moments).time → (last_moment first moments).position ≤ moment.position → moment.position ≤ most → GoOn most first.time first.position (moments ++ moment ∷ [])
go_further most first [] moment go time position inside = (time, position, inside, tt)
go_further most first (other ∷ moments) moment go time position inside = (go.0, go.1, go.2, go_further most other moments moment go.3 time position inside)

-- a notification more
mark_more : (mark : Mark) (messages : List SubReply) (note : Option Note) → mark_behind mark (messages ++ note_messages note) ≡ mark_after note (mark_behind mark messages)
mark_more mark [] None = refl
mark_more mark [] (Some note) = refl
mark_more mark (replies.Note one ∷ messages) note = mark_more (record { stamp = one.stamp; sync = false }) messages note
mark_more mark (replies.Sync ∷ messages) note = mark_more (record { stamp = mark.stamp; sync = true }) messages note

pub turns_go_on : (plan : Plan) (first : Moment) (later : List Moment) (messages : List SubReply) (h : List Entry) (stream : StreamView) (now position : ℕ) → IsStreamAt plan first later messages h stream → (last_moment first later).position ≤ position → position ≤ length h → IsStreamAt plan first (later ++ moment_of stream now position ∷ []) (messages ++ messages_at stream now (view_at plan.lines h position)) h (stream_after stream now (view_at plan.lines h position))
turns_go_on plan first later messages h stream now position at after inside =
    let lines = plan.lines in
    let moment = moment_of stream now position in
    let turns = map (turn_at lines h) later in
    let turn = turn_at lines h moment in
    let before = sending_after_all lines (first_sending_at plan h first) turns in
    let more : map (turn_at lines h) (later ++ moment ∷ []) ≡ turns ++ turn ∷ [] = map_more lines h later moment in
    let here : (l : List Line) (s : Sending) → List SubReply = λ l s. turn_messages l s turn in
    let says : turn_messages stream.lines stream.sending turn ≡ turn_messages lines before turn = ap (λ l. here l stream.sending) at.lines ∙ ap (here lines) at.sending in
    record {
      run = record {
        time = at.run.time;
        inside = at.run.inside;
        go_on = go_further (length h) first later moment at.run.go_on (ap (max (clamped_reading now)) at.time) after inside;
        whole = ap (λ m. m ++ turn_messages stream.lines stream.sending turn) at.run.whole ∙ ap (λ m. messages_of plan (turn_at lines h first) turns ++ m) says ∙ sym (runs_go_on plan (turn_at lines h first) turns turn) ∙ ap (messages_of plan (turn_at lines h first)) (sym more);
      };
      lines = at.lines;
      sending = ap (λ l. sending_after l stream.sending turn) at.lines ∙ ap (λ s. sending_after lines s turn) at.sending ∙ sym (turned_more lines (first_sending_at plan h first) turns turn) ∙ ap (sending_after_all lines (first_sending_at plan h first)) (sym more);
      time = ap (λ m. m.time) (sym (last_more first later moment));
      since = ap (λ m. (turn_at lines h m).view.stamp) (sym (last_more first later moment));
      mark = ap (mark_after (note_of (turn_input_of stream now turn.view) turn.view.stamp)) at.mark
          ∙ sym (mark_more (record { stamp = (turn_at lines h first).view.stamp; sync = true }) messages (note_of (turn_input_of stream now turn.view) turn.view.stamp));
    }

first_mark : (only : Bool) (view : View) → record { stamp = view.stamp; sync = true } ≡ last_mark view (first_messages only view)
first_mark true view = refl
first_mark false view = refl

pub runs_begin : (plan : Plan) (h : List Entry) (now position : ℕ) → position ≤ length h → IsStreamAt plan (first_moment now position) [] (first_messages plan.updates_only (view_at plan.lines h position)) h (stream_from plan now (view_at plan.lines h position))
runs_begin plan h now position inside = record {
  run = record {
    time = refl;
    inside = inside;
    go_on = tt;
    whole = sym (append-nil (first_messages plan.updates_only (view_at plan.lines h position)));
  };
  lines = refl;
  sending = refl;
  time = refl;
  since = refl;
  mark = first_mark plan.updates_only (view_at plan.lines h position);
}

pub starts_say : (plan : Plan) (view : View) → started_messages plan view ≡ first_messages plan.updates_only view
starts_say plan view = by_mode plan.updates_only
  where
    by_mode : (only : Bool) → note_messages (begins_with only view) ++ replies.Sync ∷ [] ≡ first_messages only view
    by_mode true = refl
    by_mode false = refl

-- what is shown at a position of a history stays when the history grows
same_turn : (lines : List Line) (h more : List Entry) (moment : Moment) → moment.position ≤ length h → turn_at lines (h ++ more) moment ≡ turn_at lines h moment
same_turn lines h more moment inside = ap (shown lines moment.time) (take-append-le moment.position h more inside)
  where
    shown : List Line → ℕ → List Entry → Turn
    shown lines time front = record { time = time; view = view_of front (patterns_of lines) }

same_turns : (lines : List Line) (h more : List Entry) (time position : ℕ) (moments : List Moment) → GoOn (length h) time position moments → map (turn_at lines (h ++ more)) moments ≡ map (turn_at lines h) moments
same_turns lines h more time position [] go = refl
same_turns lines h more time position (moment ∷ moments) go = ap (λ turn. turn ∷ map (turn_at lines (h ++ more)) moments) (same_turn lines h more moment go.2) ∙ ap (λ turns. turn_at lines h moment ∷ turns) (same_turns lines h more moment.time moment.position moments go.3)

same_last : (lines : List Line) (h more : List Entry) (first : Moment) (later : List Moment) → first.position ≤ length h → GoOn (length h) first.time first.position later → turn_at lines (h ++ more) (last_moment first later) ≡ turn_at lines h (last_moment first later)
same_last lines h more first [] inside go = same_turn lines h more first inside
same_last lines h more first (moment ∷ later) inside go = same_last lines h more moment later go.2 go.3

longer : (h more : List Entry) (position : ℕ) → position ≤ length h → position ≤ length (h ++ more)
longer h more position inside = let both = length-append h more in omega (arith, inside, both)

go_on_longer : (h more : List Entry) (time position : ℕ) (moments : List Moment) → GoOn (length h) time position moments → GoOn (length (h ++ more)) time position moments
go_on_longer h more time position [] go = tt
go_on_longer h more time position (moment ∷ moments) go = (go.0, go.1, longer h more moment.position go.2, go_on_longer h more moment.time moment.position moments go.3)

pub messages_stay : (plan : Plan) (first : Moment) (later : List Moment) (messages : List SubReply) (h more : List Entry) → IsStreamRun plan first later messages h → IsStreamRun plan first later messages (h ++ more)
messages_stay plan first later messages h more run =
    let lines = plan.lines in
    record {
      time = run.time;
      inside = longer h more first.position run.inside;
      go_on = go_on_longer h more first.time first.position later run.go_on;
      whole = run.whole ∙ ap (λ turn. messages_of plan turn (map (turn_at lines h) later)) (sym (same_turn lines h more first run.inside)) ∙ ap (messages_of plan (turn_at lines (h ++ more) first)) (sym (same_turns lines h more first.time first.position later run.go_on));
    }

pub runs_stay : (plan : Plan) (first : Moment) (later : List Moment) (messages : List SubReply) (h more : List Entry) (stream : StreamView) → IsStreamAt plan first later messages h stream → IsStreamAt plan first later messages (h ++ more) stream
runs_stay plan first later messages h more stream at =
    let lines = plan.lines in
    let one : turn_at lines (h ++ more) first ≡ turn_at lines h first = same_turn lines h more first at.run.inside in
    let all : map (turn_at lines (h ++ more)) later ≡ map (turn_at lines h) later = same_turns lines h more first.time first.position later at.run.go_on in
    record {
      run = messages_stay plan first later messages h more at.run;
      lines = at.lines;
      sending = at.sending ∙ ap (λ turn. sending_after_all lines (first_sending plan.groups turn) (map (turn_at lines h) later)) (sym one) ∙ ap (sending_after_all lines (first_sending_at plan (h ++ more) first)) (sym all);
      time = at.time;
      since = at.since ∙ ap (λ m. m.view.stamp) (sym (same_last lines h more first later at.run.inside at.run.go_on));
      mark = at.mark ∙ ap (λ m. last_mark m.view messages) (sym one);
    }

-- ---- what the stream has sent

pub streams_fold : (plan : Plan) (first : Moment) (later : List Moment) (messages : List SubReply) (h : List Entry) (stream : StreamView) → IsStreamAt plan first later messages h stream → fold_of plan (turn_at plan.lines h first).view messages ≡ stream.sending.sent
streams_fold plan first later messages h stream at =
    let lines = plan.lines in
    ap (fold_of plan (turn_at lines h first).view) at.run.whole
    ∙ run_folds plan (turn_at lines h first) (map (turn_at lines h) later) (rising_at lines h first) (rising_all lines h later)
    ∙ ap (λ s. s.sent) (sym at.sending)

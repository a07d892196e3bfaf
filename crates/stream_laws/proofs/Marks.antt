-- Messages that are cut off behind a mark.
use Rattle.std.proofs.Common.{◌≡◌, ℕ, ◌≤◌, arith, zero, suc, List, [], ◌∷◌, ◌++◌, Bool, true, false, refl, sym, ap, ◌∙◌, true≢false, Option, Some, None, take, map, length, ◌||◌, is_some, if◌then◌else◌}
use Rattle.std.proofs.lemmas.List.{length-map}
use Rattle.std.specs.List.{list_any}
use Rattle.base_kinds.specs.declared.request.Note.{Note}
use Rattle.base_kinds.specs.declared.entry.Entry.{Entry}
use Rattle.sub_plan.specs.declared.plan.Line.{Line}
use Rattle.sub_plan.specs.declared.plan.Plan.{Plan}
use Rattle.gnmi_kinds.specs.declared.reply.SubReply.{SubReply}
use Rattle.gnmi_kinds.specs.declared.reply.SubReply.TheVariants as replies
use Rattle.stream_laws.specs.Beats.{TurnInput, some_due}
use Rattle.stream_laws.specs.Notes.{note_of}
use Rattle.stream_laws.specs.Runs.{Turn, Sending, turn_input, sending_after, first_sending, first_note, first_messages, note_messages, turn_messages, later_messages, messages_of, Moment, turn_at, GoOn, IsStreamRun}
use Rattle.stream_laws.specs.Folds.{is_sync, ends_with_message, last_stamp, last_turn, last_moment, first_sending_at, IsMarked, IsMarkedState}
use Rattle.stream_laws.proofs.Steps.{note_at}
use Rattle.stream_laws.proofs.Runs.{runs_fold}

-- messages of later turns, cut off behind one: those of fewer turns, of which the last turn_messages the last message
record IsCut (lines : List Line) (says : Bool) (sending : Sending) (last : Turn) (turns : List Turn) (stamp : ℕ) (front : List SubReply) : Type 0 where
  number : ℕ
  inside : number ≤ length turns
  whole : front ≡ later_messages lines sending (take number turns)
  made : ends_with_message lines says sending (take number turns) ≡ true
  stamped : last_stamp stamp front ≡ (last_turn last (take number turns)).view.stamp

stamp_of_note : (turn_input : TurnInput) (stamp : ℕ) (note : Note) → note_of turn_input stamp ≡ Some note → note.stamp ≡ stamp
stamp_of_note turn_input stamp note is = by_test (some_due turn_input) is
  where
    by_test : (some : Bool) → (if some then Some (note_at turn_input stamp) else None) ≡ Some note → note.stamp ≡ stamp
    by_test true same = let note_is : note_at turn_input stamp ≡ note = cc same in ap (λ n. n.stamp) (sym note_is)
    by_test false same = absurd (true≢false (sym (ap is_some same)))

pub note_is_due : (turn_input : TurnInput) (stamp : ℕ) (note : Note) → note_of turn_input stamp ≡ Some note → some_due turn_input ≡ true
note_is_due turn_input stamp note is = by_test (some_due turn_input) is
  where
    by_test : (some : Bool) → (if some then Some (note_at turn_input stamp) else None) ≡ Some note → some ≡ true
    by_test true same = refl
    by_test false same = absurd (true≢false (sym (ap is_some same)))

none_inside : (most : ℕ) → 0 ≤ most
none_inside most = omega (arith)

nothing_said : {A : Type 0} (first : A) (front rest : List A) → [] ≡ (first ∷ front) ++ rest → ⊥
nothing_said first front rest is = cc is

-- one turn more in front
cut_later : (lines : List Line) (says : Bool) (sending : Sending) (last turn : Turn) (turns : List Turn) (before stamp : ℕ) (said_now front whole : List SubReply) → turn_messages lines sending turn ≡ said_now → whole ≡ said_now ++ front → last_stamp before whole ≡ last_stamp stamp front → IsCut lines (some_due (turn_input lines sending turn)) (sending_after lines sending turn) turn turns stamp front → IsCut lines says sending last (turn ∷ turns) before whole
cut_later lines say sending last turn turns before stamp said_now front whole says is told cut = record {
  number = suc cut.number;
  inside = let behind = cut.inside in omega (arith, behind);
  whole = is ∙ ap (λ now. now ++ front) (sym says) ∙ ap (λ more. turn_messages lines sending turn ++ more) cut.whole;
  made = cut.made;
  stamped = told ∙ cut.stamped;
}

cut_some : (lines : List Line) (says : Bool) (sending : Sending) (last : Turn) (turns : List Turn) (before : ℕ) (first : SubReply) (front rest : List SubReply) → later_messages lines sending turns ≡ (first ∷ front) ++ rest → IsCut lines says sending last turns before (first ∷ front)
cut_some lines says sending last [] before first front rest is = absurd (nothing_said first front rest is)
cut_some lines says sending last (turn ∷ turns) before first front rest is =
    by_note (note_of (turn_input lines sending turn) turn.view.stamp) refl is front refl
    (λ stamp one others more there. cut_some lines (some_due (turn_input lines sending turn)) (sending_after lines sending turn) turn turns stamp one others more there)
  where
    by_note : (note : Option Note) → note_of (turn_input lines sending turn) turn.view.stamp ≡ note → note_messages note ++ later_messages lines (sending_after lines sending turn) turns ≡ (first ∷ front) ++ rest → (others : List SubReply) → front ≡ others → ((stamp : ℕ) (one : SubReply) (others more : List SubReply) → later_messages lines (sending_after lines sending turn) turns ≡ (one ∷ others) ++ more → IsCut lines (some_due (turn_input lines sending turn)) (sending_after lines sending turn) turn turns stamp (one ∷ others)) → IsCut lines says sending last (turn ∷ turns) before (first ∷ front)
    by_note None none there others same behind = cut_later lines says sending last turn turns before before [] (first ∷ front) (first ∷ front) (ap note_messages none) refl refl (behind before first front rest there)
    by_note (Some note) some there [] same behind =
        let now : replies.Note note ≡ first = cc there in
        cut_later lines says sending last turn turns before note.stamp (replies.Note note ∷ []) [] (first ∷ front) (ap note_messages some) (λ i. sym now i ∷ same i) (ap (λ m. last_stamp before (m ∷ front)) (sym now) ∙ ap (last_stamp note.stamp) same)
        (record { number = 0; inside = none_inside (length turns); whole = refl; made = note_is_due (turn_input lines sending turn) turn.view.stamp note some; stamped = stamp_of_note (turn_input lines sending turn) turn.view.stamp note some })
    by_note (Some note) some there (one ∷ others) same behind =
        let now : replies.Note note ≡ first = cc there in
        let later : later_messages lines (sending_after lines sending turn) turns ≡ front ++ rest = cc there in
        cut_later lines says sending last turn turns before note.stamp (replies.Note note ∷ []) (one ∷ others) (first ∷ front) (ap note_messages some) (λ i. sym now i ∷ same i) (ap (λ m. last_stamp before (m ∷ front)) (sym now) ∙ ap (last_stamp note.stamp) same)
        (behind note.stamp one others rest (later ∙ ap (λ f. f ++ rest) same))

cut_any : (lines : List Line) (sending : Sending) (last : Turn) (turns : List Turn) (front rest : List SubReply) → later_messages lines sending turns ≡ front ++ rest → IsCut lines true sending last turns last.view.stamp front
cut_any lines sending last turns [] rest is = record { number = 0; inside = none_inside (length turns); whole = refl; made = refl; stamped = refl }
cut_any lines sending last turns (first ∷ front) rest is = cut_some lines true sending last turns last.view.stamp first front rest is

cut_none : (lines : List Line) (sending : Sending) (last : Turn) (turns : List Turn) (front rest : List SubReply) (is : later_messages lines sending turns ≡ front ++ rest) → front ≡ [] → (cut_any lines sending last turns front rest is).number ≡ 0
unfolding cut_any
cut_none lines sending last turns [] rest is none = refl
cut_none lines sending last turns (first ∷ front) rest is none = absurd (cc none)

-- nothing comes behind the sync
nothing_behind : (plan : Plan) (first : Turn) (front : List SubReply) → first_messages plan.updates_only first.view ++ front ≡ first_messages plan.updates_only first.view → front ≡ []
nothing_behind plan first front is = by_mode plan.updates_only is
  where
    by_mode : (only : Bool) → first_messages only first.view ++ front ≡ first_messages only first.view → front ≡ []
    by_mode true same = cc same
    by_mode false same = cc same

-- a front with a sync has the whole first_messages in it
pub marks_name_turns : (plan : Plan) (first : Turn) (later : List Turn) (front rest : List SubReply) → messages_of plan first later ≡ front ++ rest → list_any is_sync front ≡ true → IsMarked plan first later front
marks_name_turns plan first later front rest is sync = by_mode plan.updates_only refl front is sync
  where
    by_mode : (only : Bool) → plan.updates_only ≡ only → (whole : List SubReply) → first_messages only first.view ++ later_messages plan.lines (first_sending plan.groups first) later ≡ whole ++ rest → list_any is_sync whole ≡ true → IsMarked plan first later whole
    by_mode true mode [] there synced = absurd (true≢false (sym synced))
    by_mode true mode (one ∷ others) there synced =
        let head : replies.Sync ≡ one = cc there in
        let behind : later_messages plan.lines (first_sending plan.groups first) later ≡ others ++ rest = cc there in
        let cut = cut_any plan.lines (first_sending plan.groups first) first later others rest behind in
        record {
          turns = cut.number;
          inside = cut.inside;
          made = cut.made;
          sync = λ same. cut_none plan.lines (first_sending plan.groups first) first later others rest behind (nothing_behind plan first others (ap (λ m. first_messages m first.view ++ others) mode ∙ (λ i. head i ∷ others) ∙ same));
          whole = (λ i. sym head i ∷ cut.whole i) ∙ ap (λ m. first_messages m first.view ++ later_messages plan.lines (first_sending plan.groups first) (take cut.number later)) (sym mode);
          stamp = ap (λ m. last_stamp first.view.stamp (m ∷ others)) (sym head) ∙ cut.stamped;
        }
    by_mode false mode [] there synced = absurd (true≢false (sym synced))
    by_mode false mode (one ∷ []) there synced =
        let head : replies.Note (first_note first.view) ≡ one = cc there in
        absurd (true≢false (sym (ap (λ m. is_sync m || false) head ∙ synced)))
    by_mode false mode (one ∷ two ∷ others) there synced =
        let head : replies.Note (first_note first.view) ≡ one = cc there in
        let second : replies.Sync ≡ two = cc there in
        let behind : later_messages plan.lines (first_sending plan.groups first) later ≡ others ++ rest = cc there in
        let cut = cut_any plan.lines (first_sending plan.groups first) first later others rest behind in
        record {
          turns = cut.number;
          inside = cut.inside;
          made = cut.made;
          sync = λ same. cut_none plan.lines (first_sending plan.groups first) first later others rest behind (nothing_behind plan first others (ap (λ m. first_messages m first.view ++ others) mode ∙ (λ i. head i ∷ second i ∷ others) ∙ same));
          whole = (λ i. sym head i ∷ sym second i ∷ cut.whole i) ∙ ap (λ m. first_messages m first.view ++ later_messages plan.lines (first_sending plan.groups first) (take cut.number later)) (sym mode);
          stamp = ap (λ m. last_stamp first.view.stamp (m ∷ two ∷ others)) (sym head) ∙ ap (λ m. last_stamp first.view.stamp (m ∷ others)) (sym second) ∙ cut.stamped;
        }

-- ---- over a history

pub take_map : (lines : List Line) (h : List Entry) (n : ℕ) (moments : List Moment) → take n (map (turn_at lines h) moments) ≡ map (turn_at lines h) (take n moments)
take_map lines h zero moments = refl
take_map lines h (suc n) [] = refl
take_map lines h (suc n) (moment ∷ moments) = ap (λ rest. turn_at lines h moment ∷ rest) (take_map lines h n moments)

last_map : (lines : List Line) (h : List Entry) (first : Moment) (moments : List Moment) → last_turn (turn_at lines h first) (map (turn_at lines h) moments) ≡ turn_at lines h (last_moment first moments)
last_map lines h first [] = refl
last_map lines h first (moment ∷ moments) = last_map lines h moment moments

fewer_go_on : (most time position n : ℕ) (moments : List Moment) → GoOn most time position moments → GoOn most time position (take n moments)
fewer_go_on most time position zero moments go = tt
fewer_go_on most time position (suc n) [] go = tt
fewer_go_on most time position (suc n) (moment ∷ moments) go = (go.0, go.1, go.2, fewer_go_on most moment.time moment.position n moments go.3)

pub marks_name_states : (plan : Plan) (first : Moment) (later : List Moment) (messages front rest : List SubReply) (h : List Entry) → IsStreamRun plan first later messages h → messages ≡ front ++ rest → list_any is_sync front ≡ true → IsMarkedState plan first later front h
marks_name_states plan first later messages front rest h run cut sync =
    let lines = plan.lines in
    let marked = marks_name_turns plan (turn_at lines h first) (map (turn_at lines h) later) front rest (sym run.whole ∙ cut) sync in
    let n = marked.turns in
    let shorter : IsStreamRun plan first (take n later) front h = record {
      time = run.time;
      inside = run.inside;
      go_on = fewer_go_on (length h) first.time first.position n later run.go_on;
      whole = marked.whole ∙ ap (messages_of plan (turn_at lines h first)) (take_map lines h n later);
    } in
    record {
      turns = n;
      inside = let there = marked.inside in let same = length-map later (turn_at lines h) in omega (arith, there, same);
      run = shorter;
      made = ap (ends_with_message lines true (first_sending_at plan h first)) (sym (take_map lines h n later)) ∙ marked.made;
      sync = marked.sync;
      folds = runs_fold plan first (take n later) front h shorter;
      stamp = marked.stamp ∙ ap (λ turns. (last_turn (turn_at lines h first) turns).view.stamp) (take_map lines h n later) ∙ ap (λ turn. turn.view.stamp) (last_map lines h first (take n later));
    }

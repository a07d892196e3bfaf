-- The frames of a stream answer what was said on it.
use Rattle.std.proofs.Common.{inl, inr, ◌≡◌, ℕ, zero, suc, Bool, true, false, cond, not, List, [], ◌∷◌, ◌++◌, length, take, drop, map, ℤ, pos, ◌+ℤ◌, ◌-ℤ◌, refl, sym, ap, ◌∙◌, subst, append_assoc, append-nil}
use Rattle.std.specs.Prelude.{nat_eq, nat_lt, ◌==◌, ◌&&◌, ◌||◌, if◌then◌else◌, Option, Some, None}
use Rattle.std.specs.List.{AllByRecursion, list_any, insert, position_or_len}
use Rattle.std.proofs.lemmas.Bool.{eqb-true, eq-eqb}
use Rattle.std.proofs.lemmas.List.Elements.{filter-append}
use Rattle.base_kinds.specs.declared.refusal.Refusal.{Refusal}
use Rattle.grpc_core.specs.Messages.{framed}
use Rattle.h2_frame.specs.Frames.{Frame}
use Rattle.h2_windows.specs.Pacing.{is_data, is_data_on}
use Rattle.h2_windows.specs.Shares.{share}
use Rattle.h2_windows.specs.Sending.{sent, data_frame, data_frames, payloads_in, largest_payload}
use Rattle.h2_windows.specs.Streams.{AreRising, is_stream, new_stream, opened, without, granted}
use Rattle.h2_windows.specs.declared.stream.Stream.{Stream}
use Rattle.h2_windows.proofs.Rising.{once}
use Rattle.h2_send.specs.Headers.{opening, ending, status_answer}
use Rattle.h2_events.specs.Events.{opens, resets}
use Rattle.h2_events.specs.Items.{Item, written, said_on, can_say_after, is_last}
use Rattle.h2_events.specs.Items as item
use Rattle.h2_events.specs.declared.event.RecvEvent.{RecvEvent}
use Rattle.h2_events.specs.declared.event.RecvEvent.TheVariants as event
use Rattle.h2_events.specs.declared.said.Said.{Said}
use Rattle.h2_events.specs.declared.said.Said.TheVariants.{Message, Finish, Status}
use Rattle.h2_events.specs.declared.port.Ready.TheVariants.{Free}
use Rattle.h2_events.proofs.Orders.{written-append, written-wrote}
use Rattle.h2_send.specs.Inputs.{Input, Event, Speech, item_of, events_of}
use Rattle.h2_send.specs.Lines.{Line, first_line, told, with_increment}
use Rattle.h2_send.specs.Offers.{ready_on, has_begun, loaded, with_octets}
use Rattle.h2_send.specs.Acting.{replies, headers_for, first_frames, taken_in, handled}
use Rattle.h2_send.specs.Orders.{order_after}
use Rattle.h2_send.specs.Accepting.{IsAccepted, AreAccepted, IsOpenedOnce}
use Rattle.h2_send.specs.Messages.{waiting_on}
use Rattle.h2_send.specs.StreamFrames.{is_of_stream, frames_on, AreFirst, AreLast, IsAnswer}
use Rattle.h2_send.specs.Wires.{is_control}
use Rattle.h2_send.proofs.Orders.{written_input, said_again}
use Rattle.h2_send.proofs.Readiness.{there, not_there, ended_gone}
use Rattle.h2_send.proofs.Rising.{taken_rises, handled_rises}
use Rattle.h2_send.proofs.Sayable.{handled_is, input_is}
use Rattle.h2_send.proofs.Octets.{free_there, or_first, or_second, none_there, unopened, taken_waiting, handled_octets, without_own, apart, reset_there, one_said, words}

-- ---- frames of a stream among others

frames-append : (id : ℕ) (xs ys : List Frame) → frames_on id (xs ++ ys) ≡ frames_on id xs ++ frames_on id ys
frames-append id xs ys = filter-append (is_of_stream id) xs ys

abbrev StandOn : ℕ → List Frame → Type 0
StandOn on frames = AllByRecursion (λ (f : Frame). f.head.stream ≡ on) frames

and_false : (b : Bool) → (b && false) ≡ false
and_false true = refl
and_false false = refl

-- none is of another stream
none_of : (id on : ℕ) (frames : List Frame) → nat_eq on id ≡ false → StandOn on frames → frames_on id frames ≡ []
none_of id on [] differ all = refl
none_of id on (f ∷ frames) differ all =
    let not_here : is_of_stream id f ≡ false = ap (λ k. not (is_control f) && nat_eq k id) all.0 ∙ ap (λ b. not (is_control f) && b) differ ∙ and_false (not (is_control f)) in
    ap (λ b. cond b (f ∷ frames_on id frames) (frames_on id frames)) not_here ∙ none_of id on frames differ all.1

abbrev AreOf : ℕ → List Frame → Type 0
AreOf id frames = AllByRecursion (λ (f : Frame). is_of_stream id f ≡ true) frames

all_of : (id : ℕ) (frames : List Frame) → AreOf id frames → frames_on id frames ≡ frames
all_of id [] all = refl
all_of id (f ∷ frames) all = ap (λ b. cond b (f ∷ frames_on id frames) (frames_on id frames)) all.0 ∙ ap (λ (fs : List Frame). f ∷ fs) (all_of id frames all.1)

reply_frames : (id : ℕ) (e : RecvEvent) → frames_on id (replies e) ≡ []
reply_frames id (event.Settings initial resizes) = refl
reply_frames id event.SettingsAck = refl
reply_frames id (event.Ping octets) = refl
reply_frames id (event.Window on n) = refl
reply_frames id (event.Call on headers ends) = refl
reply_frames id (event.TooLong on) = refl
reply_frames id (event.Piece on octets zero ends) = refl
reply_frames id (event.Piece on octets (suc n) true) = refl
reply_frames id (event.Piece on octets (suc n) false) = refl
reply_frames id (event.Trailers on) = refl
reply_frames id (event.Reset on) = refl
reply_frames id (event.StreamFault on code) = refl
reply_frames id event.GoAway = refl

opening_stands : (on : ℕ) (begun owes : Bool) → StandOn on (opening begun owes on)
opening_stands on true owes = tt
opening_stands on false owes = (refl, tt)

ending_stands : (on : ℕ) (begun owes : Bool) (refusal : Option Refusal) → StandOn on (ending begun owes on refusal)
ending_stands on true owes refusal = (refl, tt)
ending_stands on false owes (Some refusal) = (refl, tt)
ending_stands on false owes None = (refl, (refl, tt))

headers_stand : (on : ℕ) (said : Said) (line : Line) → StandOn on (headers_for on said line)
headers_stand on (Message octets) line = opening_stands on (has_begun on line.streams) line.owes_update
headers_stand on (Finish refusal) line = ending_stands on (has_begun on line.streams) line.owes_update refusal
headers_stand on (Status status) line = (refl, tt)

opening_frames : (id : ℕ) (owes : Bool) → frames_on id (opening false owes id) ≡ opening false owes id
opening_frames id owes = all_of id (opening false owes id) (eq-eqb id id refl, tt)

ending_frames : (id : ℕ) (begun owes : Bool) (refusal : Option Refusal) → frames_on id (ending begun owes id refusal) ≡ ending begun owes id refusal
ending_frames id true owes refusal = all_of id (ending true owes id refusal) (eq-eqb id id refl, tt)
ending_frames id false owes (Some refusal) = all_of id (ending false owes id (Some refusal)) (eq-eqb id id refl, tt)
ending_frames id false owes None = all_of id (ending false owes id None) (eq-eqb id id refl, (eq-eqb id id refl, tt))

status_frames : (id : ℕ) (owes : Bool) (status : ℕ) → frames_on id (status_answer owes id status) ≡ status_answer owes id status
status_frames id owes status = all_of id (status_answer owes id status) (eq-eqb id id refl, tt)

-- ---- DATA

abbrev AllData : ℕ → List Frame → Type 0
AllData id frames = AllByRecursion (λ (f : Frame). is_data_on id f ≡ true) frames

all_both : {A : Type 0} (P : A → Type 0) (xs ys : List A) → AllByRecursion P xs → AllByRecursion P ys → AllByRecursion P (xs ++ ys)
all_both P [] ys all others = others
all_both P (x ∷ xs) ys all others = (all.0, all_both P xs ys all.1 others)

are_data : (on k : ℕ) (octets : List ℕ) → AllByRecursion (λ (f : Frame). is_data f ≡ true) (map (data_frame on) (payloads_in k octets))
are_data on zero octets = tt
are_data on (suc k) [] = tt
are_data on (suc k) (o ∷ octets) = (refl, are_data on k (drop largest_payload (o ∷ octets)))

stand_there : (on k : ℕ) (octets : List ℕ) → StandOn on (map (data_frame on) (payloads_in k octets))
stand_there on zero octets = tt
stand_there on (suc k) [] = tt
stand_there on (suc k) (o ∷ octets) = (refl, stand_there on k (drop largest_payload (o ∷ octets)))

sent_are_data : (initial : ℕ) (window : ℤ) (streams : List Stream) → AllByRecursion (λ (f : Frame). is_data f ≡ true) (sent initial window streams).frames
sent_are_data initial window [] = tt
sent_are_data initial window (s ∷ streams) =
    let n = share initial window s in
    all_both (λ (f : Frame). is_data f ≡ true) (data_frames s.id (take n s.pending)) (sent initial (window -ℤ pos n) streams).frames
    (are_data s.id (length (take n s.pending)) (take n s.pending)) (sent_are_data initial (window -ℤ pos n) streams)

and_second : (a b : Bool) → (a && b) ≡ true → b ≡ true
and_second true b is = is
and_second false b is = absurd cc

both_true : (a b : Bool) → a ≡ true → b ≡ true → (a && b) ≡ true
both_true true b one other = other
both_true false b one other = absurd cc

data_of : (id : ℕ) (frames : List Frame) → AllByRecursion (λ (f : Frame). is_data f ≡ true) frames → AllData id (frames_on id frames)
data_of id [] all = tt
data_of id (f ∷ frames) all = by (is_of_stream id f) refl (data_of id frames all.1)
  where
    by : (b : Bool) → is_of_stream id f ≡ b → AllData id (frames_on id frames) → AllData id (cond b (f ∷ frames_on id frames) (frames_on id frames))
    by true is rest = (both_true (is_data f) (nat_eq f.head.stream id) all.0 (and_second (not (is_control f)) (nat_eq f.head.stream id) is), rest)
    by false is rest = rest

abbrev sent_by : Line → List Frame
sent_by line = (sent line.initial line.window line.streams).frames

sent_data : (id : ℕ) (line : Line) → AllData id (frames_on id (sent_by line))
sent_data id line = data_of id (sent_by line) (sent_are_data line.initial line.window line.streams)

others_silent : (id initial : ℕ) (window : ℤ) (streams : List Stream) → AllByRecursion (λ t. nat_eq t.id id ≡ false) streams → frames_on id (sent initial window streams).frames ≡ []
others_silent id initial window [] all = refl
others_silent id initial window (s ∷ streams) all =
    let n = share initial window s in
    let first = data_frames s.id (take n s.pending) in
    let others = (sent initial (window -ℤ pos n) streams).frames in
    frames-append id first others
    ∙ ap (λ (fs : List Frame). fs ++ frames_on id others) (none_of id s.id first all.0 (stand_there s.id (length (take n s.pending)) (take n s.pending)))
    ∙ others_silent id initial (window -ℤ pos n) streams all.1

nothing_taken : (n : ℕ) (octets : List ℕ) → octets ≡ [] → take n octets ≡ []
nothing_taken zero octets is = refl
nothing_taken (suc n) octets is = ap (take (suc n)) is

-- where nothing waits on a stream no DATA goes out on it
silent_on : (id initial : ℕ) (window : ℤ) (streams : List Stream) → AreRising streams → waiting_on id streams ≡ [] → frames_on id (sent initial window streams).frames ≡ []
silent_on id initial window [] rise none = refl
silent_on id initial window (s ∷ streams) rise none =
    let n = share initial window s in
    let first = data_frames s.id (take n s.pending) in
    let others = (sent initial (window -ℤ pos n) streams).frames in
    frames-append id first others ∙ by (is_stream id s) refl none (silent_on id initial (window -ℤ pos n) streams rise.1)
  where
    by : (b : Bool) → is_stream id s ≡ b → cond b s.pending (waiting_on id streams) ≡ []
        → (waiting_on id streams ≡ [] → frames_on id (sent initial (window -ℤ pos (share initial window s)) streams).frames ≡ [])
        → frames_on id (data_frames s.id (take (share initial window s) s.pending)) ++ frames_on id (sent initial (window -ℤ pos (share initial window s)) streams).frames ≡ []
    by true is none rest =
        let n = share initial window s in
        ap (λ (os : List ℕ). frames_on id (data_frames s.id os) ++ frames_on id (sent initial (window -ℤ pos n) streams).frames) (nothing_taken n s.pending none)
        ∙ others_silent id initial (window -ℤ pos n) streams (subst (λ k. AllByRecursion (λ t. nat_eq t.id k ≡ false) streams) (eqb-true s.id id is) (once [] s streams rise).1)
    by false is none rest =
        let n = share initial window s in
        ap (λ (fs : List Frame). fs ++ frames_on id (sent initial (window -ℤ pos n) streams).frames) (none_of id s.id (data_frames s.id (take n s.pending)) is (stand_there s.id (length (take n s.pending)) (take n s.pending)))
        ∙ rest none

-- ---- whether HEADERS are sent

sent_begun : (id initial : ℕ) (window : ℤ) (streams : List Stream) → has_begun id (sent initial window streams).streams ≡ has_begun id streams
sent_begun id initial window [] = refl
sent_begun id initial window (s ∷ streams) = ap (λ b. (is_stream id s && s.begun) || b) (sent_begun id initial (window -ℤ pos (share initial window s)) streams)

insert_begun : (id on k : ℕ) (streams : List Stream) → has_begun id (insert streams k (new_stream on)) ≡ has_begun id streams
insert_begun id on zero streams = ap (λ b. b || has_begun id streams) (and_false (nat_eq on id))
insert_begun id on (suc k) [] = ap (λ b. b || false) (and_false (nat_eq on id))
insert_begun id on (suc k) (s ∷ streams) = ap (λ b. (is_stream id s && s.begun) || b) (insert_begun id on k streams)

opened_begun : (id on : ℕ) (streams : List Stream) → has_begun id (opened on streams) ≡ has_begun id streams
opened_begun id on streams = by (there on streams)
  where
    by : (b : Bool) → has_begun id (if b then streams else insert streams (position_or_len (λ s. nat_lt on s.id) streams) (new_stream on)) ≡ has_begun id streams
    by true = refl
    by false = insert_begun id on (position_or_len (λ s. nat_lt on s.id) streams) streams

without_begun : (id on : ℕ) (streams : List Stream) → nat_eq on id ≡ false → has_begun id (without on streams) ≡ has_begun id streams
without_begun id on [] differ = refl
without_begun id on (s ∷ streams) differ = by (is_stream on s) refl (without_begun id on streams differ)
  where
    by : (b : Bool) → is_stream on s ≡ b → has_begun id (without on streams) ≡ has_begun id streams → has_begun id (cond (not b) (s ∷ without on streams) (without on streams)) ≡ has_begun id (s ∷ streams)
    by true is rest = rest ∙ sym (ap (λ b. (b && s.begun) || has_begun id streams) (apart id on s differ is))
    by false is rest = ap (λ b. (is_stream id s && s.begun) || b) rest

granted_begun : (id on n : ℕ) (streams : List Stream) → has_begun id (granted on n streams) ≡ has_begun id streams
granted_begun id on n [] = refl
granted_begun id on n (s ∷ streams) = by (is_stream on s) (granted_begun id on n streams)
  where
    by : (b : Bool) → has_begun id (granted on n streams) ≡ has_begun id streams → has_begun id ((if b then record s { credit = s.credit +ℤ pos n } else s) ∷ granted on n streams) ≡ has_begun id (s ∷ streams)
    by true rest = ap (λ b. (is_stream id s && s.begun) || b) rest
    by false rest = ap (λ b. (is_stream id s && s.begun) || b) rest

increment_begun : (id on n : ℕ) (line : Line) → has_begun id (with_increment on n line).streams ≡ has_begun id line.streams
increment_begun id zero n line = refl
increment_begun id (suc on) n line = granted_begun id (suc on) n line.streams

event_begun : (id : ℕ) (e : RecvEvent) (line : Line) → resets id e ≡ false → has_begun id (told e line).streams ≡ has_begun id line.streams
event_begun id (event.Settings initial again) line keeps = refl
event_begun id event.SettingsAck line keeps = refl
event_begun id (event.Ping octets) line keeps = refl
event_begun id (event.Window on n) line keeps = increment_begun id on n line
event_begun id (event.Call on headers ends) line keeps = opened_begun id on line.streams
event_begun id (event.TooLong on) line keeps = opened_begun id on line.streams
event_begun id (event.Piece on octets size ends) line keeps = refl
event_begun id (event.Trailers on) line keeps = refl
event_begun id (event.Reset on) line keeps = without_begun id on line.streams keeps
event_begun id (event.StreamFault on code) line keeps = without_begun id on line.streams keeps
event_begun id event.GoAway line keeps = refl

loaded_begun : (id on : ℕ) (octets : List ℕ) (streams : List Stream) → nat_eq on id ≡ false → has_begun id (loaded on octets streams) ≡ has_begun id streams
loaded_begun id on octets [] differ = refl
loaded_begun id on octets (s ∷ streams) differ = by (is_stream on s) refl (loaded_begun id on octets streams differ)
  where
    by : (b : Bool) → is_stream on s ≡ b → has_begun id (loaded on octets streams) ≡ has_begun id streams → has_begun id (if b then with_octets octets s ∷ streams else s ∷ loaded on octets streams) ≡ has_begun id (s ∷ streams)
    by true is rest = ap (λ b. (b && true) || has_begun id streams) (apart id on s differ is) ∙ sym (ap (λ b. (b && s.begun) || has_begun id streams) (apart id on s differ is))
    by false is rest = ap (λ b. (is_stream id s && s.begun) || b) rest

begins : (id : ℕ) (octets : List ℕ) (streams : List Stream) → there id streams ≡ true → has_begun id (loaded id octets streams) ≡ true
begins id octets [] is = absurd cc
begins id octets (s ∷ streams) is = by (is_stream id s) refl is (begins id octets streams)
  where
    or_right : (a b : Bool) → b ≡ true → (a || b) ≡ true
    or_right true b is = refl
    or_right false b is = is

    by : (b : Bool) → is_stream id s ≡ b → (b || there id streams) ≡ true → (there id streams ≡ true → has_begun id (loaded id octets streams) ≡ true) → has_begun id (if b then with_octets octets s ∷ streams else s ∷ loaded id octets streams) ≡ true
    by true own is rest = ap (λ b. (b && true) || has_begun id streams) own
    by false own is rest = or_right (is_stream id s && s.begun) (has_begun id (loaded id octets streams)) (rest is)

spoken_begun : (id on : ℕ) (said : Said) (line : Line) → nat_eq on id ≡ false → has_begun id (taken_in (Speech on said) line).streams ≡ has_begun id line.streams
spoken_begun id on (Message octets) line differ = loaded_begun id on (framed octets) line.streams differ
spoken_begun id on (Finish refusal) line differ = without_begun id on line.streams differ
spoken_begun id on (Status status) line differ = without_begun id on line.streams differ

handled_begun : (id : ℕ) (input : Input) (line : Line) → has_begun id (handled input line).line.streams ≡ has_begun id (taken_in input line).streams
handled_begun id input line = let l = taken_in input line in sent_begun id l.initial l.window l.streams

unbegun_away : (id : ℕ) (streams : List Stream) → there id streams ≡ false → has_begun id streams ≡ false
unbegun_away id [] none = refl
unbegun_away id (s ∷ streams) none =
    ap (λ b. (b && s.begun) || has_begun id streams) (or_first (is_stream id s) (there id streams) none) ∙ unbegun_away id streams (or_second (is_stream id s) (there id streams) none)

-- ---- one input

abbrev said_in : ℕ → List Input → List Said
said_in id inputs = said_on id (map item_of inputs)

abbrev out : ℕ → Line → List Input → List Frame
out id line inputs = frames_on id (written (order_after line inputs))

frames_step : (id : ℕ) (line : Line) (input : Input) (inputs : List Input) → out id line (input ∷ inputs) ≡ frames_on id (first_frames input line) ++ frames_on id (sent_by (taken_in input line)) ++ out id (handled input line).line inputs
frames_step id line input inputs =
    let a = handled input line in
    let others = order_after a.line inputs in
    ap (λ (fs : List Frame). frames_on id fs) (written_input input (map item.Wrote a.frames ++ others) ∙ written-append (map item.Wrote a.frames) others ∙ ap (λ (fs : List Frame). fs ++ written others) (written-wrote a.frames))
    ∙ frames-append id a.frames (written others)
    ∙ ap (λ (fs : List Frame). fs ++ frames_on id (written others)) (frames-append id (first_frames input line) (sent_by (taken_in input line)))

-- not said on the stream
abbrev IsOther : ℕ → Input → Type 0
IsOther id (Event e) = Unit {0}
IsOther id (Speech on said) = nat_eq on id ≡ false

other_first : (id : ℕ) (input : Input) (line : Line) → IsOther id input → frames_on id (first_frames input line) ≡ []
other_first id (Event e) line other = reply_frames id e
other_first id (Speech on said) line differ = none_of id on (headers_for on said line) differ (headers_stand on said line)

other_said : (id : ℕ) (input : Input) (inputs : List Input) → IsOther id input → said_in id (input ∷ inputs) ≡ said_in id inputs
other_said id (Event e) inputs other = refl
other_said id (Speech on said) inputs differ = ap (λ b. if b then said ∷ said_in id inputs else said_in id inputs) differ

own_said : (id : ℕ) (said : Said) (inputs : List Input) → said_in id (Speech id said ∷ inputs) ≡ said ∷ said_in id inputs
own_said id said inputs = ap (λ b. if b then said ∷ said_in id inputs else said_in id inputs) (eq-eqb id id refl)

quiet : (id : ℕ) (input : Input) (line : Line) → AreRising line.streams → waiting_on id (taken_in input line).streams ≡ [] → frames_on id (sent_by (taken_in input line)) ≡ []
quiet id input line rise none =
    let l = taken_in input line in
    silent_on id l.initial l.window l.streams (taken_rises input line rise) none

-- an input by which nothing goes out on the stream
skipped : (id : ℕ) (line : Line) (input : Input) (inputs : List Input) → AreRising line.streams → IsOther id input → waiting_on id (taken_in input line).streams ≡ [] → out id line (input ∷ inputs) ≡ out id (handled input line).line inputs
skipped id line input inputs rise other none =
    frames_step id line input inputs
    ∙ ap (λ (fs : List Frame). fs ++ frames_on id (sent_by (taken_in input line)) ++ out id (handled input line).line inputs) (other_first id input line other)
    ∙ ap (λ (fs : List Frame). fs ++ out id (handled input line).line inputs) (quiet id input line rise none)

is_free : (on : ℕ) (said : Said) (line : Line) → IsAccepted (Speech on said) line → ready_on on line.streams ≡ Free
is_free on (Message octets) line is = is.0
is_free on (Finish refusal) line is = is
is_free on (Status status) line is = is.0

away_is_other : (id : ℕ) (input : Input) (line : Line) → there id line.streams ≡ false → IsAccepted input line → IsOther id input
away_is_other id (Event e) line away is = tt
away_is_other id (Speech on said) line away is = by (nat_eq on id) refl
  where
    by : (b : Bool) → nat_eq on id ≡ b → b ≡ false
    by true same =
        let here : there id line.streams ≡ true = subst (λ k. there k line.streams ≡ true) (eqb-true on id same) (free_there on line.streams (is_free on said line is)) in
        sym here ∙ away
    by false same = refl

-- the stream isn't there, and stays away
record IsAway (id : ℕ) (input : Input) (line : Line) : Type 0 where
  taken : there id (taken_in input line).streams ≡ false
  handled : there id (handled input line).line.streams ≡ false

stays_away : (id : ℕ) (input : Input) (line : Line) → there id line.streams ≡ false → can_say_after id false (item_of input) ≡ false → IsAway id input line
stays_away id input line away shut = record {
  taken = input_is id input line ∙ ap (λ b. can_say_after id b (item_of input)) away ∙ shut;
  handled = handled_is id input line ∙ ap (λ b. can_say_after id b (item_of input)) away ∙ shut;
}

-- ---- behind the end

record Nothing (id : ℕ) (line : Line) (inputs : List Input) : Type 0 where
  said : said_in id inputs ≡ []
  frames : out id line inputs ≡ []

closed_on : (id : ℕ) (line : Line) (inputs : List Input) → AreRising line.streams → AreAccepted line inputs → there id line.streams ≡ false → list_any (opens id) (events_of inputs) ≡ false → Nothing id line inputs
closed_on id line [] rise are away none = record { said = refl; frames = refl }
closed_on id line (input ∷ inputs) rise are away none =
    let (shut, later) = unopened id input inputs none in
    let stays = stays_away id input line away shut in
    let other = away_is_other id input line away are.0 in
    let rest = closed_on id (handled input line).line inputs (handled_rises input line rise) are.1 stays.handled later in
    record {
      said = other_said id input inputs other ∙ rest.said;
      frames = skipped id line input inputs rise other (none_there id (taken_in input line).streams stays.taken) ∙ rest.frames;
    }

-- a reset closes it
reset_away : (id : ℕ) (e : RecvEvent) (line : Line) → resets id e ≡ true → opens id e ≡ false → there id (handled (Event e) line).line.streams ≡ false
reset_away id e line is closed = handled_is id (Event e) line ∙ ap (λ b. b || (there id line.streams && not (resets id e))) closed ∙ shut (there id line.streams) (resets id e) is
  where
    shut : (before resets : Bool) → resets ≡ true → (before && not resets) ≡ false
    shut true true is = refl
    shut false true is = refl
    shut before false is = absurd cc

last_away : (id : ℕ) (line : Line) → there id (sent line.initial line.window (without id line.streams)).streams ≡ false
last_away id line = not_there id (sent line.initial line.window (without id line.streams)).streams (ended_gone id line.initial line.window line.streams)

-- ---- behind the first message

record Rest (id : ℕ) (begun : Bool) (said : List Said) (frames : List Frame) : Type 0 where
  body : List Frame
  last : List Frame
  are : frames ≡ body ++ last
  body_are : AllData id body
  last_are : AreLast id begun said last

more_data : (id : ℕ) (said others : List Said) (whole first more rest : List Frame) → whole ≡ first ++ more ++ rest → first ≡ [] → AllData id more → (said ≡ others) → Rest id true others rest → Rest id true said whole
more_data id said others whole first more rest are none sending same r = record {
  body = more ++ r.body;
  last = r.last;
  are = are ∙ ap (λ (fs : List Frame). fs ++ more ++ rest) none ∙ ap (λ (fs : List Frame). more ++ fs) r.are ∙ sym (append_assoc more r.body r.last);
  body_are = all_both (λ (f : Frame). is_data_on id f ≡ true) more r.body sending r.body_are;
  last_are = subst (λ (words : List Said). AreLast id true words r.last) (sym same) r.last_are;
}

-- the same behind a message
message_more : (id : ℕ) (octets : List ℕ) (said others : List Said) (whole first more rest : List Frame) → whole ≡ first ++ more ++ rest → first ≡ [] → AllData id more → said ≡ Message octets ∷ others → Rest id true others rest → Rest id true said whole
message_more id octets said others whole first more rest are none sending same r =
    let behind = more_data id others others whole first more rest are none sending refl r in
    record { body = behind.body; last = behind.last; are = behind.are; body_are = behind.body_are; last_are = subst (λ (words : List Said). AreLast id true words behind.last) (sym same) behind.last_are }

empty_rest : (id : ℕ) (begun : Bool) (said : List Said) (frames : List Frame) → said ≡ [] → frames ≡ [] → Rest id begun said frames
empty_rest id begun said frames words none = record { body = []; last = []; are = none; body_are = tt; last_are = subst (λ (said : List Said). AreLast id begun said []) (sym words) refl }

ended_by : (whole first more rest last : List Frame) → whole ≡ first ++ more ++ rest → first ≡ last → more ≡ [] → rest ≡ [] → whole ≡ last
ended_by whole first more rest last are is none nothing =
    are ∙ ap (λ (fs : List Frame). fs ++ more ++ rest) is ∙ ap (λ (fs : List Frame). last ++ fs ++ rest) none ∙ ap (λ (fs : List Frame). last ++ [] ++ fs) nothing
    ∙ append-nil (last ++ []) ∙ append-nil last

-- the line behind an input
abbrev after : Line → Input → Line
after line input = (handled input line).line

event_rest : (id : ℕ) (line : Line) (e : RecvEvent) (inputs : List Input) → AreRising line.streams → AreAccepted line (Event e ∷ inputs) → has_begun id line.streams ≡ true → list_any (opens id) (events_of (Event e ∷ inputs)) ≡ false
    → (has_begun id (after line (Event e)).streams ≡ true → Rest id true (said_in id inputs) (out id (after line (Event e)) inputs)) → Rest id true (said_in id (Event e ∷ inputs)) (out id line (Event e ∷ inputs))
event_rest id line e inputs rise are begun none rest = by (resets id e) refl
  where
    closed : opens id e ≡ false
    closed = or_first (opens id e) (list_any (opens id) (events_of inputs)) none

    later : list_any (opens id) (events_of inputs) ≡ false
    later = or_second (opens id e) (list_any (opens id) (events_of inputs)) none

    with_rest : Rest id true (said_in id inputs) (out id (after line (Event e)) inputs) → Rest id true (said_in id (Event e ∷ inputs)) (out id line (Event e ∷ inputs))
    with_rest r = more_data id (said_in id inputs) (said_in id inputs) _ _ _ _ (frames_step id line (Event e) inputs) (reply_frames id e) (sent_data id (taken_in (Event e) line)) refl r

    by : (b : Bool) → resets id e ≡ b → Rest id true (said_in id (Event e ∷ inputs)) (out id line (Event e ∷ inputs))
    by false is = with_rest (rest (handled_begun id (Event e) line ∙ event_begun id e line is ∙ begun))
    by true is =
        let n = closed_on id (after line (Event e)) inputs (handled_rises (Event e) line rise) are.1 (reset_away id e line is closed) later in
        with_rest (empty_rest id true (said_in id inputs) (out id (after line (Event e)) inputs) n.said n.frames)

own_rest : (id : ℕ) (line : Line) (said : Said) (inputs : List Input) → AreRising line.streams → AreAccepted line (Speech id said ∷ inputs) → has_begun id line.streams ≡ true → list_any (opens id) (events_of inputs) ≡ false
    → (has_begun id (after line (Speech id said)).streams ≡ true → Rest id true (said_in id inputs) (out id (after line (Speech id said)) inputs)) → Rest id true (said_in id (Speech id said ∷ inputs)) (out id line (Speech id said ∷ inputs))
own_rest id line (Message octets) inputs rise are begun none rest =
    message_more id octets (said_in id (Speech id (Message octets) ∷ inputs)) (said_in id inputs) _ _ _ _ (frames_step id line (Speech id (Message octets)) inputs)
    (ap (λ b. frames_on id (opening b line.owes_update id)) begun) (sent_data id (taken_in (Speech id (Message octets)) line)) (own_said id (Message octets) inputs)
    (rest (handled_begun id (Speech id (Message octets)) line ∙ begins id (framed octets) line.streams (free_there id line.streams are.0.0)))
own_rest id line (Finish refusal) inputs rise are begun none rest =
    let n = closed_on id (after line (Speech id (Finish refusal))) inputs (handled_rises (Speech id (Finish refusal)) line rise) are.1 (last_away id line) none in
    let last : List Frame = ending true line.owes_update id refusal in
    record {
      body = [];
      last = last;
      are = ended_by _ _ _ _ last (frames_step id line (Speech id (Finish refusal)) inputs)
          (ap (λ b. frames_on id (ending b line.owes_update id refusal)) begun ∙ ending_frames id true line.owes_update refusal)
          (quiet id (Speech id (Finish refusal)) line rise (without_own id line.streams)) n.frames;
      body_are = tt;
      last_are = subst (λ (words : List Said). AreLast id true words last) (sym (own_said id (Finish refusal) inputs)) (line.owes_update, refl, n.said);
    }
own_rest id line (Status status) inputs rise are begun none rest = absurd (let e : true ≡ false = sym begun ∙ are.0.1 in cc)

-- the same of a stream that turns out to be this one
speech_rest : (id on : ℕ) (line : Line) (said : Said) (inputs : List Input) → AreRising line.streams → AreAccepted line (Speech on said ∷ inputs) → has_begun id line.streams ≡ true → list_any (opens id) (events_of inputs) ≡ false
    → (has_begun id (after line (Speech on said)).streams ≡ true → Rest id true (said_in id inputs) (out id (after line (Speech on said)) inputs)) → Rest id true (said_in id (Speech on said ∷ inputs)) (out id line (Speech on said ∷ inputs))
speech_rest id on line said inputs rise are begun none rest = by (nat_eq on id) refl are rest
  where
    by : (b : Bool) → nat_eq on id ≡ b → AreAccepted line (Speech on said ∷ inputs)
        → (has_begun id (after line (Speech on said)).streams ≡ true → Rest id true (said_in id inputs) (out id (after line (Speech on said)) inputs)) → Rest id true (said_in id (Speech on said ∷ inputs)) (out id line (Speech on said ∷ inputs))
    by true same =
        subst (λ k. AreAccepted line (Speech k said ∷ inputs)
        → (has_begun id (after line (Speech k said)).streams ≡ true → Rest id true (said_in id inputs) (out id (after line (Speech k said)) inputs)) → Rest id true (said_in id (Speech k said ∷ inputs)) (out id line (Speech k said ∷ inputs)))
        (sym (eqb-true on id same)) (λ accepted others. own_rest id line said inputs rise accepted begun none others)
    by false differ =
        λ accepted others. more_data id (said_in id (Speech on said ∷ inputs)) (said_in id inputs) _ _ _ _ (frames_step id line (Speech on said) inputs) (other_first id (Speech on said) line differ) (sent_data id (taken_in (Speech on said) line)) (other_said id (Speech on said) inputs differ)
        (others (handled_begun id (Speech on said) line ∙ spoken_begun id on said line differ ∙ begun))

begun_on : (id : ℕ) (line : Line) (inputs : List Input) → AreRising line.streams → AreAccepted line inputs → has_begun id line.streams ≡ true → list_any (opens id) (events_of inputs) ≡ false → Rest id true (said_in id inputs) (out id line inputs)
begun_on id line [] rise are begun none = record { body = []; last = []; are = refl; body_are = tt; last_are = refl }
begun_on id line (Event e ∷ inputs) rise are begun none =
    event_rest id line e inputs rise are begun none (λ goes_on. begun_on id (after line (Event e)) inputs (handled_rises (Event e) line rise) are.1 goes_on (or_second (opens id e) (list_any (opens id) (events_of inputs)) none))
begun_on id line (Speech on said ∷ inputs) rise are begun none =
    speech_rest id on line said inputs rise are begun none (λ goes_on. begun_on id (after line (Speech on said)) inputs (handled_rises (Speech on said) line rise) are.1 goes_on none)

-- ---- before the first message

end_none : (xs ys : List ℕ) → xs ++ ys ≡ [] → ys ≡ []
end_none [] ys is = is
end_none (x ∷ xs) ys is = absurd cc

-- the stream is open, and nothing was said on it
record IsFresh (id : ℕ) (line : Line) : Type 0 where
  here : there id line.streams ≡ true
  unbegun : has_begun id line.streams ≡ false
  still : waiting_on id line.streams ≡ []

still_after : (id : ℕ) (input : Input) (line : Line) → AreRising line.streams → waiting_on id (taken_in input line).streams ≡ [] → waiting_on id (after line input).streams ≡ []
still_after id input line rise none = end_none _ (waiting_on id (after line input).streams) (handled_octets id input line rise ∙ none)

empty_answer : (id : ℕ) (said : List Said) (frames : List Frame) → said ≡ [] → frames ≡ [] → IsAnswer id said frames
empty_answer id said frames words none = record {
  first = [];
  body = [];
  last = [];
  are = none;
  first_are = subst (λ (said : List Said). AreFirst id said []) (sym words) refl;
  body_are = tt;
  last_are = subst (λ (said : List Said). AreLast id false said []) (sym words) refl;
}

same_answer : (id : ℕ) (said others : List Said) (frames rest : List Frame) → said ≡ others → frames ≡ rest → IsAnswer id others rest → IsAnswer id said frames
same_answer id said others frames rest words same a = record {
  first = a.first;
  body = a.body;
  last = a.last;
  are = same ∙ a.are;
  first_are = subst (λ (said : List Said). AreFirst id said a.first) (sym words) a.first_are;
  body_are = a.body_are;
  last_are = subst (λ (said : List Said). AreLast id false said a.last) (sym words) a.last_are;
}

event_fresh : (id : ℕ) (line : Line) (e : RecvEvent) → AreRising line.streams → IsAccepted (Event e) line → IsFresh id line → opens id e ≡ false → resets id e ≡ false → (waiting_on id (taken_in (Event e) line).streams ≡ []) × IsFresh id (after line (Event e))
event_fresh id line e rise accepted fresh closed keeps =
    let none : waiting_on id (taken_in (Event e) line).streams ≡ [] = taken_waiting id (Event e) line accepted (inl keeps) ∙ append-nil (waiting_on id line.streams) ∙ fresh.still in (
      none,
      record {
        here = handled_is id (Event e) line ∙ ap (λ b. b || (there id line.streams && not (resets id e))) closed ∙ ap (λ b. b && not (resets id e)) fresh.here ∙ ap not keeps;
        unbegun = handled_begun id (Event e) line ∙ event_begun id e line keeps ∙ fresh.unbegun;
        still = still_after id (Event e) line rise none;
      },
    )

event_answer : (id : ℕ) (line : Line) (e : RecvEvent) (inputs : List Input) → AreRising line.streams → AreAccepted line (Event e ∷ inputs) → IsFresh id line → list_any (opens id) (events_of (Event e ∷ inputs)) ≡ false
    → (IsFresh id (after line (Event e)) → IsAnswer id (said_in id inputs) (out id (after line (Event e)) inputs)) → IsAnswer id (said_in id (Event e ∷ inputs)) (out id line (Event e ∷ inputs))
event_answer id line e inputs rise are fresh none rest = by (resets id e) refl
  where
    closed : opens id e ≡ false
    closed = or_first (opens id e) (list_any (opens id) (events_of inputs)) none

    by : (b : Bool) → resets id e ≡ b → IsAnswer id (said_in id (Event e ∷ inputs)) (out id line (Event e ∷ inputs))
    by false keeps =
        let (silent, goes_on) = event_fresh id line e rise are.0 fresh closed keeps in
        same_answer id (said_in id inputs) (said_in id inputs) _ _ refl (skipped id line (Event e) inputs rise tt silent) (rest goes_on)
    by true is =
        let n = closed_on id (after line (Event e)) inputs (handled_rises (Event e) line rise) are.1 (reset_away id e line is closed) (or_second (opens id e) (list_any (opens id) (events_of inputs)) none) in
        empty_answer id (said_in id inputs) _ n.said (skipped id line (Event e) inputs rise tt (reset_there id e line is) ∙ n.frames)

own_answer : (id : ℕ) (line : Line) (said : Said) (inputs : List Input) → AreRising line.streams → AreAccepted line (Speech id said ∷ inputs) → IsFresh id line → list_any (opens id) (events_of inputs) ≡ false → IsAnswer id (said_in id (Speech id said ∷ inputs)) (out id line (Speech id said ∷ inputs))
own_answer id line (Message octets) inputs rise are fresh none =
    let first : List Frame = opening false line.owes_update id in
    let more : List Frame = frames_on id (sent_by (taken_in (Speech id (Message octets)) line)) in
    let begun : has_begun id (after line (Speech id (Message octets))).streams ≡ true = handled_begun id (Speech id (Message octets)) line ∙ begins id (framed octets) line.streams fresh.here in
    let r = begun_on id (after line (Speech id (Message octets))) inputs (handled_rises (Speech id (Message octets)) line rise) are.1 begun none in
    record {
      first = first;
      body = more ++ r.body;
      last = r.last;
      are = frames_step id line (Speech id (Message octets)) inputs
          ∙ ap (λ (fs : List Frame). fs ++ more ++ out id (after line (Speech id (Message octets))) inputs) (ap (λ b. frames_on id (opening b line.owes_update id)) fresh.unbegun ∙ opening_frames id line.owes_update)
          ∙ ap (λ (fs : List Frame). first ++ more ++ fs) r.are
          ∙ sym (append_assoc (first ++ more) r.body r.last)
          ∙ ap (λ (fs : List Frame). fs ++ r.last) (append_assoc first more r.body);
      first_are = subst (λ (words : List Said). AreFirst id words first) (sym (own_said id (Message octets) inputs)) (line.owes_update, refl);
      body_are = all_both (λ (f : Frame). is_data_on id f ≡ true) more r.body (sent_data id (taken_in (Speech id (Message octets)) line)) r.body_are;
      last_are = subst (λ (words : List Said). AreLast id false words r.last) (sym (own_said id (Message octets) inputs)) r.last_are;
    }
own_answer id line (Finish refusal) inputs rise are fresh none =
    let n = closed_on id (after line (Speech id (Finish refusal))) inputs (handled_rises (Speech id (Finish refusal)) line rise) are.1 (last_away id line) none in
    let last : List Frame = ending false line.owes_update id refusal in
    record {
      first = [];
      body = [];
      last = last;
      are = ended_by _ _ _ _ last (frames_step id line (Speech id (Finish refusal)) inputs)
          (ap (λ b. frames_on id (ending b line.owes_update id refusal)) fresh.unbegun ∙ ending_frames id false line.owes_update refusal)
          (quiet id (Speech id (Finish refusal)) line rise (without_own id line.streams)) n.frames;
      first_are = subst (λ (words : List Said). AreFirst id words []) (sym (own_said id (Finish refusal) inputs)) refl;
      body_are = tt;
      last_are = subst (λ (words : List Said). AreLast id false words last) (sym (own_said id (Finish refusal) inputs)) (line.owes_update, refl, n.said);
    }
own_answer id line (Status status) inputs rise are fresh none =
    let n = closed_on id (after line (Speech id (Status status))) inputs (handled_rises (Speech id (Status status)) line rise) are.1 (last_away id line) none in
    let last : List Frame = status_answer line.owes_update id status in
    record {
      first = [];
      body = [];
      last = last;
      are = ended_by _ _ _ _ last (frames_step id line (Speech id (Status status)) inputs)
          (status_frames id line.owes_update status) (quiet id (Speech id (Status status)) line rise (without_own id line.streams)) n.frames;
      first_are = subst (λ (words : List Said). AreFirst id words []) (sym (own_said id (Status status) inputs)) refl;
      body_are = tt;
      last_are = subst (λ (words : List Said). AreLast id false words last) (sym (own_said id (Status status) inputs)) (line.owes_update, refl, n.said);
    }

speech_fresh : (id on : ℕ) (line : Line) (said : Said) → AreRising line.streams → IsAccepted (Speech on said) line → IsFresh id line → nat_eq on id ≡ false → (waiting_on id (taken_in (Speech on said) line).streams ≡ []) × IsFresh id (after line (Speech on said))
speech_fresh id on line said rise accepted fresh differ =
    let none : waiting_on id (taken_in (Speech on said) line).streams ≡ [] =
    taken_waiting id (Speech on said) line accepted tt ∙ ap (λ b. waiting_on id line.streams ++ cond b (one_said said) []) differ ∙ append-nil (waiting_on id line.streams) ∙ fresh.still in (
      none,
      record {
        here = handled_is id (Speech on said) line ∙ ap (λ b. b && not ((on == id) && is_last said)) fresh.here ∙ ap (λ b. not (b && is_last said)) differ;
        unbegun = handled_begun id (Speech on said) line ∙ spoken_begun id on said line differ ∙ fresh.unbegun;
        still = still_after id (Speech on said) line rise none;
      },
    )

speech_answer : (id on : ℕ) (line : Line) (said : Said) (inputs : List Input) → AreRising line.streams → AreAccepted line (Speech on said ∷ inputs) → IsFresh id line → list_any (opens id) (events_of inputs) ≡ false
    → (IsFresh id (after line (Speech on said)) → IsAnswer id (said_in id inputs) (out id (after line (Speech on said)) inputs)) → IsAnswer id (said_in id (Speech on said ∷ inputs)) (out id line (Speech on said ∷ inputs))
speech_answer id on line said inputs rise are fresh none rest = by (nat_eq on id) refl
  where
    by : (b : Bool) → nat_eq on id ≡ b → IsAnswer id (said_in id (Speech on said ∷ inputs)) (out id line (Speech on said ∷ inputs))
    by true same =
        subst (λ k. AreAccepted line (Speech k said ∷ inputs) → IsAnswer id (said_in id (Speech k said ∷ inputs)) (out id line (Speech k said ∷ inputs)))
        (sym (eqb-true on id same)) (λ accepted. own_answer id line said inputs rise accepted fresh none) are
    by false differ =
        let (silent, goes_on) = speech_fresh id on line said rise are.0 fresh differ in
        same_answer id (said_in id (Speech on said ∷ inputs)) (said_in id inputs) _ _ (other_said id (Speech on said) inputs differ) (skipped id line (Speech on said) inputs rise differ silent) (rest goes_on)

unbegun_on : (id : ℕ) (line : Line) (inputs : List Input) → AreRising line.streams → AreAccepted line inputs → IsFresh id line → list_any (opens id) (events_of inputs) ≡ false → IsAnswer id (said_in id inputs) (out id line inputs)
unbegun_on id line [] rise are fresh none = empty_answer id [] [] refl refl
unbegun_on id line (Event e ∷ inputs) rise are fresh none =
    event_answer id line e inputs rise are fresh none (λ goes_on. unbegun_on id (after line (Event e)) inputs (handled_rises (Event e) line rise) are.1 goes_on (or_second (opens id e) (list_any (opens id) (events_of inputs)) none))
unbegun_on id line (Speech on said ∷ inputs) rise are fresh none =
    speech_answer id on line said inputs rise are fresh none (λ goes_on. unbegun_on id (after line (Speech on said)) inputs (handled_rises (Speech on said) line rise) are.1 goes_on none)

-- ---- before the stream is opened

opening_keeps : (id : ℕ) (e : RecvEvent) → opens id e ≡ true → resets id e ≡ false
opening_keeps id (event.Settings initial resizes) is = absurd cc
opening_keeps id event.SettingsAck is = absurd cc
opening_keeps id (event.Ping octets) is = absurd cc
opening_keeps id (event.Window on n) is = absurd cc
opening_keeps id (event.Call on headers ends) is = refl
opening_keeps id (event.TooLong on) is = refl
opening_keeps id (event.Piece on octets size ends) is = absurd cc
opening_keeps id (event.Trailers on) is = absurd cc
opening_keeps id (event.Reset on) is = absurd cc
opening_keeps id (event.StreamFault on code) is = absurd cc
opening_keeps id event.GoAway is = absurd cc

away_event : (id : ℕ) (line : Line) (e : RecvEvent) (inputs : List Input) → AreRising line.streams → AreAccepted line (Event e ∷ inputs) → there id line.streams ≡ false → IsOpenedOnce id (events_of (Event e ∷ inputs))
    → (there id (after line (Event e)).streams ≡ false → IsAnswer id (said_in id inputs) (out id (after line (Event e)) inputs)) → IsAnswer id (said_in id (Event e ∷ inputs)) (out id line (Event e ∷ inputs))
away_event id line e inputs rise are away once_only rest = by (opens id e) refl
  where
    none : waiting_on id (taken_in (Event e) line).streams ≡ []
    none = taken_waiting id (Event e) line are.0 (inr away) ∙ append-nil (waiting_on id line.streams) ∙ none_there id line.streams away

    by : (b : Bool) → opens id e ≡ b → IsAnswer id (said_in id (Event e ∷ inputs)) (out id line (Event e ∷ inputs))
    by true opened =
        let fresh : IsFresh id (after line (Event e)) = record {
          here = handled_is id (Event e) line ∙ ap (λ b. b || (there id line.streams && not (resets id e))) opened;
          unbegun = handled_begun id (Event e) line ∙ event_begun id e line (opening_keeps id e opened) ∙ unbegun_away id line.streams away;
          still = still_after id (Event e) line rise none;
        } in
        same_answer id (said_in id inputs) (said_in id inputs) _ _ refl (skipped id line (Event e) inputs rise tt none)
        (unbegun_on id (after line (Event e)) inputs (handled_rises (Event e) line rise) are.1 fresh (once_only.0 opened))
    by false closed =
        let stays = stays_away id (Event e) line away (ap (λ b. b || false) closed) in
        same_answer id (said_in id inputs) (said_in id inputs) _ _ refl (skipped id line (Event e) inputs rise tt none) (rest stays.handled)

unopened_on : (id : ℕ) (line : Line) (inputs : List Input) → AreRising line.streams → AreAccepted line inputs → there id line.streams ≡ false → IsOpenedOnce id (events_of inputs) → IsAnswer id (said_in id inputs) (out id line inputs)
unopened_on id line [] rise are away once_only = empty_answer id [] [] refl refl
unopened_on id line (Event e ∷ inputs) rise are away once_only =
    away_event id line e inputs rise are away once_only (λ stays. unopened_on id (after line (Event e)) inputs (handled_rises (Event e) line rise) are.1 stays once_only.1)
unopened_on id line (Speech on said ∷ inputs) rise are away once_only =
    let stays = stays_away id (Speech on said) line away refl in
    let differ = away_is_other id (Speech on said) line away are.0 in
    same_answer id (said_in id (Speech on said ∷ inputs)) (said_in id inputs) _ _ (other_said id (Speech on said) inputs differ)
    (skipped id line (Speech on said) inputs rise differ (none_there id (taken_in (Speech on said) line).streams stays.taken))
    (unopened_on id (after line (Speech on said)) inputs (handled_rises (Speech on said) line rise) are.1 stays.handled once_only)

-- What is written on a stream that is opened once is what answers what was said on it.
pub answered_on : (id : ℕ) (inputs : List Input) → AreAccepted first_line inputs → IsOpenedOnce id (events_of inputs) → IsAnswer id (said_on id (order_after first_line inputs)) (frames_on id (written (order_after first_line inputs)))
answered_on id inputs are once_only =
    subst (λ (words : List Said). IsAnswer id words (frames_on id (written (order_after first_line inputs)))) (sym (said_again id first_line inputs))
    (unopened_on id first_line inputs tt are refl once_only)

-- What goes out of the octets of a stream.
use Rattle.std.proofs.Common.{inl, inr, ◌≡◌, ◌≢◌, ◌⊎◌, ℕ, zero, suc, ◌≤◌, Bool, true, false, cond, not, List, [], ◌∷◌, ◌++◌, length, take, drop, map, ℤ, pos, ◌+ℤ◌, ◌-ℤ◌, refl, sym, ap, ◌∙◌, subst, arith, append_assoc, append-nil, length-drop, take-append-drop}
use Rattle.std.specs.Prelude.{nat_eq, nat_lt, ◌&&◌, ◌||◌, if◌then◌else◌, Option, Some, None}
use Rattle.std.specs.List.{AllByRecursion, list_any, insert, position_or_len}
use Rattle.std.proofs.lemmas.Bool.{eqb-true, eq-eqb, ltb-false}
use Rattle.base_kinds.specs.declared.refusal.Refusal.{Refusal}
use Rattle.grpc_core.specs.Messages.{framed}
use Rattle.h2_frame.specs.Frames.{Frame}
use Rattle.h2_windows.specs.Pacing.{is_data_on}
use Rattle.h2_windows.specs.Shares.{share}
use Rattle.h2_windows.specs.Sending.{sent, data_frame, data_frames, payloads_in, largest_payload}
use Rattle.h2_windows.specs.Streams.{AreRising, is_stream, new_stream, opened, without, granted}
use Rattle.h2_windows.specs.declared.stream.Stream.{Stream}
use Rattle.h2_windows.proofs.Rising.{once}
use Rattle.h2_send.specs.Headers.{opening, ending}
use Rattle.h2_events.specs.Events.{opens, resets}
use Rattle.h2_events.specs.Items.{Item, written, said_on, can_say_after}
use Rattle.h2_events.specs.Items as item
use Rattle.h2_events.specs.declared.event.RecvEvent.{RecvEvent}
use Rattle.h2_events.specs.declared.event.RecvEvent.TheVariants as event
use Rattle.h2_events.specs.declared.said.Said.{Said}
use Rattle.h2_events.specs.declared.said.Said.TheVariants.{Message, Finish, Status}
use Rattle.h2_events.specs.declared.port.Ready.TheVariants.{Free, Busy, Gone}
use Rattle.h2_events.proofs.Orders.{written-append, said_on-append, written-wrote, said_on-wrote}
use Rattle.h2_send.specs.Inputs.{Input, Event, Speech, item_of, events_of}
use Rattle.h2_send.specs.Lines.{Line, first_line, told, with_increment}
use Rattle.h2_send.specs.Offers.{ready_on, has_begun, waits, loaded, with_octets}
use Rattle.h2_send.specs.Acting.{replies, first_frames, taken_in, handled}
use Rattle.h2_send.specs.Orders.{line_after, order_after}
use Rattle.h2_send.specs.Accepting.{IsAccepted, AreAccepted, IsOpenedOnce}
use Rattle.h2_send.specs.Messages.{octets_said, data_on, waiting_on}
use Rattle.h2_send.proofs.Orders.{written_input}
use Rattle.h2_send.proofs.Readiness.{there}
use Rattle.h2_send.proofs.Rising.{taken_rises, handled_rises}
use Rattle.h2_send.proofs.Sayable.{handled_is, input_is}

-- ---- DATA among frames

data-append : (id : ℕ) (xs ys : List Frame) → data_on id (xs ++ ys) ≡ data_on id xs ++ data_on id ys
data-append id [] ys = refl
data-append id (f ∷ xs) ys = by (is_data_on id f) (data-append id xs ys)
  where
    by : (b : Bool) → data_on id (xs ++ ys) ≡ data_on id xs ++ data_on id ys → cond b (f.payload ++ data_on id (xs ++ ys)) (data_on id (xs ++ ys)) ≡ cond b (f.payload ++ data_on id xs) (data_on id xs) ++ data_on id ys
    by true rest = ap (λ (os : List ℕ). f.payload ++ os) rest ∙ sym (append_assoc f.payload (data_on id xs) (data_on id ys))
    by false rest = rest

-- the payloads of a stream's octets are these octets,
own_data : (id k : ℕ) (octets : List ℕ) → length octets ≤ k → data_on id (map (data_frame id) (payloads_in k octets)) ≡ octets
own_data id zero [] le = refl
own_data id zero (o ∷ octets) le = absurd (omega (arith, le))
own_data id (suc k) [] le = refl
own_data id (suc k) (o ∷ octets) le =
    let first : List ℕ = take largest_payload (o ∷ octets) in
    let rest : List ℕ = drop largest_payload (o ∷ octets) in
    let others : List ℕ = data_on id (map (data_frame id) (payloads_in k rest)) in
    ap (λ (b : Bool). cond b (first ++ others) others) (eq-eqb id id refl)
    ∙ ap (λ (os : List ℕ). first ++ os) (own_data id k rest (omega (arith, le, length-drop largest_payload (o ∷ octets))))
    ∙ take-append-drop largest_payload (o ∷ octets)

-- and no other stream's
other_data : (id on k : ℕ) (octets : List ℕ) → nat_eq on id ≡ false → data_on id (map (data_frame on) (payloads_in k octets)) ≡ []
other_data id on zero octets differ = refl
other_data id on (suc k) [] differ = refl
other_data id on (suc k) (o ∷ octets) differ =
    let first : List ℕ = take largest_payload (o ∷ octets) in
    let others : List ℕ = data_on id (map (data_frame on) (payloads_in k (drop largest_payload (o ∷ octets)))) in
    ap (λ (b : Bool). cond b (first ++ others) others) differ ∙ other_data id on k (drop largest_payload (o ∷ octets)) differ

reply_data : (id : ℕ) (e : RecvEvent) → data_on id (replies e) ≡ []
reply_data id (event.Settings initial resizes) = refl
reply_data id event.SettingsAck = refl
reply_data id (event.Ping octets) = refl
reply_data id (event.Window on n) = refl
reply_data id (event.Call on headers ends) = refl
reply_data id (event.TooLong on) = refl
reply_data id (event.Piece on octets zero ends) = refl
reply_data id (event.Piece on octets (suc n) true) = refl
reply_data id (event.Piece on octets (suc n) false) = refl
reply_data id (event.Trailers on) = refl
reply_data id (event.Reset on) = refl
reply_data id (event.StreamFault on code) = refl
reply_data id event.GoAway = refl

opening_data : (id on : ℕ) (begun owes : Bool) → data_on id (opening begun owes on) ≡ []
opening_data id on true owes = refl
opening_data id on false owes = refl

ending_data : (id on : ℕ) (begun owes : Bool) (refusal : Option Refusal) → data_on id (ending begun owes on refusal) ≡ []
ending_data id on true owes refusal = refl
ending_data id on false owes (Some refusal) = refl
ending_data id on false owes None = refl

first_data : (id : ℕ) (input : Input) (line : Line) → data_on id (first_frames input line) ≡ []
first_data id (Event e) line = reply_data id e
first_data id (Speech on (Message octets)) line = opening_data id on (has_begun on line.streams) line.owes_update
first_data id (Speech on (Finish refusal)) line = ending_data id on (has_begun on line.streams) line.owes_update refusal
first_data id (Speech on (Status status)) line = refl

-- ---- what the windows let through

others_send : (id initial : ℕ) (window : ℤ) (streams : List Stream) → AllByRecursion (λ t. nat_eq t.id id ≡ false) streams → data_on id (sent initial window streams).frames ≡ []
others_send id initial window [] all = refl
others_send id initial window (s ∷ streams) all =
    let n = share initial window s in
    let others = (sent initial (window -ℤ pos n) streams).frames in
    data-append id (data_frames s.id (take n s.pending)) others
    ∙ ap (λ (os : List ℕ). os ++ data_on id others) (other_data id s.id (length (take n s.pending)) (take n s.pending) all.0)
    ∙ others_send id initial (window -ℤ pos n) streams all.1

same_many : (n : ℕ) → n ≤ n
same_many n = omega arith

-- A stream's octets go out in order: what goes, and what waits then, is what waited.
sent_octets : (id initial : ℕ) (window : ℤ) (streams : List Stream) → AreRising streams → data_on id (sent initial window streams).frames ++ waiting_on id (sent initial window streams).streams ≡ waiting_on id streams
sent_octets id initial window [] rise = refl
sent_octets id initial window (s ∷ streams) rise =
    let n = share initial window s in
    let others = sent initial (window -ℤ pos n) streams in
    let first : List ℕ = take n s.pending in
    ap (λ (os : List ℕ). os ++ waiting_on id (sent initial window (s ∷ streams)).streams) (data-append id (data_frames s.id first) others.frames)
    ∙ by (is_stream id s) refl (sent_octets id initial (window -ℤ pos n) streams rise.1)
  where
    by : (b : Bool) → is_stream id s ≡ b
        → data_on id (sent initial (window -ℤ pos (share initial window s)) streams).frames ++ waiting_on id (sent initial (window -ℤ pos (share initial window s)) streams).streams ≡ waiting_on id streams
        → data_on id (data_frames s.id (take (share initial window s) s.pending)) ++ data_on id (sent initial (window -ℤ pos (share initial window s)) streams).frames
        ++ cond (is_stream id s) (drop (share initial window s) s.pending) (waiting_on id (sent initial (window -ℤ pos (share initial window s)) streams).streams)
        ≡ cond (is_stream id s) s.pending (waiting_on id streams)
    by true is rest =
        let n = share initial window s in
        let others = sent initial (window -ℤ pos n) streams in
        let first : List ℕ = take n s.pending in
        let own : data_on id (data_frames s.id first) ≡ first = ap (λ k. data_on k (data_frames s.id first)) (sym (eqb-true s.id id is)) ∙ own_data s.id (length first) first (same_many (length first)) in
        let none : data_on id others.frames ≡ [] = others_send id initial (window -ℤ pos n) streams (subst (λ k. AllByRecursion (λ t. nat_eq t.id k ≡ false) streams) (eqb-true s.id id is) (once [] s streams rise).1) in
        rw (is, own, none, append-nil first) (take-append-drop n s.pending)
    by false is rest =
        let n = share initial window s in
        let first : List ℕ = take n s.pending in
        rw (is, other_data id s.id (length first) first is) rest

-- ---- what waits on a stream

pub or_first : (a b : Bool) → (a || b) ≡ false → a ≡ false
or_first true b is = is
or_first false b is = refl

pub or_second : (a b : Bool) → (a || b) ≡ false → b ≡ false
or_second true b is = absurd cc
or_second false b is = is

pub none_there : (id : ℕ) (streams : List Stream) → there id streams ≡ false → waiting_on id streams ≡ []
none_there id [] none = refl
none_there id (s ∷ streams) none =
    ap (λ (b : Bool). cond b s.pending (waiting_on id streams)) (or_first (is_stream id s) (there id streams) none)
    ∙ none_there id streams (or_second (is_stream id s) (there id streams) none)

nothing_waits : (octets : List ℕ) → nat_lt 0 (length octets) ≡ false → octets ≡ []
nothing_waits [] is = refl
nothing_waits (o ∷ octets) is = absurd (omega (arith, ltb-false 0 (length (o ∷ octets)) is))

still : (id : ℕ) (streams : List Stream) → list_any (λ s. is_stream id s && waits s) streams ≡ false → waiting_on id streams ≡ []
still id [] none = refl
still id (s ∷ streams) none = by (is_stream id s) (or_first (is_stream id s && waits s) (list_any (λ s. is_stream id s && waits s) streams) none) (still id streams (or_second (is_stream id s && waits s) (list_any (λ s. is_stream id s && waits s) streams) none))
  where
    by : (b : Bool) → (b && waits s) ≡ false → waiting_on id streams ≡ [] → cond b s.pending (waiting_on id streams) ≡ []
    by true none rest = nothing_waits s.pending none
    by false none rest = rest

unless_busy : (w t : Bool) → ((if w then Busy else if t then Free else Gone) ≡ Busy → ⊥) → w ≡ false
unless_busy true t differs = absurd (differs refl)
unless_busy false t differs = refl

-- nothing waits on a stream that isn't busy
pub none_waits : (id : ℕ) (streams : List Stream) → ready_on id streams ≢ Busy → waiting_on id streams ≡ []
none_waits id streams differs = still id streams (unless_busy (list_any (λ s. is_stream id s && waits s) streams) (there id streams) differs)

pub free_waits : (id : ℕ) (streams : List Stream) → ready_on id streams ≡ Free → waiting_on id streams ≡ []
free_waits id streams is = none_waits id streams (λ busy. let same : Free ≡ Busy = sym is ∙ busy in absurd cc)

free_if : (w t : Bool) → (if w then Busy else if t then Free else Gone) ≡ Free → t ≡ true
free_if true t is = absurd cc
free_if false true is = refl
free_if false false is = absurd cc

pub free_there : (id : ℕ) (streams : List Stream) → ready_on id streams ≡ Free → there id streams ≡ true
free_there id streams is = free_if (list_any (λ s. is_stream id s && waits s) streams) (there id streams) is

-- ---- what an input makes of it

loaded_own : (id : ℕ) (octets : List ℕ) (streams : List Stream) → there id streams ≡ true → waiting_on id (loaded id octets streams) ≡ octets
loaded_own id octets [] is = absurd cc
loaded_own id octets (s ∷ streams) is = by (is_stream id s) refl is (loaded_own id octets streams)
  where
    by : (b : Bool) → is_stream id s ≡ b → (b || there id streams) ≡ true → (there id streams ≡ true → waiting_on id (loaded id octets streams) ≡ octets) → waiting_on id (if b then with_octets octets s ∷ streams else s ∷ loaded id octets streams) ≡ octets
    by true own is rest = ap (λ (c : Bool). cond c octets (waiting_on id streams)) own
    by false own is rest = ap (λ (c : Bool). cond c s.pending (waiting_on id (loaded id octets streams))) own ∙ rest is

pub apart : (id on : ℕ) (s : Stream) → nat_eq on id ≡ false → is_stream on s ≡ true → is_stream id s ≡ false
apart id on s differ is = ap (λ k. nat_eq k id) (eqb-true s.id on is) ∙ differ

loaded_other : (id on : ℕ) (octets : List ℕ) (streams : List Stream) → nat_eq on id ≡ false → waiting_on id (loaded on octets streams) ≡ waiting_on id streams
loaded_other id on octets [] differ = refl
loaded_other id on octets (s ∷ streams) differ = by (is_stream on s) refl (loaded_other id on octets streams differ)
  where
    by : (b : Bool) → is_stream on s ≡ b → waiting_on id (loaded on octets streams) ≡ waiting_on id streams → waiting_on id (if b then with_octets octets s ∷ streams else s ∷ loaded on octets streams) ≡ waiting_on id (s ∷ streams)
    by true is rest = ap (λ (c : Bool). cond c octets (waiting_on id streams)) (apart id on s differ is) ∙ sym (ap (λ (c : Bool). cond c s.pending (waiting_on id streams)) (apart id on s differ is))
    by false is rest = ap (λ (os : List ℕ). cond (is_stream id s) s.pending os) rest

pub without_own : (id : ℕ) (streams : List Stream) → waiting_on id (without id streams) ≡ []
without_own id [] = refl
without_own id (s ∷ streams) = by (is_stream id s) refl (without_own id streams)
  where
    by : (b : Bool) → is_stream id s ≡ b → waiting_on id (without id streams) ≡ [] → waiting_on id (cond (not b) (s ∷ without id streams) (without id streams)) ≡ []
    by true is rest = rest
    by false is rest = ap (λ (c : Bool). cond c s.pending (waiting_on id (without id streams))) is ∙ rest

without_other : (id on : ℕ) (streams : List Stream) → nat_eq on id ≡ false → waiting_on id (without on streams) ≡ waiting_on id streams
without_other id on [] differ = refl
without_other id on (s ∷ streams) differ = by (is_stream on s) refl (without_other id on streams differ)
  where
    by : (b : Bool) → is_stream on s ≡ b → waiting_on id (without on streams) ≡ waiting_on id streams → waiting_on id (cond (not b) (s ∷ without on streams) (without on streams)) ≡ waiting_on id (s ∷ streams)
    by true is rest = rest ∙ sym (ap (λ (c : Bool). cond c s.pending (waiting_on id streams)) (apart id on s differ is))
    by false is rest = ap (λ (os : List ℕ). cond (is_stream id s) s.pending os) rest

insert_waiting : (id on k : ℕ) (streams : List Stream) → (nat_eq on id ≡ true → there id streams ≡ false) → waiting_on id (insert streams k (new_stream on)) ≡ waiting_on id streams
insert_waiting id on zero streams new = by (nat_eq on id) refl
  where
    by : (b : Bool) → nat_eq on id ≡ b → cond b [] (waiting_on id streams) ≡ waiting_on id streams
    by true is = sym (none_there id streams (new is))
    by false is = refl
insert_waiting id on (suc k) [] new = by (nat_eq on id)
  where
    by : (b : Bool) → ◌≡◌ {A = List ℕ} (cond b [] []) []
    by true = refl
    by false = refl
insert_waiting id on (suc k) (s ∷ streams) new = ap (λ (os : List ℕ). cond (is_stream id s) s.pending os) (insert_waiting id on k streams (λ is. or_second (is_stream id s) (there id streams) (new is)))

opened_waiting : (id on : ℕ) (streams : List Stream) → waiting_on id (opened on streams) ≡ waiting_on id streams
opened_waiting id on streams = by (there on streams) refl
  where
    by : (b : Bool) → there on streams ≡ b → waiting_on id (if b then streams else insert streams (position_or_len (λ s. nat_lt on s.id) streams) (new_stream on)) ≡ waiting_on id streams
    by true is = refl
    by false is = insert_waiting id on (position_or_len (λ s. nat_lt on s.id) streams) streams (λ same. ap (λ k. there k streams) (sym (eqb-true on id same)) ∙ is)

granted_waiting : (id on n : ℕ) (streams : List Stream) → waiting_on id (granted on n streams) ≡ waiting_on id streams
granted_waiting id on n [] = refl
granted_waiting id on n (s ∷ streams) = by (is_stream on s) (granted_waiting id on n streams)
  where
    by : (b : Bool) → waiting_on id (granted on n streams) ≡ waiting_on id streams → waiting_on id ((if b then record s { credit = s.credit +ℤ pos n } else s) ∷ granted on n streams) ≡ waiting_on id (s ∷ streams)
    by true rest = ap (λ (os : List ℕ). cond (is_stream id s) s.pending os) rest
    by false rest = ap (λ (os : List ℕ). cond (is_stream id s) s.pending os) rest

increment_waiting : (id on n : ℕ) (line : Line) → waiting_on id (with_increment on n line).streams ≡ waiting_on id line.streams
increment_waiting id zero n line = refl
increment_waiting id (suc on) n line = granted_waiting id (suc on) n line.streams

-- the octets of one thing said
abbrev pub one_said : Said → List ℕ
one_said (Message octets) = framed octets
one_said (Finish refusal) = []
one_said (Status status) = []

said_first : (said : Said) (others : List Said) → octets_said (said ∷ others) ≡ one_said said ++ octets_said others
said_first (Message octets) others = refl
said_first (Finish refusal) others = refl
said_first (Status status) others = refl

-- the octets that an input says on a stream
abbrev pub words : ℕ → Input → List ℕ
words id (Event e) = []
words id (Speech on said) = cond (nat_eq on id) (one_said said) []

-- An input takes none of the octets that wait on a stream.
abbrev pub LosesNothing : ℕ → Input → Line → Type 0
LosesNothing id (Event e) line = (resets id e ≡ false) ⊎ (there id line.streams ≡ false)
LosesNothing id (Speech on said) line = Unit {0}

closed_waiting : (id on : ℕ) (line : Line) → (nat_eq on id ≡ false) ⊎ (there id line.streams ≡ false) → waiting_on id (without on line.streams) ≡ waiting_on id line.streams
closed_waiting id on line (inl differ) = without_other id on line.streams differ
closed_waiting id on line (inr none) = by (nat_eq on id) refl
  where
    by : (b : Bool) → nat_eq on id ≡ b → waiting_on id (without on line.streams) ≡ waiting_on id line.streams
    by true same = ap (λ k. waiting_on id (without k line.streams)) (eqb-true on id same) ∙ without_own id line.streams ∙ sym (none_there id line.streams none)
    by false differ = without_other id on line.streams differ

event_waiting : (id : ℕ) (e : RecvEvent) (line : Line) → LosesNothing id (Event e) line → waiting_on id (told e line).streams ≡ waiting_on id line.streams
event_waiting id (event.Settings initial resizes) line keeps = refl
event_waiting id event.SettingsAck line keeps = refl
event_waiting id (event.Ping octets) line keeps = refl
event_waiting id (event.Window on n) line keeps = increment_waiting id on n line
event_waiting id (event.Call on headers ends) line keeps = opened_waiting id on line.streams
event_waiting id (event.TooLong on) line keeps = opened_waiting id on line.streams
event_waiting id (event.Piece on octets size ends) line keeps = refl
event_waiting id (event.Trailers on) line keeps = refl
event_waiting id (event.Reset on) line keeps = closed_waiting id on line keeps
event_waiting id (event.StreamFault on code) line keeps = closed_waiting id on line keeps
event_waiting id event.GoAway line keeps = refl

spoken_waiting : (id on : ℕ) (octets : List ℕ) (streams : List Stream) → ready_on on streams ≡ Free → waiting_on id (loaded on octets streams) ≡ waiting_on id streams ++ cond (nat_eq on id) octets []
spoken_waiting id on octets streams free = by (nat_eq on id) refl
  where
    by : (b : Bool) → nat_eq on id ≡ b → waiting_on id (loaded on octets streams) ≡ waiting_on id streams ++ cond b octets []
    by true same =
        let own : waiting_on on (loaded on octets streams) ≡ octets = loaded_own on octets streams (free_there on streams free) in
        subst (λ k. waiting_on k (loaded on octets streams) ≡ waiting_on k streams ++ octets) (eqb-true on id same)
        (own ∙ sym (ap (λ (os : List ℕ). os ++ octets) (free_waits on streams free)))
    by false differ = loaded_other id on octets streams differ ∙ sym (append-nil (waiting_on id streams))

ended_waiting : (id on : ℕ) (streams : List Stream) → ready_on on streams ≡ Free → waiting_on id (without on streams) ≡ waiting_on id streams ++ cond (nat_eq on id) [] []
ended_waiting id on streams free = by (nat_eq on id) refl
  where
    by : (b : Bool) → nat_eq on id ≡ b → waiting_on id (without on streams) ≡ waiting_on id streams ++ cond b [] []
    by true same =
        subst (λ k. waiting_on k (without on streams) ≡ waiting_on k streams ++ []) (eqb-true on id same)
        (without_own on streams ∙ sym (ap (λ (os : List ℕ). os ++ []) (free_waits on streams free)))
    by false differ = without_other id on streams differ ∙ sym (append-nil (waiting_on id streams))

pub taken_waiting : (id : ℕ) (input : Input) (line : Line) → IsAccepted input line → LosesNothing id input line → waiting_on id (taken_in input line).streams ≡ waiting_on id line.streams ++ words id input
taken_waiting id (Event e) line is keeps = event_waiting id e line keeps ∙ sym (append-nil (waiting_on id line.streams))
taken_waiting id (Speech on (Message octets)) line is keeps = spoken_waiting id on (framed octets) line.streams is.0
taken_waiting id (Speech on (Finish refusal)) line is keeps = ended_waiting id on line.streams is
taken_waiting id (Speech on (Status status)) line is keeps = ended_waiting id on line.streams is.0

-- What goes out for an input, and what waits behind it, is what waits once the input is taken in.
pub handled_octets : (id : ℕ) (input : Input) (line : Line) → AreRising line.streams → data_on id (handled input line).frames ++ waiting_on id (handled input line).line.streams ≡ waiting_on id (taken_in input line).streams
handled_octets id input line rise =
    let l = taken_in input line in
    let s = sent l.initial l.window l.streams in
    ap (λ (os : List ℕ). os ++ waiting_on id s.streams) (data-append id (first_frames input line) s.frames ∙ ap (λ (os : List ℕ). os ++ data_on id s.frames) (first_data id input line))
    ∙ sent_octets id l.initial l.window l.streams (taken_rises input line rise)

-- ---- the order

abbrev said_in : ℕ → Line → List Input → List ℕ
said_in id line inputs = octets_said (said_on id (order_after line inputs))

abbrev gone_out : ℕ → Line → List Input → List ℕ
gone_out id line inputs = data_on id (written (order_after line inputs))

said_item : (id : ℕ) (input : Input) (items : List Item) → octets_said (said_on id (item_of input ∷ items)) ≡ words id input ++ octets_said (said_on id items)
said_item id (Event e) items = refl
said_item id (Speech on said) items = by (nat_eq on id)
  where
    by : (b : Bool) → octets_said (if b then said ∷ said_on id items else said_on id items) ≡ cond b (one_said said) [] ++ octets_said (said_on id items)
    by true = said_first said (said_on id items)
    by false = refl

said_step : (id : ℕ) (line : Line) (input : Input) (inputs : List Input) → said_in id line (input ∷ inputs) ≡ words id input ++ said_in id (handled input line).line inputs
said_step id line input inputs =
    let a = handled input line in
    let others = order_after a.line inputs in
    said_item id input (map item.Wrote a.frames ++ others)
    ∙ ap (λ (said : List Said). words id input ++ octets_said said) (said_on-append id (map item.Wrote a.frames) others ∙ ap (λ (said : List Said). said ++ said_on id others) (said_on-wrote id a.frames))

out_step : (id : ℕ) (line : Line) (input : Input) (inputs : List Input) → gone_out id line (input ∷ inputs) ≡ data_on id (handled input line).frames ++ gone_out id (handled input line).line inputs
out_step id line input inputs =
    let a = handled input line in
    let others = order_after a.line inputs in
    ap (λ (frames : List Frame). data_on id frames) (written_input input (map item.Wrote a.frames ++ others) ∙ written-append (map item.Wrote a.frames) others ∙ ap (λ (frames : List Frame). frames ++ written others) (written-wrote a.frames))
    ∙ data-append id a.frames (written others)

-- one input more in front
step : (id : ℕ) (line : Line) (input : Input) (inputs : List Input) (end : List ℕ) → AreRising line.streams → IsAccepted input line → LosesNothing id input line
    → waiting_on id (handled input line).line.streams ++ said_in id (handled input line).line inputs ≡ gone_out id (handled input line).line inputs ++ end
    → waiting_on id line.streams ++ said_in id line (input ∷ inputs) ≡ gone_out id line (input ∷ inputs) ++ end
step id line input inputs end rise is keeps rest =
    let a = handled input line in
    let w : List ℕ = waiting_on id line.streams in
    let d : List ℕ = data_on id a.frames in
    let said : List ℕ = said_in id a.line inputs in
    let out : List ℕ = gone_out id a.line inputs in
    ap (λ (os : List ℕ). w ++ os) (said_step id line input inputs)
    ∙ sym (append_assoc w (words id input) said)
    ∙ ap (λ (os : List ℕ). os ++ said) (sym (handled_octets id input line rise ∙ taken_waiting id input line is keeps))
    ∙ append_assoc d (waiting_on id a.line.streams) said
    ∙ ap (λ (os : List ℕ). d ++ os) rest
    ∙ sym (append_assoc d out end)
    ∙ ap (λ (os : List ℕ). os ++ end) (sym (out_step id line input inputs))

unreset : (id : ℕ) (line : Line) (input : Input) (inputs : List Input) → list_any (resets id) (events_of (input ∷ inputs)) ≡ false → LosesNothing id input line × (list_any (resets id) (events_of inputs) ≡ false)
unreset id line (Event e) inputs none = (inl (or_first (resets id e) (list_any (resets id) (events_of inputs)) none), or_second (resets id e) (list_any (resets id) (events_of inputs)) none)
unreset id line (Speech on said) inputs none = (tt, none)

-- All that was said on a stream that isn't reset has gone out, or waits.
all_goes : (id : ℕ) (line : Line) (inputs : List Input) → AreRising line.streams → AreAccepted line inputs → list_any (resets id) (events_of inputs) ≡ false
    → waiting_on id line.streams ++ said_in id line inputs ≡ gone_out id line inputs ++ waiting_on id (line_after line inputs).streams
all_goes id line [] rise are none = append-nil (waiting_on id line.streams)
all_goes id line (input ∷ inputs) rise are none =
    let (keeps, later) = unreset id line input inputs none in
    step id line input inputs (waiting_on id (line_after (handled input line).line inputs).streams) rise are.0 keeps
    (all_goes id (handled input line).line inputs (handled_rises input line rise) are.1 later)

pub all_said : (id : ℕ) (inputs : List Input) → AreAccepted first_line inputs → list_any (resets id) (events_of inputs) ≡ false
    → octets_said (said_on id (order_after first_line inputs)) ≡ data_on id (written (order_after first_line inputs)) ++ waiting_on id (line_after first_line inputs).streams
all_said id inputs are none = all_goes id first_line inputs tt are none

-- ---- a stream that was reset

pub none_left : (xs ys : List ℕ) → xs ++ ys ≡ [] → xs ≡ []
none_left [] ys is = refl
none_left (x ∷ xs) ys is = absurd cc

pub unopened : (id : ℕ) (input : Input) (inputs : List Input) → list_any (opens id) (events_of (input ∷ inputs)) ≡ false → (can_say_after id false (item_of input) ≡ false) × (list_any (opens id) (events_of inputs) ≡ false)
unopened id (Event e) inputs none = (by (opens id e) (or_first (opens id e) (list_any (opens id) (events_of inputs)) none), or_second (opens id e) (list_any (opens id) (events_of inputs)) none)
  where
    by : (b : Bool) → b ≡ false → (b || false) ≡ false
    by true is = is
    by false is = refl
unopened id (Speech on said) inputs none = (refl, none)

gone_words : (id : ℕ) (line : Line) (input : Input) → there id line.streams ≡ false → IsAccepted input line → words id input ≡ []
gone_words id line (Event e) none is = refl
gone_words id line (Speech on said) none is = by (nat_eq on id) refl
  where
    is_free : (said : Said) → IsAccepted (Speech on said) line → ready_on on line.streams ≡ Free
    is_free (Message octets) is = is.0
    is_free (Finish refusal) is = is
    is_free (Status status) is = is.0

    by : (b : Bool) → nat_eq on id ≡ b → cond b (one_said said) [] ≡ []
    by true same =
        let here : there id line.streams ≡ true = subst (λ k. there k line.streams ≡ true) (eqb-true on id same) (free_there on line.streams (is_free said is)) in
        absurd (let both : true ≡ false = sym here ∙ none in cc)
    by false same = refl

record SaysNothing (id : ℕ) (line : Line) (inputs : List Input) : Type 0 where
  said : said_in id line inputs ≡ []
  out : gone_out id line inputs ≡ []

-- On a stream that isn't there nothing is said, and no DATA goes out, until it is opened.
stays_silent : (id : ℕ) (line : Line) (inputs : List Input) → AreRising line.streams → there id line.streams ≡ false → AreAccepted line inputs → list_any (opens id) (events_of inputs) ≡ false → SaysNothing id line inputs
stays_silent id line [] rise none are closed = record { said = refl; out = refl }
stays_silent id line (input ∷ inputs) rise none are closed =
    let a = handled input line in
    let (silent, later) = unopened id input inputs closed in
    let away : there id a.line.streams ≡ false = handled_is id input line ∙ ap (λ b. can_say_after id b (item_of input)) none ∙ silent in
    let taken : there id (taken_in input line).streams ≡ false = input_is id input line ∙ ap (λ b. can_say_after id b (item_of input)) none ∙ silent in
    let rest = stays_silent id a.line inputs (handled_rises input line rise) away are.1 later in
    let no_data : data_on id a.frames ≡ [] = none_left (data_on id a.frames) (waiting_on id a.line.streams) (handled_octets id input line rise ∙ none_there id (taken_in input line).streams taken) in
    record {
      said = said_step id line input inputs ∙ ap (λ (os : List ℕ). os ++ said_in id a.line inputs) (gone_words id line input none are.0) ∙ rest.said;
      out = out_step id line input inputs ∙ ap (λ (os : List ℕ). os ++ gone_out id a.line inputs) no_data ∙ rest.out;
    }

-- what has gone out is a front of what was said
abbrev IsFront : ℕ → Line → List Input → Type 0
IsFront id line inputs = (end : List ℕ) × (waiting_on id line.streams ++ said_in id line inputs ≡ gone_out id line inputs ++ end)

pub reset_there : (id : ℕ) (e : RecvEvent) (line : Line) → resets id e ≡ true → waiting_on id (told e line).streams ≡ []
reset_there id (event.Settings initial resizes) line is = absurd cc
reset_there id event.SettingsAck line is = absurd cc
reset_there id (event.Ping octets) line is = absurd cc
reset_there id (event.Window on n) line is = absurd cc
reset_there id (event.Call on headers ends) line is = absurd cc
reset_there id (event.TooLong on) line is = absurd cc
reset_there id (event.Piece on octets size ends) line is = absurd cc
reset_there id (event.Trailers on) line is = absurd cc
reset_there id (event.Reset on) line is = ap (λ k. waiting_on id (without k line.streams)) (eqb-true on id is) ∙ without_own id line.streams
reset_there id (event.StreamFault on code) line is = ap (λ k. waiting_on id (without k line.streams)) (eqb-true on id is) ∙ without_own id line.streams
reset_there id event.GoAway line is = absurd cc

-- a reset takes what waits, and the stream stays away
reset_front : (id : ℕ) (e : RecvEvent) (line : Line) (inputs : List Input) → AreRising line.streams → AreAccepted line (Event e ∷ inputs) → resets id e ≡ true → list_any (opens id) (events_of (Event e ∷ inputs)) ≡ false → IsFront id line (Event e ∷ inputs)
reset_front id e line inputs rise are is none =
    let a = handled (Event e) line in
    let away : there id a.line.streams ≡ false = handled_is id (Event e) line ∙ ap (λ b. b || (there id line.streams && not (resets id e))) (or_first (opens id e) (list_any (opens id) (events_of inputs)) none) ∙ shut (there id line.streams) (resets id e) is in
    let rest = stays_silent id a.line inputs (handled_rises (Event e) line rise) away are.1 (or_second (opens id e) (list_any (opens id) (events_of inputs)) none) in
    let no_data : data_on id a.frames ≡ [] = none_left (data_on id a.frames) (waiting_on id a.line.streams) (handled_octets id (Event e) line rise ∙ reset_there id e line is) in
    let w : List ℕ = waiting_on id line.streams in (
      w,
      ap (λ (os : List ℕ). w ++ os) (said_step id line (Event e) inputs ∙ rest.said) ∙ append-nil w
          ∙ sym (ap (λ (os : List ℕ). os ++ w) (out_step id line (Event e) inputs ∙ ap (λ (os : List ℕ). os ++ gone_out id a.line inputs) no_data ∙ rest.out)),
    )
  where
    shut : (before resets : Bool) → resets ≡ true → (before && not resets) ≡ false
    shut true true is = refl
    shut false true is = refl
    shut before false is = absurd cc

-- where the stream is there it isn't opened again
abbrev pub OpensNoMore : ℕ → Line → List Input → Type 0
OpensNoMore id line inputs = there id line.streams ≡ true → list_any (opens id) (events_of inputs) ≡ false

pub and_first : (a b : Bool) → (a && b) ≡ true → a ≡ true
and_first true b is = refl
and_first false b is = absurd cc

pub opens_no_more : (id : ℕ) (line : Line) (input : Input) (inputs : List Input) → IsOpenedOnce id (events_of (input ∷ inputs)) → OpensNoMore id line (input ∷ inputs) → OpensNoMore id (handled input line).line inputs
opens_no_more id line (Event e) inputs once no_more here = by (opens id e) refl (sym (handled_is id (Event e) line) ∙ here)
  where
    by : (b : Bool) → opens id e ≡ b → (b || (there id line.streams && not (resets id e))) ≡ true → list_any (opens id) (events_of inputs) ≡ false
    by true opened is = once.0 opened
    by false opened is = or_second (opens id e) (list_any (opens id) (events_of inputs)) (no_more (and_first (there id line.streams) (not (resets id e)) is))
opens_no_more id line (Speech on said) inputs once no_more here = no_more (and_first (there id line.streams) _ (sym (handled_is id (Speech on said) line) ∙ here))

kept_front : (id : ℕ) (line : Line) (input : Input) (inputs : List Input) → AreRising line.streams → IsAccepted input line → LosesNothing id input line → IsFront id (handled input line).line inputs → IsFront id line (input ∷ inputs)
kept_front id line input inputs rise is keeps (end, rest) = (end, step id line input inputs end rise is keeps rest)

event_front : (id : ℕ) (line : Line) (e : RecvEvent) (inputs : List Input) → AreRising line.streams → AreAccepted line (Event e ∷ inputs) → OpensNoMore id line (Event e ∷ inputs) → IsFront id (handled (Event e) line).line inputs → IsFront id line (Event e ∷ inputs)
event_front id line e inputs rise are no_more rest = by (resets id e) refl (there id line.streams) refl
  where
    by : (r : Bool) → resets id e ≡ r → (t : Bool) → there id line.streams ≡ t → IsFront id line (Event e ∷ inputs)
    by false is t here = kept_front id line (Event e) inputs rise are.0 (inl is) rest
    by true is false here = kept_front id line (Event e) inputs rise are.0 (inr here) rest
    by true is true here = reset_front id e line inputs rise are is (no_more here)

front_from : (id : ℕ) (line : Line) (inputs : List Input) → AreRising line.streams → AreAccepted line inputs → IsOpenedOnce id (events_of inputs) → OpensNoMore id line inputs → IsFront id line inputs
front_from id line [] rise are once no_more = (waiting_on id line.streams, append-nil (waiting_on id line.streams))
front_from id line (Event e ∷ inputs) rise are once no_more =
    event_front id line e inputs rise are no_more
    (front_from id (handled (Event e) line).line inputs (handled_rises (Event e) line rise) are.1 once.1 (opens_no_more id line (Event e) inputs once no_more))
front_from id line (Speech on said ∷ inputs) rise are once no_more =
    kept_front id line (Speech on said) inputs rise are.0 tt
    (front_from id (handled (Speech on said) line).line inputs (handled_rises (Speech on said) line rise) are.1 once (opens_no_more id line (Speech on said) inputs once no_more))

-- What has gone out on a stream that is opened once is a front of what was said on it.
pub front_said : (id : ℕ) (inputs : List Input) → AreAccepted first_line inputs → IsOpenedOnce id (events_of inputs)
    → (end : List ℕ) × (octets_said (said_on id (order_after first_line inputs)) ≡ data_on id (written (order_after first_line inputs)) ++ end)
front_said id inputs are once = front_from id first_line inputs tt are once (λ is. absurd cc)

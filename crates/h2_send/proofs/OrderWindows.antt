-- What is written keeps within the peer's windows, by the order alone.
use Rattle.std.proofs.Common.{inl, inr, ◌≡◌, ◌⊎◌, ℕ, zero, suc, ◌<◌, Bool, true, false, cond, not, List, [], ◌∷◌, ◌++◌, take, map, ℤ, pos, ◌+ℤ◌, ◌-ℤ◌, refl, sym, ap, ◌∙◌, subst, arith, append-nil}
use Rattle.std.specs.Prelude.{nat_eq, nat_lt, ◌==◌, ◌&&◌, ◌||◌, if◌then◌else◌}
use Rattle.std.specs.List.{AllByRecursion, list_any, insert, position_or_len}
use Rattle.std.proofs.lemmas.Bool.{eqb-true, eq-eqb}
use Rattle.std.proofs.lemmas.Int.{ints}
use Rattle.grpc_core.specs.Messages.{framed}
use Rattle.h2_frame.specs.Frames.{Frame}
use Rattle.h2_windows.specs.Pacing.{IsPaced, Passing, Within, window_after, is_data, is_data_on}
use Rattle.h2_windows.specs.Shares.{share, window_of}
use Rattle.h2_windows.specs.Sending.{sent, after_sending, data_frames}
use Rattle.h2_windows.specs.Streams.{AreRising, is_stream, new_stream, opened, without, granted}
use Rattle.h2_windows.specs.Windows.{room}
use Rattle.h2_windows.specs.declared.stream.Stream.{Stream}
use Rattle.h2_windows.proofs.Rising.{once}
use Rattle.h2_windows.proofs.StreamWindows.{passing-append, others_sent, own_sent}
use Rattle.h2_events.specs.Events.{opens, resets}
use Rattle.h2_events.specs.Items.{Item}
use Rattle.h2_events.specs.Items as item
use Rattle.h2_events.specs.declared.event.RecvEvent.{RecvEvent}
use Rattle.h2_events.specs.declared.event.RecvEvent.TheVariants as event
use Rattle.h2_events.specs.declared.said.Said.{Said}
use Rattle.h2_events.specs.declared.said.Said.TheVariants.{Message, Finish, Status}
use Rattle.h2_send.specs.Inputs.{Input, Event, Speech, events_of}
use Rattle.h2_send.specs.Lines.{Line, first_line, told}
use Rattle.h2_send.specs.Offers.{loaded, with_octets}
use Rattle.h2_send.specs.Acting.{first_frames, taken_in, handled}
use Rattle.h2_send.specs.Orders.{line_after, order_after}
use Rattle.h2_send.specs.Accepting.{IsOpenedOnce}
use Rattle.h2_send.specs.Messages.{waiting_on}
use Rattle.h2_send.specs.OrderWindows.{PeerWindow, first_peer_window, window_told, counts_against, window_spent, KeepsWithin, window_behind, window_in}
use Rattle.h2_send.proofs.Kept.{behind, first_passes, handled_kept, others_kept}
use Rattle.h2_send.proofs.Octets.{or_first, or_second, and_first, apart, OpensNoMore, opens_no_more}
use Rattle.h2_send.proofs.Readiness.{there, sent_there}
use Rattle.h2_send.proofs.Rising.{taken_rises, handled_rises, paced}
use Rattle.h2_send.proofs.Sayable.{input_is}

-- ---- frames that pass a window

-- an order within a window, which leaves this of it
record Follows (id : ℕ) (w : PeerWindow) (items : List Item) (end : PeerWindow) : Type 0 where
  keeps : KeepsWithin id w items
  ends : window_behind id w items ≡ end

abbrev with_window : PeerWindow → ℤ → PeerWindow
with_window w window = record { initial = w.initial; window = window }

frames_follow : (id : ℕ) (w end : PeerWindow) (frames : List Frame) (items : List Item) → Within (counts_against id) w.window frames → Follows id (with_window w (window_after (counts_against id) w.window frames)) items end → Follows id w (map item.Wrote frames ++ items) end
frames_follow id w end [] items within rest = rest
frames_follow id w end (f ∷ frames) items within rest =
    let more = frames_follow id (window_spent id f w) end frames items within.1 rest in
    record { keeps = (within.0, more.keeps); ends = more.ends }

passing_follows : (id : ℕ) (w end : PeerWindow) (after : ℤ) (frames : List Frame) (items : List Item) → Passing (counts_against id) w.window after frames → Follows id (with_window w after) items end → Follows id w (map item.Wrote frames ++ items) end
passing_follows id w end after frames items passes rest = frames_follow id w end frames items passes.within (subst (λ (x : ℤ). Follows id (with_window w x) items end) (sym passes.is_after) rest)

-- ---- the connection

connection_told : (e : RecvEvent) (line : Line) (w : PeerWindow) → w.window ≡ line.window → (window_told 0 e w).window ≡ (told e line).window
connection_told (event.Settings initial resizes) line w is = is
connection_told event.SettingsAck line w is = is
connection_told (event.Ping octets) line w is = is
connection_told (event.Window zero n) line w is = ap (λ (x : ℤ). x +ℤ pos n) is
connection_told (event.Window (suc id) n) line w is = is
connection_told (event.Call id headers ends) line w is = is
connection_told (event.TooLong id) line w is = is
connection_told (event.Piece id octets size ends) line w is = is
connection_told (event.Trailers id) line w is = is
connection_told (event.Reset id) line w is = is
connection_told (event.StreamFault id code) line w is = is
connection_told event.GoAway line w is = is

spoken_window : (id : ℕ) (said : Said) (line : Line) → (taken_in (Speech id said) line).window ≡ line.window
spoken_window id (Message octets) line = refl
spoken_window id (Finish refusal) line = refl
spoken_window id (Status status) line = refl

record KeepsConnection (w : PeerWindow) (line : Line) (inputs : List Input) : Type 0 where
  keeps : KeepsWithin 0 w (order_after line inputs)
  ends : (window_behind 0 w (order_after line inputs)).window ≡ (line_after line inputs).window

connection_step : (w : PeerWindow) (line : Line) (input : Input) (inputs : List Input) → w.window ≡ (taken_in input line).window
    → ((v : PeerWindow) → v.window ≡ (handled input line).line.window → KeepsConnection v (handled input line).line inputs)
    → (KeepsWithin 0 w (map item.Wrote (handled input line).frames ++ order_after (handled input line).line inputs))
    × ((window_behind 0 w (map item.Wrote (handled input line).frames ++ order_after (handled input line).line inputs)).window ≡ (line_after (handled input line).line inputs).window)
connection_step w line input inputs is rest =
    let a = handled input line in
    let v : PeerWindow = with_window w a.line.window in
    let r = rest v refl in
    let passes : Passing is_data w.window a.line.window a.frames = subst (λ (x : ℤ). Passing is_data x a.line.window a.frames) (sym is) (handled_kept input line) in
    let f = passing_follows 0 w (window_behind 0 v (order_after a.line inputs)) a.line.window a.frames (order_after a.line inputs) passes (record { keeps = r.keeps; ends = refl }) in
    (f.keeps, ap (λ (p : PeerWindow). p.window) f.ends ∙ r.ends)

connection_from : (w : PeerWindow) (line : Line) (inputs : List Input) → w.window ≡ line.window → KeepsConnection w line inputs
connection_from w line [] is = record { keeps = tt; ends = is }
connection_from w line (Event e ∷ inputs) is =
    let s = connection_step (window_told 0 e w) line (Event e) inputs (connection_told e line w is) (λ v same. connection_from v (handled (Event e) line).line inputs same) in
    record { keeps = s.0; ends = s.1 }
connection_from w line (Speech id said ∷ inputs) is =
    let s = connection_step w line (Speech id said) inputs (is ∙ sym (spoken_window id said line)) (λ v same. connection_from v (handled (Speech id said) line).line inputs same) in
    record { keeps = s.0; ends = s.1 }

pub connection_keeps : (inputs : List Input) → KeepsWithin 0 first_peer_window (order_after first_line inputs)
connection_keeps inputs = (connection_from first_peer_window first_line inputs refl).keeps

connection_window : (inputs : List Input) → window_in 0 (order_after first_line inputs) ≡ (line_after first_line inputs).window
connection_window inputs = (connection_from first_peer_window first_line inputs refl).ends

-- ---- what was granted to a stream beside the initial window, without what was sent

abbrev credit_on : ℕ → List Stream → ℤ
credit_on id [] = pos 0
credit_on id (s ∷ streams) = cond (is_stream id s) s.credit (credit_on id streams)

loaded_credit : (id on : ℕ) (octets : List ℕ) (streams : List Stream) → credit_on id (loaded on octets streams) ≡ credit_on id streams
loaded_credit id on octets [] = refl
loaded_credit id on octets (s ∷ streams) = by (is_stream on s) (loaded_credit id on octets streams)
  where
    by : (b : Bool) → credit_on id (loaded on octets streams) ≡ credit_on id streams → credit_on id (if b then with_octets octets s ∷ streams else s ∷ loaded on octets streams) ≡ credit_on id (s ∷ streams)
    by true rest = refl
    by false rest = ap (λ (c : ℤ). cond (is_stream id s) s.credit c) rest

without_credit : (id on : ℕ) (streams : List Stream) → nat_eq on id ≡ false → credit_on id (without on streams) ≡ credit_on id streams
without_credit id on [] differ = refl
without_credit id on (s ∷ streams) differ = by (is_stream on s) refl (without_credit id on streams differ)
  where
    by : (b : Bool) → is_stream on s ≡ b → credit_on id (without on streams) ≡ credit_on id streams → credit_on id (cond (not b) (s ∷ without on streams) (without on streams)) ≡ credit_on id (s ∷ streams)
    by true is rest = rest ∙ sym (ap (λ b. cond b s.credit (credit_on id streams)) (apart id on s differ is))
    by false is rest = ap (λ (c : ℤ). cond (is_stream id s) s.credit c) rest

granted_other : (id on n : ℕ) (streams : List Stream) → nat_eq on id ≡ false → credit_on id (granted on n streams) ≡ credit_on id streams
granted_other id on n [] differ = refl
granted_other id on n (s ∷ streams) differ = by (is_stream on s) refl (granted_other id on n streams differ)
  where
    by : (b : Bool) → is_stream on s ≡ b → credit_on id (granted on n streams) ≡ credit_on id streams → credit_on id ((if b then record s { credit = s.credit +ℤ pos n } else s) ∷ granted on n streams) ≡ credit_on id (s ∷ streams)
    by true is rest =
        ap (λ b. cond b (s.credit +ℤ pos n) (credit_on id (granted on n streams))) (apart id on s differ is) ∙ rest
        ∙ sym (ap (λ b. cond b s.credit (credit_on id streams)) (apart id on s differ is))
    by false is rest = ap (λ (c : ℤ). cond (is_stream id s) s.credit c) rest

granted_own : (id n : ℕ) (streams : List Stream) → there id streams ≡ true → credit_on id (granted id n streams) ≡ credit_on id streams +ℤ pos n
granted_own id n [] is = absurd cc
granted_own id n (s ∷ streams) is = by (is_stream id s) refl is (granted_own id n streams)
  where
    by : (b : Bool) → is_stream id s ≡ b → (b || there id streams) ≡ true → (there id streams ≡ true → credit_on id (granted id n streams) ≡ credit_on id streams +ℤ pos n)
        → credit_on id ((if b then record s { credit = s.credit +ℤ pos n } else s) ∷ granted id n streams) ≡ credit_on id (s ∷ streams) +ℤ pos n
    by true own is rest =
        ap (λ b. cond b (s.credit +ℤ pos n) (credit_on id (granted id n streams))) own
        ∙ sym (ap (λ b. cond b s.credit (credit_on id streams) +ℤ pos n) own)
    by false own is rest =
        ap (λ b. cond b s.credit (credit_on id (granted id n streams))) own ∙ rest is
        ∙ sym (ap (λ b. cond b s.credit (credit_on id streams) +ℤ pos n) own)

insert_other : (id on k : ℕ) (streams : List Stream) → nat_eq on id ≡ false → credit_on id (insert streams k (new_stream on)) ≡ credit_on id streams
insert_other id on zero streams differ = ap (λ b. cond b (pos 0) (credit_on id streams)) differ
insert_other id on (suc k) [] differ = ap (λ b. cond b (pos 0) (pos 0)) differ
insert_other id on (suc k) (s ∷ streams) differ = ap (λ (c : ℤ). cond (is_stream id s) s.credit c) (insert_other id on k streams differ)

insert_own : (id k : ℕ) (streams : List Stream) → there id streams ≡ false → credit_on id (insert streams k (new_stream id)) ≡ pos 0
insert_own id zero streams none = ap (λ b. cond b (pos 0) (credit_on id streams)) (eq-eqb id id refl)
insert_own id (suc k) [] none = ap (λ b. cond b (pos 0) (pos 0)) (eq-eqb id id refl)
insert_own id (suc k) (s ∷ streams) none =
    ap (λ b. cond b s.credit (credit_on id (insert streams k (new_stream id)))) (or_first (is_stream id s) (there id streams) none)
    ∙ insert_own id k streams (or_second (is_stream id s) (there id streams) none)

opened_other : (id on : ℕ) (streams : List Stream) → nat_eq on id ≡ false → credit_on id (opened on streams) ≡ credit_on id streams
opened_other id on streams differ = by (there on streams)
  where
    by : (b : Bool) → credit_on id (if b then streams else insert streams (position_or_len (λ s. nat_lt on s.id) streams) (new_stream on)) ≡ credit_on id streams
    by true = refl
    by false = insert_other id on (position_or_len (λ s. nat_lt on s.id) streams) streams differ

opened_own : (id : ℕ) (streams : List Stream) → there id streams ≡ false → credit_on id (opened id streams) ≡ pos 0
opened_own id streams none =
    ap (λ b. credit_on id (if b then streams else insert streams (position_or_len (λ s. nat_lt id s.id) streams) (new_stream id))) none
    ∙ insert_own id (position_or_len (λ s. nat_lt id s.id) streams) streams none

sent_stream : (id initial : ℕ) (window : ℤ) (streams : List Stream) → AreRising streams → there id streams ≡ true → Passing (is_data_on id) (pos initial +ℤ credit_on id streams) (pos initial +ℤ credit_on id (sent initial window streams).streams) (sent initial window streams).frames
sent_stream id initial window [] rise is = absurd cc
sent_stream id initial window (s ∷ streams) rise is = by (is_stream id s) refl is (sent_stream id initial (window -ℤ pos (share initial window s)) streams rise.1)
  where
    by : (b : Bool) → is_stream id s ≡ b → (b || there id streams) ≡ true
        → (there id streams ≡ true → Passing (is_data_on id) (pos initial +ℤ credit_on id streams) (pos initial +ℤ credit_on id (sent initial (window -ℤ pos (share initial window s)) streams).streams) (sent initial (window -ℤ pos (share initial window s)) streams).frames)
        → Passing (is_data_on id) (pos initial +ℤ credit_on id (s ∷ streams)) (pos initial +ℤ credit_on id (sent initial window (s ∷ streams)).streams) (sent initial window (s ∷ streams)).frames
    by true own is rest =
        let n = share initial window s in
        let all = sent initial window (s ∷ streams) in
        let others = sent initial (window -ℤ pos n) streams in
        let mine : Passing (is_data_on id) (window_of initial s) (window_of initial (after_sending n s)) all.frames =
        subst (λ k. Passing (is_data_on k) (window_of initial s) (window_of initial (after_sending n s)) all.frames) (eqb-true s.id id own) (own_sent initial window s streams (once [] s streams rise).1) in
        let before : window_of initial s ≡ pos initial +ℤ credit_on id (s ∷ streams) = sym (ap (λ b. pos initial +ℤ cond b s.credit (credit_on id streams)) own) in
        let after : window_of initial (after_sending n s) ≡ pos initial +ℤ credit_on id all.streams = sym (ap (λ b. pos initial +ℤ cond b (s.credit -ℤ pos n) (credit_on id others.streams)) own) in
        subst (λ (x : ℤ). Passing (is_data_on id) x (pos initial +ℤ credit_on id all.streams) all.frames) before
        (subst (λ (y : ℤ). Passing (is_data_on id) (window_of initial s) y all.frames) after mine)
    by false own is rest =
        let n = share initial window s in
        let all = sent initial window (s ∷ streams) in
        let others = sent initial (window -ℤ pos n) streams in
        let a : ℤ = pos initial +ℤ credit_on id streams in
        let b : ℤ = pos initial +ℤ credit_on id others.streams in
        let first = data_frames s.id (take n s.pending) in
        let passes : Passing (is_data_on id) a a first = subst (λ (fs : List Frame). Passing (is_data_on id) a a fs) (append-nil first) (others_sent initial id window a (s ∷ []) (own, tt)) in
        let mine : Passing (is_data_on id) a b all.frames = passing-append id a a b first others.frames passes (rest is) in
        let before : a ≡ pos initial +ℤ credit_on id (s ∷ streams) = sym (ap (λ c. pos initial +ℤ cond c s.credit (credit_on id streams)) own) in
        let after : b ≡ pos initial +ℤ credit_on id all.streams = sym (ap (λ c. pos initial +ℤ cond c (s.credit -ℤ pos n) (credit_on id others.streams)) own) in
        subst (λ (x : ℤ). Passing (is_data_on id) x (pos initial +ℤ credit_on id all.streams) all.frames) before
        (subst (λ (y : ℤ). Passing (is_data_on id) a y all.frames) after mine)

-- ---- a stream's window, by the order and by the line

record Tracks (id : ℕ) (w : PeerWindow) (line : Line) : Type 0 where
  initial_is : w.initial ≡ line.initial
  window_is : there id line.streams ≡ true → w.window ≡ pos line.initial +ℤ credit_on id line.streams

settled : (li wi i : ℕ) (c w : ℤ) → wi ≡ li → w ≡ pos li +ℤ c → w +ℤ (pos i -ℤ pos wi) ≡ pos i +ℤ c
settled li wi i c w same is = ap (λ (x : ℤ). x +ℤ (pos i -ℤ pos wi)) is ∙ ap (λ k. (pos li +ℤ c) +ℤ (pos i -ℤ pos k)) same ∙ omega (arith, ints)

grown_window : (li n : ℕ) (c w : ℤ) → w ≡ pos li +ℤ c → w +ℤ pos n ≡ pos li +ℤ (c +ℤ pos n)
grown_window li n c w is = ap (λ (x : ℤ). x +ℤ pos n) is ∙ omega (arith, ints)

begun_window : (li wi : ℕ) (c : ℤ) → wi ≡ li → c ≡ pos 0 → pos wi ≡ pos li +ℤ c
begun_window li wi c same none = ap pos same ∙ (let e : pos li ≡ pos li +ℤ pos 0 = omega (arith, ints) in e) ∙ ap (λ (x : ℤ). pos li +ℤ x) (sym none)

-- a stream that is there behind an event which doesn't open it was there before
here_before : (id : ℕ) (e : RecvEvent) (line : Line) → opens id e ≡ false → there id (told e line).streams ≡ true → there id line.streams ≡ true
here_before id e line closed here =
    and_first (there id line.streams) (not (resets id e))
    (sym (ap (λ b. b || (there id line.streams && not (resets id e))) closed) ∙ sym (input_is id (Event e) line) ∙ here)

-- the streams stay as they are
same_tracks : (id : ℕ) (w : PeerWindow) (line line2 : Line) → line2.initial ≡ line.initial → (there id line2.streams ≡ true → there id line.streams ≡ true) → credit_on id line2.streams ≡ credit_on id line.streams → Tracks id w line → Tracks id w line2
same_tracks id w line line2 initial here credit t = record {
  initial_is = t.initial_is ∙ sym initial;
  window_is = λ is. t.window_is (here is) ∙ ap (λ i. pos i +ℤ credit_on id line.streams) (sym initial) ∙ ap (λ (c : ℤ). pos line2.initial +ℤ c) (sym credit);
}

opened_tracks : (id on : ℕ) (w : PeerWindow) (line line2 : Line) → line2.initial ≡ line.initial → line2.streams ≡ opened on line.streams → (there id line.streams ≡ true → nat_eq on id ≡ false) → (nat_eq on id ≡ false → there id line2.streams ≡ true → there id line.streams ≡ true) → Tracks id w line → Tracks id (if on == id then record w { window = pos w.initial } else w) line2
opened_tracks id on w line line2 initial streams new here t = by (nat_eq on id) refl
  where
    unless : (b : Bool) → there id line.streams ≡ b → nat_eq on id ≡ true → there id line.streams ≡ false
    unless true is same = absurd (let e : true ≡ false = sym same ∙ new is in cc)
    unless false is same = is

    by : (b : Bool) → nat_eq on id ≡ b → Tracks id (if b then record w { window = pos w.initial } else w) line2
    by true same =
        let none = unless (there id line.streams) refl same in
        let credit : credit_on id line2.streams ≡ pos 0 = ap (credit_on id) streams ∙ ap (λ k. credit_on id (opened k line.streams)) (eqb-true on id same) ∙ opened_own id line.streams none in
        record {
          initial_is = t.initial_is ∙ sym initial;
          window_is = λ is. begun_window line2.initial w.initial (credit_on id line2.streams) (t.initial_is ∙ sym initial) credit;
        }
    by false differ = same_tracks id w line line2 initial (here differ) (ap (credit_on id) streams ∙ opened_other id on line.streams differ) t

closed_tracks : (id on : ℕ) (e : RecvEvent) (w : PeerWindow) (line : Line) → resets id e ≡ nat_eq on id → opens id e ≡ false → (told e line).initial ≡ line.initial → (told e line).streams ≡ without on line.streams → Tracks id w line → Tracks id w (told e line)
closed_tracks id on e w line resets_is closed initial streams t = by (nat_eq on id) refl
  where
    shut : (before resets : Bool) → resets ≡ true → (before && not resets) ≡ false
    shut true true is = refl
    shut false true is = refl
    shut before false is = absurd cc

    by : (b : Bool) → nat_eq on id ≡ b → Tracks id w (told e line)
    by true same =
        let away : there id (told e line).streams ≡ false = input_is id (Event e) line ∙ ap (λ b. b || (there id line.streams && not (resets id e))) closed ∙ shut (there id line.streams) (resets id e) (resets_is ∙ same) in
        record { initial_is = t.initial_is ∙ sym initial; window_is = λ is. absurd (let e : true ≡ false = sym is ∙ away in cc) }
    by false differ = same_tracks id w line (told e line) initial (here_before id e line closed) (ap (credit_on id) streams ∙ without_credit id on line.streams differ) t

granted_tracks : (id on n : ℕ) (w : PeerWindow) (line : Line) → Tracks (suc id) w line → Tracks (suc id) (if on == suc id then record w { window = w.window +ℤ pos n } else w) (told (event.Window on n) line)
granted_tracks id zero n w line t = by (nat_eq zero (suc id)) refl
  where
    by : (b : Bool) → nat_eq zero (suc id) ≡ b → Tracks (suc id) (if b then record w { window = w.window +ℤ pos n } else w) (told (event.Window zero n) line)
    by true same = absurd (let e : zero ≡ suc id = eqb-true zero (suc id) same in cc)
    by false differ = same_tracks (suc id) w line (told (event.Window zero n) line) refl (λ is. is) refl t
granted_tracks id (suc on) n w line t = by (nat_eq (suc on) (suc id)) refl
  where
    by : (b : Bool) → nat_eq (suc on) (suc id) ≡ b → Tracks (suc id) (if b then record w { window = w.window +ℤ pos n } else w) (told (event.Window (suc on) n) line)
    by true same = record {
      initial_is = t.initial_is;
      window_is = λ is.
          let before = here_before (suc id) (event.Window (suc on) n) line refl is in
          grown_window line.initial n (credit_on (suc id) line.streams) w.window (t.window_is before)
          ∙ ap (λ (c : ℤ). pos line.initial +ℤ c) (sym (ap (λ k. credit_on (suc id) (granted k n line.streams)) (eqb-true (suc on) (suc id) same) ∙ granted_own (suc id) n line.streams before));
    }
    by false differ = same_tracks (suc id) w line (told (event.Window (suc on) n) line) refl (here_before (suc id) (event.Window (suc on) n) line refl) (granted_other (suc id) (suc on) n line.streams differ) t

told_tracks : (id : ℕ) (e : RecvEvent) (w : PeerWindow) (line : Line) → (there (suc id) line.streams ≡ true → opens (suc id) e ≡ false) → Tracks (suc id) w line → Tracks (suc id) (window_told (suc id) e w) (told e line)
told_tracks id (event.Settings initial resizes) w line new t = record {
  initial_is = refl;
  window_is = λ is. settled line.initial w.initial initial (credit_on (suc id) line.streams) w.window t.initial_is (t.window_is is);
}
told_tracks id event.SettingsAck w line new t = record { initial_is = t.initial_is; window_is = t.window_is }
told_tracks id (event.Ping octets) w line new t = record { initial_is = t.initial_is; window_is = t.window_is }
told_tracks id (event.Window on n) w line new t = granted_tracks id on n w line t
told_tracks id (event.Call on headers ends) w line new t =
    opened_tracks (suc id) on w line (told (event.Call on headers ends) line) refl refl new (λ differ. here_before (suc id) (event.Call on headers ends) line differ) t
told_tracks id (event.TooLong on) w line new t =
    opened_tracks (suc id) on w line (told (event.TooLong on) line) refl refl new (λ differ. here_before (suc id) (event.TooLong on) line differ) t
told_tracks id (event.Piece on octets size ends) w line new t = record { initial_is = t.initial_is; window_is = t.window_is }
told_tracks id (event.Trailers on) w line new t = record { initial_is = t.initial_is; window_is = t.window_is }
told_tracks id (event.Reset on) w line new t = closed_tracks (suc id) on (event.Reset on) w line refl refl refl refl t
told_tracks id (event.StreamFault on code) w line new t = closed_tracks (suc id) on (event.StreamFault on code) w line refl refl refl refl t
told_tracks id event.GoAway w line new t = record { initial_is = t.initial_is; window_is = t.window_is }

said_before : (id on : ℕ) (said : Said) (line : Line) → there id (taken_in (Speech on said) line).streams ≡ true → there id line.streams ≡ true
said_before id on said line here = and_first (there id line.streams) _ (sym (input_is id (Speech on said) line) ∙ here)

ended_tracks : (id on : ℕ) (w : PeerWindow) (line line2 : Line) → line2.initial ≡ line.initial → line2.streams ≡ without on line.streams → there id line2.streams ≡ (there id line.streams && not (nat_eq on id && true)) → Tracks id w line → Tracks id w line2
ended_tracks id on w line line2 initial streams shut t = by (nat_eq on id) refl
  where
    away : (a : Bool) → (a && not (true && true)) ≡ false
    away true = refl
    away false = refl

    by : (b : Bool) → nat_eq on id ≡ b → Tracks id w line2
    by true same = record {
      initial_is = t.initial_is ∙ sym initial;
      window_is = λ is. absurd (let e : true ≡ false = sym is ∙ shut ∙ ap (λ b. there id line.streams && not (b && true)) same ∙ away (there id line.streams) in cc);
    }
    by false differ = same_tracks id w line line2 initial (λ is. and_first (there id line.streams) _ (sym shut ∙ is)) (ap (credit_on id) streams ∙ without_credit id on line.streams differ) t

spoken_tracks : (id on : ℕ) (said : Said) (w : PeerWindow) (line : Line) → Tracks id w line → Tracks id w (taken_in (Speech on said) line)
spoken_tracks id on (Message octets) w line t = same_tracks id w line (taken_in (Speech on (Message octets)) line) refl (said_before id on (Message octets) line) (loaded_credit id on (framed octets) line.streams) t
spoken_tracks id on (Finish refusal) w line t = ended_tracks id on w line (taken_in (Speech on (Finish refusal)) line) refl refl (input_is id (Speech on (Finish refusal)) line) t
spoken_tracks id on (Status status) w line t = ended_tracks id on w line (taken_in (Speech on (Status status)) line) refl refl (input_is id (Speech on (Status status)) line) t

others_there : (id : ℕ) (streams : List Stream) → there id streams ≡ false → AllByRecursion (λ t. nat_eq t.id id ≡ false) streams
others_there id [] none = tt
others_there id (s ∷ streams) none = (or_first (is_stream id s) (there id streams) none, others_there id streams (or_second (is_stream id s) (there id streams) none))

-- what is written for an input keeps within a stream's window, and tracks it on
record Passes (id : ℕ) (w : PeerWindow) (input : Input) (line : Line) : Type 0 where
  window : ℤ
  passes : Passing (is_data_on id) w.window window (handled input line).frames
  tracks : Tracks id (with_window w window) (handled input line).line

input_passes : (id : ℕ) (w : PeerWindow) (input : Input) (line : Line) → AreRising line.streams → Tracks id w (taken_in input line) → Passes id w input line
input_passes id w input line rise t = by (there id (taken_in input line).streams) refl
  where
    by : (b : Bool) → there id (taken_in input line).streams ≡ b → Passes id w input line
    by true here =
        let l = taken_in input line in
        let s = sent l.initial l.window l.streams in
        let a : ℤ = pos l.initial +ℤ credit_on id l.streams in
        let b : ℤ = pos l.initial +ℤ credit_on id s.streams in
        let whole : Passing (is_data_on id) a b (handled input line).frames = behind (is_data_on id) a a b (first_frames input line) s.frames (first_passes a id input line) (sent_stream id l.initial l.window l.streams (taken_rises input line rise) here) in
        record {
          window = b;
          passes = subst (λ (x : ℤ). Passing (is_data_on id) x b (handled input line).frames) (sym (t.window_is here)) whole;
          tracks = record { initial_is = t.initial_is; window_is = λ is. refl };
        }
    by false away =
        let l = taken_in input line in
        let none : there id (handled input line).line.streams ≡ false = sent_there id l.initial l.window l.streams ∙ away in
        record {
          window = w.window;
          passes = others_kept input line id w.window (others_there id l.streams away);
          tracks = record { initial_is = t.initial_is; window_is = λ is. absurd (let e : true ≡ false = sym is ∙ none in cc) };
        }

record KeepsStream (id : ℕ) (w : PeerWindow) (line : Line) (inputs : List Input) : Type 0 where
  keeps : KeepsWithin id w (order_after line inputs)
  tracks : Tracks id (window_behind id w (order_after line inputs)) (line_after line inputs)

record KeepsRest (id : ℕ) (w : PeerWindow) (input : Input) (line : Line) (inputs : List Input) : Type 0 where
  keeps : KeepsWithin id w (map item.Wrote (handled input line).frames ++ order_after (handled input line).line inputs)
  tracks : Tracks id (window_behind id w (map item.Wrote (handled input line).frames ++ order_after (handled input line).line inputs)) (line_after (handled input line).line inputs)

stream_step : (id : ℕ) (w : PeerWindow) (line : Line) (input : Input) (inputs : List Input) → AreRising line.streams → Tracks (suc id) w (taken_in input line)
    → ((v : PeerWindow) → Tracks (suc id) v (handled input line).line → KeepsStream (suc id) v (handled input line).line inputs)
    → KeepsRest (suc id) w input line inputs
stream_step id w line input inputs rise t rest =
    let a = handled input line in
    let p = input_passes (suc id) w input line rise t in
    let v : PeerWindow = with_window w p.window in
    let r = rest v p.tracks in
    let f = passing_follows (suc id) w (window_behind (suc id) v (order_after a.line inputs)) p.window a.frames (order_after a.line inputs) p.passes (record { keeps = r.keeps; ends = refl }) in
    record { keeps = f.keeps; tracks = subst (λ (x : PeerWindow). Tracks (suc id) x (line_after a.line inputs)) (sym f.ends) r.tracks }

stream_from : (id : ℕ) (w : PeerWindow) (line : Line) (inputs : List Input) → AreRising line.streams → Tracks (suc id) w line → IsOpenedOnce (suc id) (events_of inputs) → OpensNoMore (suc id) line inputs → KeepsStream (suc id) w line inputs
stream_from id w line [] rise t once_only no_more = record { keeps = tt; tracks = t }
stream_from id w line (Event e ∷ inputs) rise t once_only no_more =
    let told_now = told_tracks id e w line (λ here. or_first (opens (suc id) e) (list_any (opens (suc id)) (events_of inputs)) (no_more here)) t in
    let s = stream_step id (window_told (suc id) e w) line (Event e) inputs rise told_now
    (λ v tracks. stream_from id v (handled (Event e) line).line inputs (handled_rises (Event e) line rise) tracks once_only.1 (opens_no_more (suc id) line (Event e) inputs once_only no_more)) in
    record { keeps = s.keeps; tracks = s.tracks }
stream_from id w line (Speech on said ∷ inputs) rise t once_only no_more =
    let s = stream_step id w line (Speech on said) inputs rise (spoken_tracks (suc id) on said w line t)
    (λ v tracks. stream_from id v (handled (Speech on said) line).line inputs (handled_rises (Speech on said) line rise) tracks once_only (opens_no_more (suc id) line (Speech on said) inputs once_only no_more)) in
    record { keeps = s.keeps; tracks = s.tracks }

stream_all : (id : ℕ) (inputs : List Input) → IsOpenedOnce (suc id) (events_of inputs) → KeepsStream (suc id) first_peer_window first_line inputs
stream_all id inputs once_only = stream_from id first_peer_window first_line inputs tt (record { initial_is = refl; window_is = λ is. absurd cc }) once_only (λ is. absurd cc)

pub stream_keeps : (id : ℕ) (inputs : List Input) → 0 < id → IsOpenedOnce id (events_of inputs) → KeepsWithin id first_peer_window (order_after first_line inputs)
stream_keeps zero inputs some once_only = absurd (omega (arith, some))
stream_keeps (suc id) inputs some once_only = (stream_all id inputs once_only).keeps

-- ---- octets wait only where a window is 0 or below

stream_paced : (id initial : ℕ) (window : ℤ) (streams : List Stream) → AllByRecursion (IsPaced initial window) streams → (waiting_on id streams ≡ [] → ⊥) → (there id streams ≡ true) × ((room window ≡ 0) ⊎ (room (pos initial +ℤ credit_on id streams) ≡ 0))
stream_paced id initial window [] all waits = absurd (waits refl)
stream_paced id initial window (s ∷ streams) all waits = by (is_stream id s) refl (stream_paced id initial window streams all.1)
  where
    own : IsPaced initial window s → (s.pending ≡ [] → ⊥) → (room window ≡ 0) ⊎ (room (window_of initial s) ≡ 0)
    own (inl none) some = absurd (some none)
    own (inr shut) some = shut

    by : (b : Bool) → is_stream id s ≡ b
        → ((waiting_on id streams ≡ [] → ⊥) → (there id streams ≡ true) × ((room window ≡ 0) ⊎ (room (pos initial +ℤ credit_on id streams) ≡ 0)))
        → ((is_stream id s || there id streams) ≡ true) × ((room window ≡ 0) ⊎ (room (pos initial +ℤ cond (is_stream id s) s.credit (credit_on id streams)) ≡ 0))
    by true is rest = (
      ap (λ b. b || there id streams) is,
      subst (λ b. (room window ≡ 0) ⊎ (room (pos initial +ℤ cond b s.credit (credit_on id streams)) ≡ 0)) (sym is)
          (own all.0 (λ none. waits (ap (λ b. cond b s.pending (waiting_on id streams)) is ∙ none))),
    )
    by false is rest =
        let r = rest (λ none. waits (ap (λ b. cond b s.pending (waiting_on id streams)) is ∙ none)) in
        (ap (λ b. b || there id streams) is ∙ r.0, subst (λ b. (room window ≡ 0) ⊎ (room (pos initial +ℤ cond b s.credit (credit_on id streams)) ≡ 0)) (sym is) r.1)

pub order_paced : (id : ℕ) (inputs : List Input) → 0 < id → IsOpenedOnce id (events_of inputs) → (waiting_on id (line_after first_line inputs).streams ≡ [] → ⊥)
    → (room (window_in 0 (order_after first_line inputs)) ≡ 0) ⊎ (room (window_in id (order_after first_line inputs)) ≡ 0)
order_paced zero inputs some once_only waits = absurd (omega (arith, some))
order_paced (suc id) inputs some once_only waits =
    let line = line_after first_line inputs in
    let order = order_after first_line inputs in
    let p = stream_paced (suc id) line.initial line.window line.streams (paced inputs) waits in
    let own : window_in (suc id) order ≡ pos line.initial +ℤ credit_on (suc id) line.streams = (stream_all id inputs once_only).tracks.window_is p.0 in
    subst (λ (x : ℤ). (room x ≡ 0) ⊎ (room (window_in (suc id) order) ≡ 0)) (sym (connection_window inputs))
    (subst (λ (y : ℤ). (room line.window ≡ 0) ⊎ (room y ≡ 0)) (sym own) p.1)

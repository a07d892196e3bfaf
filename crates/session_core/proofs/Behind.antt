-- Octets that wait on a stream still wait there when something is said on another one.
use Rattle.std.proofs.Common.{◌≡◌, ◌⊎◌, inl, inr, ℕ, ◌≤◌, Bool, true, false, cond, not, ◌||◌, ◌&&◌, List, [], ◌∷◌, ◌++◌, length, ℤ, pos, ◌-ℤ◌, refl, sym, ap, ◌∙◌, subst, arith, nat_lt, nat_eq, ◌==◌}
use Rattle.std.specs.Prelude.{if◌then◌else◌}
use Rattle.std.specs.List.{AllByRecursion, list_any}
use Rattle.std.proofs.lemmas.Bool.{eqb-true, false≢true}
use Rattle.h2_windows.specs.declared.stream.Stream.{Stream}
use Rattle.h2_windows.specs.Windows.{room}
use Rattle.h2_windows.specs.Shares.{share, window_of}
use Rattle.h2_windows.specs.Sending.{sent, after_sending}
use Rattle.h2_windows.specs.Pacing.{IsPaced, ArePaced}
use Rattle.h2_windows.specs.Streams.{is_stream, without}
use Rattle.h2_windows.proofs.Paced.{room_spent}
use Rattle.h2_events.specs.declared.port.Ready.TheVariants.{Free, Busy, Gone}
use Rattle.h2_events.specs.declared.said.Said.{Said}
use Rattle.h2_events.specs.declared.said.Said.TheVariants.{Message, Finish, Status}
use Rattle.h2_events.specs.Items.{can_say}
use Rattle.grpc_core.specs.Messages.{framed}
use Rattle.h2_send.specs.Inputs.{Input, Speech}
use Rattle.h2_send.specs.Lines.{Line, first_line}
use Rattle.h2_send.specs.Offers.{ready_on, waits, loaded, with_octets}
use Rattle.h2_send.specs.Acting.{spoken, handled}
use Rattle.h2_send.specs.Orders.{line_after, order_of}
use Rattle.h2_send.proofs.Closing.{line_after_one}
use Rattle.h2_send.proofs.Rising.{paced}
use Rattle.h2_send.proofs.Sayable.{sayable}
use Rattle.session_core.specs.declared.waiting.Waiting.{Waiting}
use Rattle.session_core.specs.Saying.{AreBehind, waits_on}

abbrev waits_for : ℕ → Stream → Bool
waits_for id s = is_stream id s && waits s

-- ---- what readiness says

busy_if : (w t : Bool) → (if w then Busy else if t then Free else Gone) ≡ Busy → w ≡ true
busy_if true t is = refl
busy_if false true is = absurd cc
busy_if false false is = absurd cc

if_busy : (w t : Bool) → w ≡ true → (if w then Busy else if t then Free else Gone) ≡ Busy
if_busy true t is = refl
if_busy false t is = absurd (false≢true is)

free_if : (w t : Bool) → (if w then Busy else if t then Free else Gone) ≡ Free → t ≡ true
free_if true t is = absurd cc
free_if false true is = refl
free_if false false is = absurd cc

gone_if : (w t : Bool) → (if w then Busy else if t then Free else Gone) ≡ Gone → t ≡ false
gone_if true t is = absurd cc
gone_if false true is = absurd cc
gone_if false false is = refl

pub free_says : (id : ℕ) (inputs : List Input) → ready_on id (line_after first_line inputs).streams ≡ Free → can_say id (order_of inputs) ≡ true
free_says id inputs is = sayable id inputs ∙ free_if (list_any (waits_for id) (line_after first_line inputs).streams) (list_any (is_stream id) (line_after first_line inputs).streams) is

pub gone_says : (id : ℕ) (inputs : List Input) → ready_on id (line_after first_line inputs).streams ≡ Gone → can_say id (order_of inputs) ≡ false
gone_says id inputs is = sayable id inputs ∙ gone_if (list_any (waits_for id) (line_after first_line inputs).streams) (list_any (is_stream id) (line_after first_line inputs).streams) is

-- ---- a stream on which octets wait is held up by a window, and stays so

abbrev IsHeld : ℕ → ℤ → Stream → Type 0
IsHeld initial window s = (room window ≡ 0) ⊎ (room (window_of initial s) ≡ 0)

abbrev AreHeld : ℕ → ℕ → ℤ → List Stream → Type 0
AreHeld id initial window streams = AllByRecursion (λ s. waits_for id s ≡ true → IsHeld initial window s) streams

held_later : (initial n : ℕ) (window : ℤ) (s : Stream) → n ≤ room window → IsHeld initial window s → IsHeld initial (window -ℤ pos n) s
held_later initial n window s within (inl none) = inl (room_spent window n within ∙ omega (arith, none))
held_later initial n window s within (inr none) = inr none

all_later : (id initial n : ℕ) (window : ℤ) (streams : List Stream) → n ≤ room window → AreHeld id initial window streams → AreHeld id initial (window -ℤ pos n) streams
all_later id initial n window [] within held = tt
all_later id initial n window (s ∷ streams) within held = (λ w. held_later initial n window s within (held.0 w), all_later id initial n window streams within held.1)

no_share : (initial : ℕ) (window : ℤ) (s : Stream) → IsHeld initial window s → share initial window s ≡ 0
no_share initial window s (inl none) = omega (arith, none)
no_share initial window s (inr none) = omega (arith, none)

still_waits : (id n : ℕ) (s : Stream) → n ≡ 0 → waits_for id s ≡ true → waits_for id (after_sending n s) ≡ true
still_waits id n s none is = subst (λ k. waits_for id (after_sending k s) ≡ true) (sym none) is

or_right : (a b : Bool) → b ≡ true → (a || b) ≡ true
or_right true b is = refl
or_right false b is = is

or_left : (a b : Bool) → a ≡ true → (a || b) ≡ true
or_left true b is = refl
or_left false b is = absurd (false≢true is)

first_or_later : (b : Bool) (id initial : ℕ) (window : ℤ) (s : Stream) (streams later : List Stream) → waits_for id s ≡ b → (waits_for id s ≡ true → IsHeld initial window s)
    → (b || list_any (waits_for id) streams) ≡ true → (list_any (waits_for id) streams ≡ true → list_any (waits_for id) later ≡ true)
    → (waits_for id (after_sending (share initial window s) s) || list_any (waits_for id) later) ≡ true
first_or_later true id initial window s streams later first held is rest =
    or_left (waits_for id (after_sending (share initial window s) s)) (list_any (waits_for id) later) (still_waits id (share initial window s) s (no_share initial window s (held first)) first)
first_or_later false id initial window s streams later first held is rest =
    or_right (waits_for id (after_sending (share initial window s) s)) (list_any (waits_for id) later) (rest is)

sent_waits : (id initial : ℕ) (window : ℤ) (streams : List Stream) → AreHeld id initial window streams → list_any (waits_for id) streams ≡ true → list_any (waits_for id) (sent initial window streams).streams ≡ true
sent_waits id initial window [] held is = is
sent_waits id initial window (s ∷ streams) held is =
    let n = share initial window s in
    first_or_later (waits_for id s) id initial window s streams (sent initial (window -ℤ pos n) streams).streams refl held.0 is
    (λ some. sent_waits id initial (window -ℤ pos n) streams (all_later id initial n window streams (omega arith) held.1) some)

-- ---- what is said changes no other stream

not_this : (id on : ℕ) (s : Stream) → nat_eq on id ≡ false → is_stream on s ≡ true → is_stream id s ≡ false
not_this id on s other same = ap (λ n. nat_eq n id) (eqb-true s.id on same) ∙ other

none_waits : (id : ℕ) (s t : Stream) → is_stream id s ≡ false → is_stream id t ≡ false → waits_for id s ≡ waits_for id t
none_waits id s t a b = ap (λ c. c && waits s) a ∙ sym (ap (λ c. c && waits t) b)

loaded_if : (b : Bool) (id on : ℕ) (octets : List ℕ) (s : Stream) (streams others : List Stream) → nat_eq on id ≡ false → is_stream on s ≡ b
    → list_any (waits_for id) others ≡ list_any (waits_for id) streams
    → list_any (waits_for id) (if b then with_octets octets s ∷ streams else s ∷ others) ≡ (waits_for id s || list_any (waits_for id) streams)
loaded_if true id on octets s streams others other same rest =
    let none = not_this id on s other same in ap (λ b. b || list_any (waits_for id) streams) (none_waits id (with_octets octets s) s none none)
loaded_if false id on octets s streams others other same rest = ap (λ b. waits_for id s || b) rest

loaded_waits : (id on : ℕ) (octets : List ℕ) (streams : List Stream) → nat_eq on id ≡ false → list_any (waits_for id) (loaded on octets streams) ≡ list_any (waits_for id) streams
loaded_waits id on octets [] other = refl
loaded_waits id on octets (s ∷ streams) other = loaded_if (is_stream on s) id on octets s streams (loaded on octets streams) other refl (loaded_waits id on octets streams other)

without_if : (b : Bool) (id on : ℕ) (s : Stream) (streams others : List Stream) → nat_eq on id ≡ false → is_stream on s ≡ b
    → list_any (waits_for id) others ≡ list_any (waits_for id) streams
    → list_any (waits_for id) (cond (not b) (s ∷ others) others) ≡ (waits_for id s || list_any (waits_for id) streams)
without_if true id on s streams others other same rest = rest ∙ sym (ap (λ c. (c && waits s) || list_any (waits_for id) streams) (not_this id on s other same))
without_if false id on s streams others other same rest = ap (λ b. waits_for id s || b) rest

without_waits : (id on : ℕ) (streams : List Stream) → nat_eq on id ≡ false → list_any (waits_for id) (without on streams) ≡ list_any (waits_for id) streams
without_waits id on [] other = refl
without_waits id on (s ∷ streams) other = without_if (is_stream on s) id on s streams (without on streams) other refl (without_waits id on streams other)

waits_some : (id : ℕ) (s : Stream) → waits_for id s ≡ true → s.pending ≡ [] → ⊥
waits_some id s is none = some (is_stream id s) (ap (λ (o : List ℕ). nat_lt 0 (length o)) none) is where
  some : (b : Bool) → waits s ≡ false → (b && waits s) ≡ true → ⊥
  some true w e = false≢true (sym w ∙ e)
  some false w e = false≢true e

paced_held : (id initial : ℕ) (window : ℤ) (s : Stream) → IsPaced initial window s → waits_for id s ≡ true → IsHeld initial window s
paced_held id initial window s (inl none) is = absurd (waits_some id s is none)
paced_held id initial window s (inr held) is = held

are_held : (id initial : ℕ) (window : ℤ) (streams : List Stream) → ArePaced initial window streams → AreHeld id initial window streams
are_held id initial window [] p = tt
are_held id initial window (s ∷ streams) p = (paced_held id initial window s p.0, are_held id initial window streams p.1)

vacuous : (id initial : ℕ) (window : ℤ) (s : Stream) → is_stream id s ≡ false → waits_for id s ≡ true → IsHeld initial window s
vacuous id initial window s none is = absurd (false≢true (sym (ap (λ c. c && waits s) none) ∙ is))

loaded_held_if : (b : Bool) (id on initial : ℕ) (window : ℤ) (octets : List ℕ) (s : Stream) (streams others : List Stream) → nat_eq on id ≡ false → is_stream on s ≡ b
    → AreHeld id initial window (s ∷ streams) → AreHeld id initial window others → AreHeld id initial window (if b then with_octets octets s ∷ streams else s ∷ others)
loaded_held_if true id on initial window octets s streams others other same held rest = (vacuous id initial window (with_octets octets s) (not_this id on s other same), held.1)
loaded_held_if false id on initial window octets s streams others other same held rest = (held.0, rest)

loaded_held : (id on initial : ℕ) (window : ℤ) (octets : List ℕ) (streams : List Stream) → nat_eq on id ≡ false → AreHeld id initial window streams → AreHeld id initial window (loaded on octets streams)
loaded_held id on initial window octets [] other held = tt
loaded_held id on initial window octets (s ∷ streams) other held = loaded_held_if (is_stream on s) id on initial window octets s streams (loaded on octets streams) other refl held (loaded_held id on initial window octets streams other held.1)

without_held_if : (b : Bool) (id initial : ℕ) (window : ℤ) (s : Stream) (others : List Stream) → (waits_for id s ≡ true → IsHeld initial window s) → AreHeld id initial window others → AreHeld id initial window (cond b (s ∷ others) others)
without_held_if true id initial window s others held rest = (held, rest)
without_held_if false id initial window s others held rest = rest

without_held : (id on initial : ℕ) (window : ℤ) (streams : List Stream) → AreHeld id initial window streams → AreHeld id initial window (without on streams)
without_held id on initial window [] held = tt
without_held id on initial window (s ∷ streams) held = without_held_if (not (is_stream on s)) id initial window s (without on streams) held.0 (without_held id on initial window streams held.1)

spoken_waits : (id on : ℕ) (said : Said) (line : Line) → nat_eq on id ≡ false → list_any (waits_for id) (spoken on said line).streams ≡ list_any (waits_for id) line.streams
spoken_waits id on (Message octets) line other = loaded_waits id on (framed octets) line.streams other
spoken_waits id on (Finish refusal) line other = without_waits id on line.streams other
spoken_waits id on (Status status) line other = without_waits id on line.streams other

spoken_held : (id on : ℕ) (said : Said) (line : Line) → nat_eq on id ≡ false → ArePaced line.initial line.window line.streams → AreHeld id (spoken on said line).initial (spoken on said line).window (spoken on said line).streams
spoken_held id on (Message octets) line other p = loaded_held id on line.initial line.window (framed octets) line.streams other (are_held id line.initial line.window line.streams p)
spoken_held id on (Finish refusal) line other p = without_held id on line.initial line.window line.streams (are_held id line.initial line.window line.streams p)
spoken_held id on (Status status) line other p = without_held id on line.initial line.window line.streams (are_held id line.initial line.window line.streams p)

busy_still : (id on : ℕ) (said : Said) (line : Line) → nat_eq on id ≡ false → ArePaced line.initial line.window line.streams → ready_on id line.streams ≡ Busy → ready_on id (handled (Speech on said) line).line.streams ≡ Busy
busy_still id on said line other p busy =
    let l = spoken on said line in
    let now = sent_waits id l.initial l.window l.streams (spoken_held id on said line other p)
    (spoken_waits id on said line other ∙ busy_if (list_any (waits_for id) line.streams) (list_any (is_stream id) line.streams) busy) in
    if_busy (list_any (waits_for id) (sent l.initial l.window l.streams).streams) (list_any (is_stream id) (sent l.initial l.window l.streams).streams) now

-- ---- what waits

differ : (b : Bool) (id on : ℕ) (line : Line) → nat_eq on id ≡ b → ready_on on line.streams ≡ Free → ready_on id line.streams ≡ Busy → b ≡ false
differ true id on line same free busy = let e : ready_on id line.streams ≡ Free = ap (λ n. ready_on n line.streams) (sym (eqb-true on id same)) ∙ free in absurd cc
differ false id on line same free busy = refl

pub still_behind : (on : ℕ) (said : Said) (inputs : List Input) (waiting : List Waiting) → ready_on on (line_after first_line inputs).streams ≡ Free → AreBehind inputs waiting → AreBehind (inputs ++ Speech on said ∷ []) waiting
still_behind on said inputs [] free behind = tt
still_behind on said inputs (w ∷ waiting) free behind =
    let line = line_after first_line inputs in
    let other = differ (nat_eq on w.stream) w.stream on line refl free behind.0 in (
      ap (λ (l : Line). ready_on w.stream l.streams) (line_after_one first_line inputs (Speech on said)) ∙ busy_still w.stream on said line other (paced inputs) behind.0,
      still_behind on said inputs waiting free behind.1,
    )

pub behind_more : (inputs : List Input) (waiting : List Waiting) (w : Waiting) → AreBehind inputs waiting → ready_on w.stream (line_after first_line inputs).streams ≡ Busy → AreBehind inputs (waiting ++ w ∷ [])
behind_more inputs [] w behind busy = (busy, tt)
behind_more inputs (v ∷ waiting) w behind busy = (behind.0, behind_more inputs waiting w behind.1 busy)

-- nothing waits on a stream that is free
none_when : (b : Bool) (v : Waiting) (waiting : List Waiting) (on : ℕ) (line : Line) → nat_eq v.stream on ≡ b → ready_on on line.streams ≡ Free → ready_on v.stream line.streams ≡ Busy → waits_on on waiting ≡ []
    → cond b (v.said ∷ waits_on on waiting) (waits_on on waiting) ≡ []
none_when true v waiting on line same free busy none = let e : ready_on v.stream line.streams ≡ Free = ap (λ n. ready_on n line.streams) (eqb-true v.stream on same) ∙ free in absurd cc
none_when false v waiting on line same free busy none = none

pub none_waits_there : (on : ℕ) (inputs : List Input) (waiting : List Waiting) → ready_on on (line_after first_line inputs).streams ≡ Free → AreBehind inputs waiting → waits_on on waiting ≡ []
none_waits_there on inputs [] free behind = refl
none_waits_there on inputs (v ∷ waiting) free behind =
    none_when (v.stream == on) v waiting on (line_after first_line inputs) refl free behind.0 (none_waits_there on inputs waiting free behind.1)

-- Entries that are given, and given again at their own stamps.
use Rattle.std.proofs.Common.{◌≡◌, ℕ, ◌+◌, ◌<◌, ◌≤◌, List, [], ◌∷◌, ◌++◌, Bool, true, false, Option, Some, None, Result, Ok, Err, length, refl, sym, ap, ◌∙◌, subst, arith, inl, inr, append_assoc, append-nil, if◌then◌else◌, nat_le}
use Rattle.std.specs.List.{list_any}
use Rattle.std.proofs.lemmas.Bool.{and_parts, leb-true}
use Rattle.std.proofs.lemmas.List.{append_cancel_left}
use Rattle.std.proofs.lemmas.List.Elements.{All-push}
use Rattle.base_kinds.specs.declared.entry.Entry.{Entry}
use Rattle.base_kinds.specs.declared.entry.Kind.TheVariants as kinds
use Rattle.base_kinds.specs.declared.entry.Ask.{Ask}
use Rattle.base_kinds.specs.declared.entry.Ask.TheVariants as asks
use Rattle.base_kinds.specs.declared.refusal.Refusal.{Refusal}
use Rattle.base_kinds.specs.History.{World, OpenTrial, IsHistory, world_after, world_of, stamp_of}
use Rattle.base_kinds.specs.Step.{Rules, new_stamp, time_at, next_entry, is_past, is_due, after_expiry, kind_of_ask, judge, with_answer}
use Rattle.base_kinds.specs.Legal.{is_fit_duration, IsFit, Gives, GivenInTurn, IsLegal}
use Rattle.base_kinds.specs.Bases.{IsBounded, AreBounded, IsAhead}
use Rattle.base_kinds.specs.Events.{Request, Set, Get, Event, is_long, history_after_request, history_after, history_after_all}
use Rattle.base_kinds.specs.Limits.{latest_reading, shortest_duration, longest_duration}
use Rattle.history_laws.specs.LegalLaws.{IsFitRequest, IsFitEvent, AreFitEvents}
use Rattle.history_laws.proofs.States.{world_after_one, stamp_after_one, history_after_one}
use Rattle.history_laws.proofs.Judged.{asked, accepted_is_next, accepted_is_above, accepted_is_bounded, accepted_at_own_stamp, new_stamp_is_above, next_is_bounded, own_stamp, bounded_stamp}

-- ---- what is due at a reading, and at the stamp that comes of it

not_past : (trial : Option OpenTrial) (h : List Entry) (now : ℕ) → IsAhead trial (stamp_of h) → is_past trial (time_at h now) ≡ false → is_past trial (time_at h (new_stamp h now)) ≡ false
not_past None h now ahead is = refl
not_past (Some trial) h now ahead is = grind arith

still_past : (trial : Option OpenTrial) (h : List Entry) (now : ℕ) → is_past trial (time_at h now) ≡ true → is_past trial (time_at h (new_stamp h now)) ≡ true
still_past None h now is = is
still_past (Some trial) h now is = grind arith

pub expiry_is_given : (rules : Rules) (h : List Entry) (now : ℕ) → is_due h now ≡ true → Gives rules h (next_entry h (new_stamp h now) 0 kinds.Expire)
expiry_is_given rules h now due =
    inl (record { due = still_past (world_of h).trial h now due; is = ap (λ stamp. next_entry h stamp 0 kinds.Expire) (sym (own_stamp h now)) })

pub accepted_is_given : (rules : Rules) (h : List Entry) (now author : ℕ) (ask : Ask) (entry : Entry) → IsAhead (world_of h).trial (stamp_of h) → 1 ≤ author → IsFit ask → is_due h now ≡ false → judge rules h now author ask ≡ Ok entry → Gives rules h entry
accepted_is_given rules h now author ask entry ahead some fit quiet is =
    let next : entry ≡ asked h now author ask = accepted_is_next rules h now author ask entry is in
    inr (record {
      not_due = subst (λ (e : Entry). is_due h e.stamp ≡ false) (sym next) (not_past (world_of h).trial h now ahead quiet);
      author = subst (λ (e : Entry). 1 ≤ e.author) (sym next) some;
      ask = ask;
      ask_fits = fit;
      judged = accepted_at_own_stamp rules h now author ask entry is;
    })

-- ---- what holds of each given entry

pub given_is_next : (rules : Rules) (h : List Entry) (entry : Entry) → Gives rules h entry → (entry.number ≡ length h + 1) × (stamp_of h < entry.stamp)
given_is_next rules h entry (inl expiry) =
    (ap (λ (e : Entry). e.number) expiry.is, subst (λ (e : Entry). stamp_of h < e.stamp) (sym expiry.is) (new_stamp_is_above h entry.stamp))
given_is_next rules h entry (inr answer) =
    (ap (λ (e : Entry). e.number) (accepted_is_next rules h entry.stamp entry.author answer.ask entry answer.judged), accepted_is_above rules h entry.stamp entry.author answer.ask entry answer.judged)

given_is_bounded : (rules : Rules) (h : List Entry) (entry : Entry) → stamp_of h ≤ latest_reading + length h → Gives rules h entry → IsBounded entry
given_is_bounded rules h entry bound (inl expiry) = subst IsBounded (sym expiry.is) (next_is_bounded h entry.stamp 0 kinds.Expire bound)
given_is_bounded rules h entry bound (inr answer) = accepted_is_bounded rules h entry.stamp entry.author answer.ask entry bound answer.judged

-- ---- an open trial ends a second or more behind the last stamp

lasts : (duration : ℕ) → is_fit_duration duration ≡ true → shortest_duration ≤ duration
lasts duration fit = leb-true shortest_duration duration (and_parts (nat_le shortest_duration duration) (nat_le duration longest_duration) fit).0

ahead_after : (ask : Ask) (stamp : ℕ) (world : World) → IsFit ask → IsAhead (world_after (kind_of_ask stamp ask) world).trial stamp
ahead_after (asks.Apply ops) stamp world fit = tt
ahead_after (asks.Trial id ops duration) stamp world fit = let least = lasts duration fit.duration_fits in omega (arith, least)
ahead_after (asks.Confirm id) stamp world fit = tt
ahead_after (asks.Cancel id) stamp world fit = tt
ahead_after (asks.Extend id duration) stamp world fit = by_trial world.trial
  where
    by_trial : (trial : Option OpenTrial) → IsAhead (world_after (kind_of_ask stamp (asks.Extend id duration)) (record { tree = world.tree; trial = trial })).trial stamp
    by_trial None = tt
    by_trial (Some trial) = let least = lasts duration fit.duration_fits in omega (arith, least)

given_is_ahead : (rules : Rules) (h : List Entry) (entry : Entry) → Gives rules h entry → IsAhead (world_after entry.kind (world_of h)).trial entry.stamp
given_is_ahead rules h entry (inl expiry) = subst (λ (e : Entry). IsAhead (world_after e.kind (world_of h)).trial e.stamp) (sym expiry.is) tt
given_is_ahead rules h entry (inr answer) =
    let next : entry ≡ asked h entry.stamp entry.author answer.ask = accepted_is_next rules h entry.stamp entry.author answer.ask entry answer.judged in
    subst (λ (e : Entry). IsAhead (world_after e.kind (world_of h)).trial e.stamp) (sym next) (ahead_after answer.ask (new_stamp h entry.stamp) (world_of h) answer.ask_fits)

-- the same of the history with the entry
pub ahead_after_one : (rules : Rules) (h : List Entry) (entry : Entry) → Gives rules h entry → IsAhead (world_of (h ++ entry ∷ [])).trial (stamp_of (h ++ entry ∷ []))
ahead_after_one rules h entry given =
    subst (λ stamp. IsAhead (world_of (h ++ entry ∷ [])).trial stamp) (sym (stamp_after_one h entry)) (subst (λ (world : World). IsAhead world.trial entry.stamp) (sym (world_after_one h entry)) (given_is_ahead rules h entry given))

-- ---- entries given in turn keep what each of them keeps

pub kept_in_turn : (rules : Rules) (Keeps : List Entry → Type 0) → ((h : List Entry) (entry : Entry) → Keeps h → Gives rules h entry → Keeps (h ++ entry ∷ [])) → (h more : List Entry) → Keeps h → GivenInTurn rules h more → Keeps (h ++ more)
kept_in_turn rules Keeps one h [] keeps given = subst Keeps (sym (append-nil h)) keeps
kept_in_turn rules Keeps one h (entry ∷ more) keeps given =
    subst Keeps (append_assoc h (entry ∷ []) more) (kept_in_turn rules Keeps one (h ++ entry ∷ []) more (one h entry keeps given.0) given.1)

pub kept_by_legal : (rules : Rules) (Keeps : List Entry → Type 0) → ((h : List Entry) (entry : Entry) → Keeps h → Gives rules h entry → Keeps (h ++ entry ∷ [])) → (base h : List Entry) → Keeps base → IsLegal rules base h → Keeps h
kept_by_legal rules Keeps one base h keeps legal = subst Keeps (sym legal.whole) (kept_in_turn rules Keeps one base legal.more keeps legal.given)

history_keeps : (rules : Rules) (h : List Entry) (entry : Entry) → IsHistory h → Gives rules h entry → IsHistory (h ++ entry ∷ [])
history_keeps rules h entry history given = let next = given_is_next rules h entry given in history_after_one h entry history next.0 next.1

pub legal_is_history : (rules : Rules) (base h : List Entry) → IsHistory base → IsLegal rules base h → IsHistory h
legal_is_history rules base h history legal = kept_by_legal rules IsHistory (history_keeps rules) base h history legal

pub legal_is_bounded : (rules : Rules) (base h : List Entry) → IsHistory base → AreBounded base → IsLegal rules base h → AreBounded h
legal_is_bounded rules base h history bounded legal = (kept_by_legal rules Both one base h (history, bounded) legal).1
  where
    Both : List Entry → Type 0
    Both es = IsHistory es × AreBounded es

    one : (es : List Entry) (entry : Entry) → Both es → Gives rules es entry → Both (es ++ entry ∷ [])
    one es entry both given = (history_keeps rules es entry both.0 given, All-push IsBounded es entry both.1 (given_is_bounded rules es entry (bounded_stamp es both.0 both.1) given))

pub legal_is_ahead : (rules : Rules) (base h : List Entry) → IsAhead (world_of base).trial (stamp_of base) → IsLegal rules base h → IsAhead (world_of h).trial (stamp_of h)
legal_is_ahead rules base h ahead legal = kept_by_legal rules (λ es. IsAhead (world_of es).trial (stamp_of es)) (λ es entry before. ahead_after_one rules es entry) base h ahead legal

-- ---- fronts, and more entries

pub base_is_legal : (rules : Rules) (base : List Entry) → IsLegal rules base base
base_is_legal rules base = record { more = []; whole = sym (append-nil base); given = tt }

front_in_turn : (rules : Rules) (h front more : List Entry) → GivenInTurn rules h (front ++ more) → GivenInTurn rules h front
front_in_turn rules h [] more given = tt
front_in_turn rules h (entry ∷ front) more given = (given.0, front_in_turn rules (h ++ entry ∷ []) front more given.1)

pub fronts_are_legal : (rules : Rules) (base front more : List Entry) → IsLegal rules base (base ++ (front ++ more)) → IsLegal rules base (base ++ front)
fronts_are_legal rules base front more legal =
    let same : front ++ more ≡ legal.more = append_cancel_left base (front ++ more) legal.more legal.whole in
    record { more = front; whole = refl; given = front_in_turn rules base front more (subst (GivenInTurn rules base) (sym same) legal.given) }

more_in_turn : (rules : Rules) (h front more : List Entry) → GivenInTurn rules h front → GivenInTurn rules (h ++ front) more → GivenInTurn rules h (front ++ more)
more_in_turn rules h [] more given further = subst (λ (es : List Entry). GivenInTurn rules es more) (append-nil h) further
more_in_turn rules h (entry ∷ front) more given further =
    (given.0, more_in_turn rules (h ++ entry ∷ []) front more given.1 (subst (λ (es : List Entry). GivenInTurn rules es more) (sym (append_assoc h (entry ∷ []) front)) further))

pub legal_goes_on : (rules : Rules) (base h more : List Entry) → IsLegal rules base h → IsLegal rules h more → IsLegal rules base more
legal_goes_on rules base h more legal further =
    record {
      more = legal.more ++ further.more;
      whole = further.whole ∙ ap (λ (es : List Entry). es ++ further.more) legal.whole ∙ append_assoc base legal.more further.more;
      given = more_in_turn rules base legal.more further.more legal.given (subst (λ (es : List Entry). GivenInTurn rules es further.more) legal.whole further.given);
    }

pub given_is_legal : (rules : Rules) (base h : List Entry) (entry : Entry) → IsLegal rules base h → Gives rules h entry → IsLegal rules base (h ++ entry ∷ [])
given_is_legal rules base h entry legal given = legal_goes_on rules base h (h ++ entry ∷ []) legal (record { more = entry ∷ []; whole = refl; given = (given, tt) })

-- ---- events

clock_is_legal : (rules : Rules) (base h : List Entry) (now : ℕ) → IsLegal rules base h → IsLegal rules base (after_expiry h now)
clock_is_legal rules base h now legal = by_test (is_due h now) refl
  where
    by_test : (due : Bool) → is_due h now ≡ due → IsLegal rules base (if due then h ++ next_entry h (new_stamp h now) 0 kinds.Expire ∷ [] else h)
    by_test true is = given_is_legal rules base h (next_entry h (new_stamp h now) 0 kinds.Expire) legal (expiry_is_given rules h now is)
    by_test false is = legal

-- nothing is due behind the clock's event
quiet_after_expiry : (h : List Entry) (stamp now : ℕ) → is_due (h ++ next_entry h stamp 0 kinds.Expire ∷ []) now ≡ false
quiet_after_expiry h stamp now =
    ap (λ (world : World). is_past world.trial (time_at (h ++ next_entry h stamp 0 kinds.Expire ∷ []) now)) (world_after_one h (next_entry h stamp 0 kinds.Expire))

pub quiet_after_clock : (h : List Entry) (now : ℕ) → is_due (after_expiry h now) now ≡ false
quiet_after_clock h now = by_test (is_due h now) refl
  where
    by_test : (due : Bool) → is_due h now ≡ due → is_due (if due then h ++ next_entry h (new_stamp h now) 0 kinds.Expire ∷ [] else h) now ≡ false
    by_test true is = quiet_after_expiry h (new_stamp h now) now
    by_test false is = is

judged_is_legal : (rules : Rules) (base h : List Entry) (now author : ℕ) (ask : Ask) → IsAhead (world_of h).trial (stamp_of h) → 1 ≤ author → IsFit ask → is_due h now ≡ false → IsLegal rules base h → IsLegal rules base (with_answer h (judge rules h now author ask))
judged_is_legal rules base h now author ask ahead some fit quiet legal = by_answer (judge rules h now author ask) refl
  where
    by_answer : (answer : Result Entry Refusal) → judge rules h now author ask ≡ answer → IsLegal rules base (with_answer h answer)
    by_answer (Ok entry) is = given_is_legal rules base h entry legal (accepted_is_given rules h now author ask entry ahead some fit quiet is)
    by_answer (Err refusal) is = legal

request_is_legal : (rules : Rules) (base h : List Entry) (now author : ℕ) (request : Request) → IsAhead (world_of base).trial (stamp_of base) → 1 ≤ author → IsFitRequest request → IsLegal rules base h → IsLegal rules base (history_after_request rules h now author request)
request_is_legal rules base h now author (Set (Ok ask)) ahead some fit legal =
    let ticked = clock_is_legal rules base h now legal in
    judged_is_legal rules base (after_expiry h now) now author ask (legal_is_ahead rules base (after_expiry h now) ahead ticked) some fit (quiet_after_clock h now) ticked
request_is_legal rules base h now author (Set (Err refusal)) ahead some fit legal = legal
request_is_legal rules base h now author (Get patterns) ahead some fit legal = by_test (list_any is_long patterns)
  where
    by_test : (long : Bool) → IsLegal rules base (if long then h else after_expiry h now)
    by_test true = legal
    by_test false = clock_is_legal rules base h now legal

pub event_is_legal : (rules : Rules) (base h : List Entry) (event : Event) → IsAhead (world_of base).trial (stamp_of base) → IsFitEvent event → IsLegal rules base h → IsLegal rules base (history_after rules h event)
event_is_legal rules base h event ahead fit legal = request_is_legal rules base h event.reading event.author event.request ahead fit.author fit.request_fits legal

pub events_are_legal : (rules : Rules) (base h : List Entry) (events : List Event) → IsAhead (world_of base).trial (stamp_of base) → AreFitEvents events → IsLegal rules base h → IsLegal rules base (history_after_all rules h events)
events_are_legal rules base h [] ahead fit legal = legal
events_are_legal rules base h (event ∷ events) ahead fit legal = events_are_legal rules base (history_after rules h event) events ahead fit.1 (event_is_legal rules base h event ahead fit.0 legal)

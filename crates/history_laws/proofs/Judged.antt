-- What is judged, the clock's event, and steps.
use Rattle.std.proofs.Common.{◌≡◌, ◌≢◌, ℕ, ◌+◌, ◌<◌, ◌≤◌, List, [], ◌∷◌, ◌++◌, Bool, true, false, Result, Ok, Err, length, refl, sym, ap, ◌∙◌, subst, arith, true≢false, is_ok, if◌then◌else◌}
use Rattle.std.specs.List.{AllByRecursion, list_any}
use Rattle.std.proofs.lemmas.List.Elements.{All-push, recursion_from_All}
use Rattle.base_kinds.specs.declared.entry.Entry.{Entry}
use Rattle.base_kinds.specs.declared.entry.Kind.{Kind}
use Rattle.base_kinds.specs.declared.entry.Kind.TheVariants as kinds
use Rattle.base_kinds.specs.declared.entry.Ask.{Ask}
use Rattle.base_kinds.specs.declared.entry.Ask.TheVariants as asks
use Rattle.base_kinds.specs.declared.refusal.Refusal.{Refusal}
use Rattle.base_kinds.specs.declared.refusal.Refusal.TheVariants.{NoMemory}
use Rattle.base_kinds.specs.History.{IsNumberedFrom, IsHistory, world_of, last_stamp, stamp_of}
use Rattle.base_kinds.specs.Step.{Rules, new_stamp, next_entry, is_due, after_expiry, kind_of_ask, refusal_cases, first_refusal, judge_at, judge, step, with_answer}
use Rattle.base_kinds.specs.Bases.{IsBounded, AreBounded}
use Rattle.base_kinds.specs.Events.{Request, Set, Get, Event, is_long, history_after_set, history_after_request, history_after, history_after_all}
use Rattle.base_kinds.specs.Limits.{latest_reading}
use Rattle.history_laws.specs.StepLaws.{is_refusal_of_judge}
use Rattle.history_laws.proofs.States.{history_after_one}

-- no case holds
abbrev pub NoneHolds : List (Bool × Refusal) → Type 0
NoneHolds = AllByRecursion (λ (this : Bool × Refusal). this.0 ≡ false)

-- where the entry comes, no case held
pub passed : (cases : List (Bool × Refusal)) (entry result : Entry) → first_refusal cases entry ≡ Ok result → NoneHolds cases × (entry ≡ result)
passed [] entry result is = (tt, cc is)
passed (this ∷ others) entry result is = by_test this.0 refl is (passed others entry result)
  where
    by_test : (test : Bool) → this.0 ≡ test → (if test then Err this.1 else first_refusal others entry) ≡ Ok result → (first_refusal others entry ≡ Ok result → NoneHolds others × (entry ≡ result)) → ((this.0 ≡ false) × NoneHolds others) × (entry ≡ result)
    by_test true holds never more = absurd (true≢false (sym (ap is_ok never)))
    by_test false holds further more = let rest = more further in ((holds, rest.0), rest.1)

-- the entry that an ask would become
abbrev pub asked : List Entry → ℕ → ℕ → Ask → Entry
asked h now author ask = next_entry h (new_stamp h now) author (kind_of_ask (new_stamp h now) ask)

pub accepted : (rules : Rules) (h : List Entry) (now author : ℕ) (ask : Ask) (entry : Entry) → judge rules h now author ask ≡ Ok entry → NoneHolds (refusal_cases rules h (world_of h) ask (rules.record_octets (asked h now author ask))) × (asked h now author ask ≡ entry)
accepted rules h now author ask entry is = passed (refusal_cases rules h (world_of h) ask (rules.record_octets (asked h now author ask))) (asked h now author ask) entry is

pub accepted_is_next : (rules : Rules) (h : List Entry) (now author : ℕ) (ask : Ask) (entry : Entry) → judge rules h now author ask ≡ Ok entry → entry ≡ asked h now author ask
accepted_is_next rules h now author ask entry is = sym (accepted rules h now author ask entry is).1

pub new_stamp_is_above : (h : List Entry) (now : ℕ) → stamp_of h < new_stamp h now
new_stamp_is_above h now = omega arith

pub accepted_is_above : (rules : Rules) (h : List Entry) (now author : ℕ) (ask : Ask) (entry : Entry) → judge rules h now author ask ≡ Ok entry → stamp_of h < entry.stamp
accepted_is_above rules h now author ask entry is = subst (λ (e : Entry). stamp_of h < e.stamp) (sym (accepted_is_next rules h now author ask entry is)) (new_stamp_is_above h now)

pub next_is_bounded : (h : List Entry) (now author : ℕ) (kind : Kind) → stamp_of h ≤ latest_reading + length h → IsBounded (next_entry h (new_stamp h now) author kind)
next_is_bounded h now author kind bound = omega (arith, bound)

pub accepted_is_bounded : (rules : Rules) (h : List Entry) (now author : ℕ) (ask : Ask) (entry : Entry) → stamp_of h ≤ latest_reading + length h → judge rules h now author ask ≡ Ok entry → IsBounded entry
accepted_is_bounded rules h now author ask entry bound is = subst IsBounded (sym (accepted_is_next rules h now author ask entry is)) (next_is_bounded h now author (kind_of_ask (new_stamp h now) ask) bound)

-- a stamp is the new stamp at itself
pub own_stamp : (h : List Entry) (now : ℕ) → new_stamp h (new_stamp h now) ≡ new_stamp h now
own_stamp h now = omega arith

pub judged_by_stamp : (rules : Rules) (h : List Entry) (now author : ℕ) (ask : Ask) → judge rules h (new_stamp h now) author ask ≡ judge rules h now author ask
judged_by_stamp rules h now author ask = ap (λ stamp. judge_at rules h stamp author ask) (own_stamp h now)

pub accepted_at_own_stamp : (rules : Rules) (h : List Entry) (now author : ℕ) (ask : Ask) (entry : Entry) → judge rules h now author ask ≡ Ok entry → judge rules h entry.stamp entry.author ask ≡ Ok entry
accepted_at_own_stamp rules h now author ask entry is =
    let next : asked h now author ask ≡ entry = (accepted rules h now author ask entry is).1 in
    subst (λ (e : Entry). judge rules h e.stamp e.author ask ≡ Ok entry) next (judged_by_stamp rules h now author ask ∙ is)

-- ---- histories

pub clock_keeps_history : (h : List Entry) (now : ℕ) → IsHistory h → IsHistory (after_expiry h now)
clock_keeps_history h now history = by_test (is_due h now)
  where
    by_test : (due : Bool) → IsHistory (if due then h ++ next_entry h (new_stamp h now) 0 kinds.Expire ∷ [] else h)
    by_test true = history_after_one h (next_entry h (new_stamp h now) 0 kinds.Expire) history refl (new_stamp_is_above h now)
    by_test false = history

judged_keeps_history : (rules : Rules) (h : List Entry) (now author : ℕ) (ask : Ask) → IsHistory h → IsHistory (with_answer h (judge rules h now author ask))
judged_keeps_history rules h now author ask history = by_answer (judge rules h now author ask) refl
  where
    by_answer : (answer : Result Entry Refusal) → judge rules h now author ask ≡ answer → IsHistory (with_answer h answer)
    by_answer (Ok entry) is = history_after_one h entry history (ap (λ (e : Entry). e.number) (accepted_is_next rules h now author ask entry is)) (accepted_is_above rules h now author ask entry is)
    by_answer (Err refusal) is = history

-- what each step keeps, each request keeps
abbrev KeptByJudge : Rules → (List Entry → Type 0) → Type 0
KeptByJudge rules Keeps = (h : List Entry) (now author : ℕ) (ask : Ask) → Keeps h → Keeps (with_answer h (judge rules h now author ask))

abbrev KeptByClock : (List Entry → Type 0) → Type 0
KeptByClock Keeps = (h : List Entry) (now : ℕ) → Keeps h → Keeps (after_expiry h now)

request_keeps : (rules : Rules) (Keeps : List Entry → Type 0) → KeptByClock Keeps → KeptByJudge rules Keeps → (h : List Entry) (now author : ℕ) (request : Request) → Keeps h → Keeps (history_after_request rules h now author request)
request_keeps rules Keeps clock judged h now author (Set (Ok ask)) keeps = judged (after_expiry h now) now author ask (clock h now keeps)
request_keeps rules Keeps clock judged h now author (Set (Err refusal)) keeps = keeps
request_keeps rules Keeps clock judged h now author (Get patterns) keeps = by_test (list_any is_long patterns)
  where
    by_test : (long : Bool) → Keeps (if long then h else after_expiry h now)
    by_test true = keeps
    by_test false = clock h now keeps

pub event_keeps_history : (rules : Rules) (h : List Entry) (event : Event) → IsHistory h → IsHistory (history_after rules h event)
event_keeps_history rules h event history = request_keeps rules IsHistory clock_keeps_history (judged_keeps_history rules) h event.reading event.author event.request history

pub events_keep_history : (rules : Rules) (h : List Entry) (events : List Event) → IsHistory h → IsHistory (history_after_all rules h events)
events_keep_history rules h [] history = history
events_keep_history rules h (event ∷ events) history = events_keep_history rules (history_after rules h event) events (event_keeps_history rules h event history)

-- ---- bounds

last_is_bounded : (number stamp : ℕ) (entries : List Entry) → IsNumberedFrom number stamp entries → AllByRecursion IsBounded entries → stamp + 1 ≤ latest_reading + number → last_stamp stamp entries + 1 ≤ latest_reading + number + length entries
last_is_bounded number stamp [] goes bounded bound = omega (arith, bound)
last_is_bounded number stamp (entry ∷ entries) goes bounded bound =
    let here : entry.stamp + 1 ≤ latest_reading + (number + 1) = omega (arith, bounded.0, goes.0) in
    let rest = last_is_bounded (number + 1) entry.stamp entries goes.2 bounded.1 here in
    omega (arith, rest)

-- the last stamp of a history whose stamps are bounded
pub bounded_stamp : (h : List Entry) → IsHistory h → AreBounded h → stamp_of h ≤ latest_reading + length h
bounded_stamp h history bounded =
    let last = last_is_bounded 1 0 h history (recursion_from_All IsBounded h bounded) (omega arith) in
    omega (arith, last)

clock_keeps_bound : (h : List Entry) (now : ℕ) → IsHistory h → AreBounded h → AreBounded (after_expiry h now)
clock_keeps_bound h now history bounded = by_test (is_due h now)
  where
    by_test : (due : Bool) → AreBounded (if due then h ++ next_entry h (new_stamp h now) 0 kinds.Expire ∷ [] else h)
    by_test true = All-push IsBounded h (next_entry h (new_stamp h now) 0 kinds.Expire) bounded (next_is_bounded h now 0 kinds.Expire (bounded_stamp h history bounded))
    by_test false = bounded

judged_keeps_bound : (rules : Rules) (h : List Entry) (now author : ℕ) (ask : Ask) → IsHistory h → AreBounded h → AreBounded (with_answer h (judge rules h now author ask))
judged_keeps_bound rules h now author ask history bounded = by_answer (judge rules h now author ask) refl
  where
    by_answer : (answer : Result Entry Refusal) → judge rules h now author ask ≡ answer → AreBounded (with_answer h answer)
    by_answer (Ok entry) is = All-push IsBounded h entry bounded (accepted_is_bounded rules h now author ask entry (bounded_stamp h history bounded) is)
    by_answer (Err refusal) is = bounded

abbrev IsBoundedHistory : List Entry → Type 0
IsBoundedHistory h = IsHistory h × AreBounded h

clock_keeps_both : KeptByClock IsBoundedHistory
clock_keeps_both h now both = (clock_keeps_history h now both.0, clock_keeps_bound h now both.0 both.1)

judged_keeps_both : (rules : Rules) → KeptByJudge rules IsBoundedHistory
judged_keeps_both rules h now author ask both = (judged_keeps_history rules h now author ask both.0, judged_keeps_bound rules h now author ask both.0 both.1)

event_keeps_both : (rules : Rules) (h : List Entry) (event : Event) → IsBoundedHistory h → IsBoundedHistory (history_after rules h event)
event_keeps_both rules h event both = request_keeps rules IsBoundedHistory clock_keeps_both (judged_keeps_both rules) h event.reading event.author event.request both

pub events_keep_bound : (rules : Rules) (h : List Entry) (events : List Event) → IsHistory h → AreBounded h → AreBounded (history_after_all rules h events)
events_keep_bound rules h [] history bounded = bounded
events_keep_bound rules h (event ∷ events) history bounded =
    let both = event_keeps_both rules h event (history, bounded) in
    events_keep_bound rules (history_after rules h event) events both.0 both.1

-- ---- answers

pub accepted_adds_one : (rules : Rules) (h : List Entry) (now author : ℕ) (ask : Ask) (entry : Entry) → step rules h now author ask ≡ Ok entry → history_after_set rules h now author (Ok ask) ≡ after_expiry h now ++ entry ∷ []
accepted_adds_one rules h now author ask entry is = ap (with_answer (after_expiry h now)) is

pub refused_adds_none : (rules : Rules) (h : List Entry) (now author : ℕ) (ask : Ask) (refusal : Refusal) → step rules h now author ask ≡ Err refusal → history_after_set rules h now author (Ok ask) ≡ after_expiry h now
refused_adds_none rules h now author ask refusal is = ap (with_answer (after_expiry h now)) is

-- ---- refusals

abbrev AreOfJudge : List (Bool × Refusal) → Type 0
AreOfJudge = AllByRecursion (λ (this : Bool × Refusal). is_refusal_of_judge this.1 ≡ true)

refused_by_case : (cases : List (Bool × Refusal)) (entry : Entry) (refusal : Refusal) → AreOfJudge cases → first_refusal cases entry ≡ Err refusal → is_refusal_of_judge refusal ≡ true
refused_by_case [] entry refusal all is = absurd (true≢false (ap is_ok is))
refused_by_case (this ∷ others) entry refusal all is = by_test this.0 is (refused_by_case others entry refusal all.1)
  where
    by_test : (test : Bool) → (if test then Err this.1 else first_refusal others entry) ≡ Err refusal → (first_refusal others entry ≡ Err refusal → is_refusal_of_judge refusal ≡ true) → is_refusal_of_judge refusal ≡ true
    by_test true here more = let same : this.1 ≡ refusal = cc here in subst (λ (r : Refusal). is_refusal_of_judge r ≡ true) same all.0
    by_test false further more = more further

cases_of_judge : (rules : Rules) (h : List Entry) (ask : Ask) (octets : ℕ) → AreOfJudge (refusal_cases rules h (world_of h) ask octets)
cases_of_judge rules h (asks.Apply ops) octets = (refl, (refl, (refl, (refl, tt))))
cases_of_judge rules h (asks.Trial id ops duration) octets = (refl, (refl, (refl, (refl, tt))))
cases_of_judge rules h (asks.Confirm id) octets = (refl, (refl, tt))
cases_of_judge rules h (asks.Cancel id) octets = (refl, (refl, tt))
cases_of_judge rules h (asks.Extend id duration) octets = (refl, (refl, (refl, tt)))

pub refused_for_six : (rules : Rules) (h : List Entry) (now author : ℕ) (ask : Ask) (refusal : Refusal) → judge rules h now author ask ≡ Err refusal → is_refusal_of_judge refusal ≡ true
refused_for_six rules h now author ask refusal is =
    let octets = rules.record_octets (asked h now author ask) in
    refused_by_case (refusal_cases rules h (world_of h) ask octets) (asked h now author ask) refusal (cases_of_judge rules h ask octets) is

pub judged_without_memory : (rules : Rules) (h : List Entry) (now author : ℕ) (ask : Ask) → judge rules h now author ask ≢ Err NoMemory
judged_without_memory rules h now author ask is = true≢false (sym (refused_for_six rules h now author ask NoMemory is))

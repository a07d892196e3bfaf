-- What holds of the clock's event, of what is judged, and of steps, whatever a target judges by.
use Rattle.std.specs.Prelude.{◌≡◌, ◌≢◌, IsTrue, ℕ, ◌+◌, ◌<◌, ◌≤◌, List, [], ◌∷◌, ◌++◌, Bool, true, false, length, Ok, Err}
use Rattle.base_kinds.specs.declared.entry.Entry.{Entry}
use Rattle.base_kinds.specs.declared.entry.Ask.{Ask}
use Rattle.base_kinds.specs.declared.refusal.Refusal.{Refusal}
use Rattle.base_kinds.specs.declared.refusal.Refusal.TheVariants.{TrialOpen, NoTrial, WrongId, TreeInvalid, TreeFull, LogFull, NoMemory}
use Rattle.base_kinds.specs.Bases.{IsBounded, AreBounded}
use Rattle.base_kinds.specs.Events.{Event, history_after_set, history_after, history_after_all}
use Rattle.base_kinds.specs.History.{IsHistory, stamp_of}
use Rattle.base_kinds.specs.Limits.{latest_reading}
use Rattle.base_kinds.specs.Step.{Rules, new_stamp, next_entry, kind_of_ask, after_expiry, judge, step}

-- the clock's event keeps a history
abbrev pub ClockKeepsHistory : Type 0
ClockKeepsHistory = (h : List Entry) (now : ℕ) → IsHistory h → IsHistory (after_expiry h now)

-- and so does an ask behind it
abbrev pub EventKeepsHistory : Type 0
EventKeepsHistory =
    (rules : Rules) (h : List Entry) (event : Event) → IsHistory h →
    IsHistory (history_after rules h event)

-- whatever is asked, entry numbers count from 1 and stamps rise
abbrev pub EventsKeepHistory : Type 0
EventsKeepHistory =
    (rules : Rules) (h : List Entry) (events : List Event) → IsHistory h →
    IsHistory (history_after_all rules h events)

-- and no stamp gets far behind the year 2100
abbrev pub EventsKeepBound : Type 0
EventsKeepBound =
    (rules : Rules) (h : List Entry) (events : List Event) → IsHistory h → AreBounded h →
    AreBounded (history_after_all rules h events)

-- an accepted ask adds its entry behind the clock's event
abbrev pub AcceptedAddsOne : Type 0
AcceptedAddsOne =
    (rules : Rules) (h : List Entry) (now author : ℕ) (ask : Ask) (entry : Entry) →
    step rules h now author ask ≡ Ok entry →
    history_after_set rules h now author (Ok ask) ≡ after_expiry h now ++ entry ∷ []

-- a refused ask leaves the history as it was, but for the clock's event
abbrev pub RefusedAddsNone : Type 0
RefusedAddsNone =
    (rules : Rules) (h : List Entry) (now author : ℕ) (ask : Ask) (refusal : Refusal) →
    step rules h now author ask ≡ Err refusal →
    history_after_set rules h now author (Ok ask) ≡ after_expiry h now

-- why an ask may be refused over a history
abbrev pub is_refusal_of_judge : Refusal → Bool
is_refusal_of_judge TrialOpen = true
is_refusal_of_judge NoTrial = true
is_refusal_of_judge WrongId = true
is_refusal_of_judge TreeInvalid = true
is_refusal_of_judge TreeFull = true
is_refusal_of_judge LogFull = true
is_refusal_of_judge _ = false

-- there is no other refusal
abbrev pub RefusedForSix : Type 0
RefusedForSix =
    (rules : Rules) (h : List Entry) (now author : ℕ) (ask : Ask) (refusal : Refusal) →
    judge rules h now author ask ≡ Err refusal → IsTrue (is_refusal_of_judge refusal)

-- so want of memory is never among them
abbrev pub JudgedWithoutMemory : Type 0
JudgedWithoutMemory =
    (rules : Rules) (h : List Entry) (now author : ℕ) (ask : Ask) →
    judge rules h now author ask ≢ Err NoMemory

-- an accepted ask is the entry that comes next, with the ask's author and content and the new stamp
abbrev pub AcceptedIsNext : Type 0
AcceptedIsNext =
    (rules : Rules) (h : List Entry) (now author : ℕ) (ask : Ask) (entry : Entry) →
    judge rules h now author ask ≡ Ok entry →
    entry ≡ next_entry h (new_stamp h now) author (kind_of_ask (new_stamp h now) ask)

-- its stamp is above the last one
abbrev pub AcceptedIsAbove : Type 0
AcceptedIsAbove =
    (rules : Rules) (h : List Entry) (now author : ℕ) (ask : Ask) (entry : Entry) →
    judge rules h now author ask ≡ Ok entry → stamp_of h < entry.stamp

-- where the last stamp is bounded, its own is
abbrev pub AcceptedIsBounded : Type 0
AcceptedIsBounded =
    (rules : Rules) (h : List Entry) (now author : ℕ) (ask : Ask) (entry : Entry) →
    stamp_of h ≤ latest_reading + length h → judge rules h now author ask ≡ Ok entry →
    IsBounded entry

-- the same is judged at the stamp that a new entry would get
abbrev pub JudgedByStamp : Type 0
JudgedByStamp =
    (rules : Rules) (h : List Entry) (now author : ℕ) (ask : Ask) →
    judge rules h (new_stamp h now) author ask ≡ judge rules h now author ask

-- and so an accepted ask is accepted at its entry's own stamp
abbrev pub AcceptedAtOwnStamp : Type 0
AcceptedAtOwnStamp =
    (rules : Rules) (h : List Entry) (now author : ℕ) (ask : Ask) (entry : Entry) →
    judge rules h now author ask ≡ Ok entry → judge rules h entry.stamp entry.author ask ≡ Ok entry

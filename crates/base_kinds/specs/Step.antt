-- One step of a history: the event of the clock, and then what becomes of an ask. The kinds of asks are those of gNMI 3.4
-- and of its commit-confirmed extension; stamps, the order of the refusals and the log's limits are this project's own.
use Rattle.std.specs.Prelude.{ℕ, ◌+◌, List, [], ◌∷◌, ◌++◌, Bool, true, false, not, nat_le, length, min, max, Option, Some, None, Result, Ok, Err, if◌then◌else◌}
use Rattle.std.specs.Str.{bytes_eq}
use Rattle.base_kinds.specs.declared.operation.Row.{Row}
use Rattle.base_kinds.specs.declared.operation.Op.{Op}
use Rattle.base_kinds.specs.declared.entry.Entry.{Entry}
use Rattle.base_kinds.specs.declared.entry.Kind.{Kind}
use Rattle.base_kinds.specs.declared.entry.Kind.TheVariants as kinds
use Rattle.base_kinds.specs.declared.entry.Ask.{Ask}
use Rattle.base_kinds.specs.declared.entry.Ask.TheVariants as asks
use Rattle.base_kinds.specs.declared.refusal.Refusal.{Refusal}
use Rattle.base_kinds.specs.declared.refusal.Refusal.TheVariants.{TrialOpen, NoTrial, WrongId, TreeInvalid, TreeFull, LogFull}
use Rattle.base_kinds.specs.Limits.{latest_reading, gate_octets, closing_octets}
use Rattle.base_kinds.specs.Tree.{effect}
use Rattle.base_kinds.specs.History.{World, OpenTrial, world_of, stamp_of}

-- What a target judges by: which trees are valid, which are small enough, how many octets an entry's record has,
-- and whether the log of a history has room for so many further entries and octets.
pub record Rules : Type 0 where
  pub valid : List Row → Bool
  pub fits : List Row → Bool
  pub record_octets : Entry → ℕ
  pub has_room : List Entry → ℕ → ℕ → Bool

-- a reading of the clock counts up to the year 2100
abbrev pub clamped_reading : ℕ → ℕ
clamped_reading now = min now latest_reading

-- the time at a reading: it doesn't go back behind the last entry
abbrev pub time_at : List Entry → ℕ → ℕ
time_at h now = max (clamped_reading now) (stamp_of h)

-- the stamp of a new entry: it is above the last one
abbrev pub new_stamp : List Entry → ℕ → ℕ
new_stamp h now = max (clamped_reading now) (stamp_of h + 1)

-- the entry that comes next
abbrev pub next_entry : List Entry → ℕ → ℕ → Kind → Entry
next_entry h stamp author kind =
    record { number = length h + 1; author = author; stamp = stamp; kind = kind }

-- the open trial has come to its deadline
abbrev pub is_past : Option OpenTrial → ℕ → Bool
is_past None time = false
is_past (Some trial) time = nat_le trial.deadline time

abbrev pub is_due : List Entry → ℕ → Bool
is_due h now = is_past (world_of h).trial (time_at h now)

-- a trial that is due expires before anything else
abbrev pub after_expiry : List Entry → ℕ → List Entry
after_expiry h now =
    if is_due h now then h ++ next_entry h (new_stamp h now) 0 kinds.Expire ∷ [] else h

abbrev pub is_open : Option OpenTrial → Bool
is_open None = false
is_open (Some trial) = true

-- the open trial has another id
abbrev pub is_other : Option OpenTrial → List ℕ → Bool
is_other None id = false
is_other (Some trial) id = not (bytes_eq trial.id id)

-- what an ask becomes, as an entry with this stamp
abbrev pub kind_of_ask : ℕ → Ask → Kind
kind_of_ask stamp (asks.Apply ops) = kinds.Apply ops
kind_of_ask stamp (asks.Trial id ops duration) = kinds.Trial id ops (stamp + duration)
kind_of_ask stamp (asks.Confirm id) = kinds.Confirm
kind_of_ask stamp (asks.Cancel id) = kinds.Cancel
kind_of_ask stamp (asks.Extend id duration) = kinds.Extend (stamp + duration)

-- The cases in which operations are refused, in this order.
abbrev pub refusal_cases_of_ops : Rules → List Entry → World → List Op → ℕ → ℕ →
    List (Bool × Refusal)
refusal_cases_of_ops rules h world ops entries octets =
    (is_open world.trial, TrialOpen)
    ∷ (not (rules.valid (effect ops world.tree)), TreeInvalid)
    ∷ (not (rules.fits (effect ops world.tree)), TreeFull)
    ∷ (not (rules.has_room h entries octets), LogFull) ∷ []

abbrev pub refusal_cases_of_trial : World → List ℕ → List (Bool × Refusal) → List (Bool × Refusal)
refusal_cases_of_trial world id others =
    (not (is_open world.trial), NoTrial) ∷ (is_other world.trial id, WrongId) ∷ others

-- The cases in which the ask is refused, whose entry's record has so many octets. A trial that is open behind the entry can
-- still be closed: there is room for that entry too.
abbrev pub refusal_cases : Rules → List Entry → World → Ask → ℕ → List (Bool × Refusal)
refusal_cases rules h world (asks.Apply ops) octets =
    refusal_cases_of_ops rules h world ops 1 (octets + gate_octets)
refusal_cases rules h world (asks.Trial id ops duration) octets =
    refusal_cases_of_ops rules h world ops 2 (octets + (gate_octets + closing_octets))
refusal_cases rules h world (asks.Confirm id) octets = refusal_cases_of_trial world id []
refusal_cases rules h world (asks.Cancel id) octets = refusal_cases_of_trial world id []
refusal_cases rules h world (asks.Extend id duration) octets =
    refusal_cases_of_trial world id
    ((not (rules.has_room h 2 (octets + (gate_octets + closing_octets))), LogFull) ∷ [])

-- the refusal of the first case that holds, else the entry
abbrev pub first_refusal : List (Bool × Refusal) → Entry → Result Entry Refusal
first_refusal [] entry = Ok entry
first_refusal (this ∷ others) entry = if this.0 then Err this.1 else first_refusal others entry

abbrev pub judge_at : Rules → List Entry → ℕ → ℕ → Ask → Result Entry Refusal
judge_at rules h stamp author ask =
    let entry = next_entry h stamp author (kind_of_ask stamp ask) in
    first_refusal (refusal_cases rules h (world_of h) ask (rules.record_octets entry)) entry

-- what becomes of an ask at this reading of the clock: an entry, or why it is refused
abbrev pub judge : Rules → List Entry → ℕ → ℕ → Ask → Result Entry Refusal
judge rules h now author ask = judge_at rules h (new_stamp h now) author ask

-- the same, after the event of the clock
abbrev pub step : Rules → List Entry → ℕ → ℕ → Ask → Result Entry Refusal
step rules h now author ask = judge rules (after_expiry h now) now author ask

-- the history with the entry, where there is one
abbrev pub with_answer : List Entry → Result Entry Refusal → List Entry
with_answer h (Ok entry) = h ++ entry ∷ []
with_answer h (Err refusal) = h

-- A history with one more entry, its fronts, and its trees.
use Rattle.std.proofs.Common.{◌≡◌, ℕ, ◌+◌, ◌<◌, List, [], ◌∷◌, ◌++◌, Option, Some, None, length, refl, subst, arith}
use Rattle.std.specs.List.Sorted.{IsStrictlySortedBy}
use Rattle.base_kinds.specs.declared.operation.Row.{Row}
use Rattle.base_kinds.specs.declared.entry.Entry.{Entry}
use Rattle.base_kinds.specs.declared.entry.Kind.{Kind}
use Rattle.base_kinds.specs.declared.entry.Kind.TheVariants as kinds
use Rattle.base_kinds.specs.History.{World, OpenTrial, IsNumberedFrom, IsHistory, world_after, world_from, world_of, last_stamp, stamp_of, empty_world}
use Rattle.base_kinds.specs.Rising.{IsRising}
use Rattle.history_laws.proofs.Effects.{rising_effect}

pub world_from_more : (world : World) (entries more : List Entry) → world_from world (entries ++ more) ≡ world_from (world_from world entries) more
world_from_more world [] more = refl
world_from_more world (entry ∷ entries) more = world_from_more (world_after entry.kind world) entries more

pub world_after_one : (h : List Entry) (entry : Entry) → world_of (h ++ entry ∷ []) ≡ world_after entry.kind (world_of h)
world_after_one h entry = world_from_more empty_world h (entry ∷ [])

pub world_after_more : (h more : List Entry) → world_of (h ++ more) ≡ world_from (world_of h) more
world_after_more h more = world_from_more empty_world h more

last_stamp_after_one : (stamp : ℕ) (entries : List Entry) (entry : Entry) → last_stamp stamp (entries ++ entry ∷ []) ≡ entry.stamp
last_stamp_after_one stamp [] entry = refl
last_stamp_after_one stamp (first ∷ entries) entry = last_stamp_after_one first.stamp entries entry

pub stamp_after_one : (h : List Entry) (entry : Entry) → stamp_of (h ++ entry ∷ []) ≡ entry.stamp
stamp_after_one h entry = last_stamp_after_one 0 h entry

goes_on_after_one : (number stamp : ℕ) (entries : List Entry) (entry : Entry) → IsNumberedFrom number stamp entries → entry.number ≡ length entries + number → last_stamp stamp entries < entry.stamp → IsNumberedFrom number stamp (entries ++ entry ∷ [])
goes_on_after_one number stamp [] entry goes is above = (omega (arith, is), above, tt)
goes_on_after_one number stamp (first ∷ entries) entry goes is above = (goes.0, goes.1, goes_on_after_one (number + 1) first.stamp entries entry goes.2 (omega (arith, is)) above)

pub history_after_one : (h : List Entry) (entry : Entry) → IsHistory h → entry.number ≡ length h + 1 → stamp_of h < entry.stamp → IsHistory (h ++ entry ∷ [])
history_after_one h entry history number above = goes_on_after_one 1 0 h entry history number above

front_goes_on : (number stamp : ℕ) (entries more : List Entry) → IsNumberedFrom number stamp (entries ++ more) → IsNumberedFrom number stamp entries
front_goes_on number stamp [] more goes = tt
front_goes_on number stamp (first ∷ entries) more goes = (goes.0, goes.1, front_goes_on (number + 1) first.stamp entries more goes.2)

pub front_is_history : (h more : List Entry) → IsHistory (h ++ more) → IsHistory h
front_is_history h more history = front_goes_on 1 0 h more history

-- ---- the trees

abbrev BeforeRises : Option OpenTrial → Type 0
BeforeRises None = Unit {0}
BeforeRises (Some trial) = IsRising trial.before

abbrev Rises : World → Type 0
Rises world = IsRising world.tree × BeforeRises world.trial

rises_after : (kind : Kind) (tree : List Row) (trial : Option OpenTrial) → IsRising tree → BeforeRises trial → Rises (world_after kind (record { tree = tree; trial = trial }))
rises_after (kinds.Apply ops) tree trial rising before = (rising_effect ops tree rising, tt)
rises_after (kinds.Trial id ops deadline) tree trial rising before = (rising_effect ops tree rising, rising)
rises_after kinds.Confirm tree trial rising before = (rising, tt)
rises_after kinds.Cancel tree None rising before = (rising, tt)
rises_after kinds.Cancel tree (Some trial) rising before = (before, tt)
rises_after kinds.Expire tree None rising before = (rising, tt)
rises_after kinds.Expire tree (Some trial) rising before = (before, tt)
rises_after kinds.Restart tree None rising before = (rising, tt)
rises_after kinds.Restart tree (Some trial) rising before = (before, tt)
rises_after (kinds.Extend deadline) tree None rising before = (rising, tt)
rises_after (kinds.Extend deadline) tree (Some trial) rising before = (rising, before)

rises_from : (world : World) (entries : List Entry) → Rises world → Rises (world_from world entries)
rises_from world [] rises = rises
rises_from world (entry ∷ entries) rises = rises_from (world_after entry.kind world) entries (rises_after entry.kind world.tree world.trial rises.0 rises.1)

rises_always : (h : List Entry) → Rises (world_of h)
unfolding IsStrictlySortedBy
rises_always h = rises_from empty_world h (tt, tt)

pub rising_world : (h : List Entry) → IsRising (world_of h).tree
rising_world h = (rises_always h).0

pub rising_before : (h : List Entry) (trial : OpenTrial) → (world_of h).trial ≡ Some trial → IsRising trial.before
rising_before h trial is = subst BeforeRises is (rises_always h).1

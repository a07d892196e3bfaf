-- What may be appended to a journal, and what a journal's history is to laws of other histories.
use Rattle.std.specs.Prelude.{◌≡◌, ℕ, ◌≤◌, List, true, Ok}
use Rattle.base_kinds.specs.declared.entry.Entry.{Entry}
use Rattle.base_kinds.specs.declared.entry.Ask.{Ask}
use Rattle.base_kinds.specs.declared.entry.Kind.TheVariants as kinds
use Rattle.base_kinds.specs.declared.entry.Limits.{Limits}
use Rattle.base_kinds.specs.Schema.{SchemaNode}
use Rattle.base_kinds.specs.History.{IsHistory, world_of, stamp_of}
use Rattle.base_kinds.specs.Rules.{rules_of}
use Rattle.base_kinds.specs.Step.{is_due, new_stamp, next_entry, judge}
use Rattle.base_kinds.specs.Legal.{IsFit, Gives, IsLegal}
use Rattle.base_kinds.specs.Bases.{AreBounded, IsAhead, HasSoundTrees, IsBase}
use Rattle.base_kinds.specs.Room.{CanClose}
use Rattle.journal_format.specs.Histories.{MayFollow, IsJournalHistory, has_trial}

-- what becomes of a fit ask of some author may stand behind a journal's history
abbrev pub JudgedMayFollow : Type 0
JudgedMayFollow = (schema : List SchemaNode) (limits : Limits) (h : List Entry) (now author : ℕ)
    (ask : Ask) (entry : Entry) → IsJournalHistory limits h → 1 ≤ author → IsFit ask
    → judge (rules_of schema limits) h now author ask ≡ Ok entry → MayFollow limits h entry

-- so may the event of the clock, where a trial is due
abbrev pub ExpiryMayFollow : Type 0
ExpiryMayFollow = (limits : Limits) (h : List Entry) (now : ℕ) → IsJournalHistory limits h
    → is_due h now ≡ true → MayFollow limits h (next_entry h (new_stamp h now) 0 kinds.Expire)

-- and the entry of a target that is started anew, where a trial is open
abbrev pub RestartMayFollow : Type 0
RestartMayFollow = (limits : Limits) (h : List Entry) (now : ℕ) → IsJournalHistory limits h
    → has_trial h ≡ true → MayFollow limits h (next_entry h (new_stamp h now) 0 kinds.Restart)

-- so each entry that is given may follow
abbrev pub GivenMayFollow : Type 0
GivenMayFollow = (schema : List SchemaNode) (limits : Limits) (h : List Entry) (entry : Entry)
    → IsJournalHistory limits h → Gives (rules_of schema limits) h entry → MayFollow limits h entry

-- and a journal may hold every history that goes on legally from one that it may hold
abbrev pub JournalsHoldLegal : Type 0
JournalsHoldLegal = (schema : List SchemaNode) (limits : Limits) (base h : List Entry)
    → IsJournalHistory limits base → IsLegal (rules_of schema limits) base h
    → IsJournalHistory limits h

-- a journal's history is numbered from 1, and its stamps rise
abbrev pub JournalIsHistory : Type 0
JournalIsHistory = (limits : Limits) (h : List Entry) → IsJournalHistory limits h → IsHistory h

-- they are bounded
abbrev pub JournalIsBounded : Type 0
JournalIsBounded = (limits : Limits) (h : List Entry) → IsJournalHistory limits h → AreBounded h

-- an open trial ends behind the last stamp, by the shortest duration or more
abbrev pub JournalIsAhead : Type 0
JournalIsAhead = (limits : Limits) (h : List Entry) → IsJournalHistory limits h
    → IsAhead (world_of h).trial (stamp_of h)

-- and can be closed
abbrev pub JournalCanClose : Type 0
JournalCanClose = (limits : Limits) (h : List Entry) → IsJournalHistory limits h
    → CanClose limits h (world_of h).trial

-- so it is a base, where its trees are sound
abbrev pub JournalIsBase : Type 0
JournalIsBase = (schema : List SchemaNode) (limits : Limits) (h : List Entry)
    → IsJournalHistory limits h → HasSoundTrees schema (world_of h) → IsBase schema limits h

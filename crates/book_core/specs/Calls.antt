-- How many calls of the disk the calls of a book make: two where a doubt is settled, and four for
-- each entry. Where one fails, which it was decides the history that is left and what is in doubt.
use Rattle.std.specs.Prelude.{◌≡◌, ◌⊎◌, ℕ, ◌+◌, ◌<◌, List, Option, Some, None, Result, Ok, Err, if◌then◌else◌}
use Rattle.base_kinds.specs.declared.entry.Entry.{Entry}
use Rattle.base_kinds.specs.declared.entry.Kind.TheVariants as kinds
use Rattle.base_kinds.specs.declared.refusal.Refusal.{Refusal}
use Rattle.base_kinds.specs.declared.refusal.Refusal.TheVariants as refusals
use Rattle.base_kinds.specs.Step.{is_due, after_expiry, next_entry, new_stamp}
use Rattle.disk_model.specs.Calls.{Fuse, CallsPassed, CallsFailed, FailsWithin, PassesWithin}
use Rattle.commit_journal.specs.Ledgers.{IsDoubtAt}

abbrev pub repair_calls : Option Entry → ℕ
repair_calls None = 0
repair_calls (Some attempt) = 2

-- an append makes four
abbrev pub append_calls : Option Entry → ℕ
append_calls None = 0
append_calls (Some entry) = 4

-- the entry of the event of the clock, where it is due
abbrev pub expiry_entry : List Entry → ℕ → Option Entry
expiry_entry h now =
    if is_due h now then Some (next_entry h (new_stamp h now) 0 kinds.Expire) else None

-- the entry that an ask becomes, where the rules accept it
abbrev pub answer_entry : Result Entry Refusal → Option Entry
answer_entry (Ok entry) = Some entry
answer_entry (Err refusal) = None

abbrev pub expiry_calls : List Entry → ℕ → ℕ
expiry_calls h now = append_calls (expiry_entry h now)

-- those before what is asked
abbrev pub calls_before : Option Entry → List Entry → ℕ → ℕ
calls_before doubt h now = repair_calls doubt + expiry_calls h now

-- so many calls passed, and one of so many behind them failed
pub record FailsBehind (before calls : ℕ) (old new : Fuse) : Type 0 where
  pub call : ℕ
  pub within : call < calls
  pub failed : CallsFailed (before + call) old new

-- The repair failed, and nothing else was done.
pub record FailsAtRepair (doubt : Option Entry) (h left : List Entry) (doubt_left : Option Entry)
    (old new : Fuse) : Type 0 where
  pub failed : FailsWithin (repair_calls doubt) old new
  pub left_is : left ≡ h
  pub doubt_is : doubt_left ≡ doubt

-- The append of this entry failed, behind so many calls that passed. The history is that before it.
pub record FailsAtEntry (before : ℕ) (appended : Option Entry) (h left : List Entry)
    (doubt_left : Option Entry) (old new : Fuse) : Type 0 where
  pub entry : Entry
  pub appended_is : appended ≡ Some entry
  pub behind : FailsBehind before 4 old new
  pub left_is : left ≡ h
  pub doubt_is : IsDoubtAt behind.call entry doubt_left

-- a fault of the disk comes in the repair, at the entry of the clock's event, or at that of the ask
abbrev pub FailsInTurn : Option Entry → List Entry → ℕ → Option Entry → List Entry → Option Entry
    → Fuse → Fuse → Type 0
FailsInTurn doubt h now asked left doubt_left old new =
    FailsAtRepair doubt h left doubt_left old new
    ⊎ (FailsAtEntry (repair_calls doubt) (expiry_entry h now) h left doubt_left old new
    ⊎ FailsAtEntry (calls_before doubt h now) asked (after_expiry h now) left doubt_left old new)

-- The calls that a call of a book makes which found this history, and left that one with what is in
-- doubt then. What is asked becomes an entry or none. A call that finds no memory may make none.
abbrev pub CallsFor : {T : Type 0} → Option Entry → List Entry → ℕ → Option Entry → List Entry
    → Option Entry → Fuse → Fuse → Result T Refusal → Type 0
CallsFor doubt h now asked left doubt_left old new (Ok value) =
    CallsPassed (calls_before doubt h now + append_calls asked) old new
CallsFor doubt h now asked left doubt_left old new (Err refusals.DiskFault) =
    FailsInTurn doubt h now asked left doubt_left old new
CallsFor doubt h now asked left doubt_left old new (Err refusals.NoMemory) =
    PassesWithin (calls_before doubt h now) old new
CallsFor doubt h now asked left doubt_left old new (Err refusal) =
    CallsPassed (calls_before doubt h now) old new

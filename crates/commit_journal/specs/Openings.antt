-- What the opening of a disk gives.
use Rattle.std.specs.Prelude.{◌≡◌, ◌⊎◌, ℕ, ◌+◌, List, Option, Some, None}
use Rattle.base_kinds.specs.declared.entry.Entry.{Entry}
use Rattle.base_kinds.specs.declared.entry.Limits.{Limits}
use Rattle.environment.specs.Faults.{Rose}
use Rattle.disk_model.specs.Calls.{Fuse, CallsPassed, FailsWithin, PassesWithin}
use Rattle.disk_model.specs.Content.{Content, WhereTold, Tells, Changes}
use Rattle.disk_model.specs.Images.{mask_after_sync}
use Rattle.disk_model.specs.Moments.{LeavesNow}
use Rattle.disk_model.specs.Reading.{reads_of}
use Rattle.journal_format.specs.Histories.{IsJournalHistory}
use Rattle.journal_format.specs.Journal.{IsJournal, IsDamaged}
use Rattle.commit_journal.specs.Ledgers.{LedgerView}
use Rattle.commit_journal.specs.declared.opening.Opening.{Opening}
use Rattle.commit_journal.specs.declared.opening.Opening.TheVariants.{Ready, Damaged, DiskFault, NoMemory}

-- the disk was synced, and nothing else was done to it
pub record IsSynced (old new : Content) : Type 0 where
  pub changes : Changes (mask_after_sync old.seen) old new
  pub seen : new.seen ≡ old.seen

module _ {D : Type 0} (told : D → Option Content) (faults : D → ℕ) (disk : D) where
  -- a ledger without a doubt, on the disk after the sync, whose octets are the journal of these
  -- entries
  pub record IsReady (ledger : LedgerView D) (entries : List Entry) : Type 0 where
    pub was_synced : WhereTold (told disk) (told ledger.disk) IsSynced
    pub quiet : faults ledger.disk ≡ faults disk
    pub history_is : ledger.history ≡ entries
    pub no_doubt : ledger.doubt ≡ None
    pub legal : IsJournalHistory ledger.limits entries
    pub journal : Tells (told disk) (λ c. IsJournal c.seen ledger.limits entries)
    pub images : LeavesNow (λ octets. IsJournal octets ledger.limits entries) (told ledger.disk)

  pub record IsFoundDamaged (place : ℕ) (left : D) : Type 0 where
    pub was_synced : WhereTold (told disk) (told left) IsSynced
    pub quiet : faults left ≡ faults disk
    pub damaged : Tells (told disk) (λ c. IsDamaged c.seen place)

  -- what an opening of this disk may give
  abbrev pub Opens : Opening D → Type 0
  Opens (Ready ledger entries) = IsReady ledger entries
  Opens (Damaged place left) = IsFoundDamaged place left
  Opens (DiskFault left) = Rose (faults disk) (faults left)
      × ((told left ≡ told disk) ⊎ WhereTold (told disk) (told left) IsSynced)
  Opens (NoMemory left) = WhereTold (told disk) (told left) IsSynced × (faults left ≡ faults disk)

-- the disk that an opening gives back
abbrev pub disk_of : {D : Type 0} → Opening D → D
disk_of (Ready ledger entries) = ledger.disk
disk_of (Damaged place left) = left
disk_of (DiskFault left) = left
disk_of (NoMemory left) = left

-- the calls of an opening of a disk with so many octets: a sync, a length, and the reads
abbrev pub opening_calls : ℕ → ℕ
opening_calls octets = 2 + reads_of octets

-- An opening makes so many calls of the disk, each of which passes; or at most so many, where one
-- fails or memory is wanting.
abbrev pub OpensBy : {D : Type 0} → ℕ → (D → Fuse) → D → Opening D → Type 0
OpensBy calls fuse disk (Ready ledger entries) = CallsPassed calls (fuse disk) (fuse ledger.disk)
OpensBy calls fuse disk (Damaged place left) = CallsPassed calls (fuse disk) (fuse left)
OpensBy calls fuse disk (DiskFault left) = FailsWithin calls (fuse disk) (fuse left)
OpensBy calls fuse disk (NoMemory left) = PassesWithin calls (fuse disk) (fuse left)

-- the journal of this history is found, unless the disk fails or memory is wanting
abbrev pub FindsJournal : {D : Type 0} → Limits → List Entry → Opening D → Type 0
FindsJournal limits h (Ready ledger entries) = (ledger.limits ≡ limits) × (entries ≡ h)
FindsJournal limits h (Damaged place left) = ⊥
FindsJournal limits h (DiskFault left) = Unit {0}
FindsJournal limits h (NoMemory left) = Unit {0}

-- the damage at this place is found, unless the disk fails or memory is wanting
abbrev pub FindsDamage : {D : Type 0} → ℕ → Opening D → Type 0
FindsDamage place (Ready ledger entries) = ⊥
FindsDamage place (Damaged found left) = found ≡ place
FindsDamage place (DiskFault left) = Unit {0}
FindsDamage place (NoMemory left) = Unit {0}

-- Of octets, what an opening finds in them. Each of them that is a journal is found to be that one,
-- and each that is damaged to be damaged at that place.
pub record FindsAll {D : Type 0} (octets : List ℕ) (opening : Opening D) : Type 0 where
  pub journal : (limits : Limits) (h : List Entry) → IsJournal octets limits h
      → FindsJournal limits h opening
  pub damage : (place : ℕ) → IsDamaged octets place → FindsDamage place opening

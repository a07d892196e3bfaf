-- What the opening of a book gives.
use Rattle.std.specs.Prelude.{◌≡◌, ◌⊎◌, ℕ, ◌+◌, List, [], ◌∷◌, true, Option, None, length, if◌then◌else◌}
use Rattle.base_kinds.specs.declared.entry.Entry.{Entry}
use Rattle.base_kinds.specs.declared.entry.Limits.{Limits}
use Rattle.base_kinds.specs.Bases.{IsSound}
use Rattle.base_kinds.specs.History.{world_of}
use Rattle.base_kinds.specs.Schema.{SchemaNode}
use Rattle.base_kinds.specs.Step.{is_open}
use Rattle.environment.specs.Faults.{Rose}
use Rattle.disk_model.specs.Calls.{Fuse, CallsPassed, FailsWithin, PassesWithin, WhereArmed}
use Rattle.disk_model.specs.Content.{Content, WhereTold, Tells}
use Rattle.disk_model.specs.Moments.{Leaves, LeavesNow, HoldsThroughout}
use Rattle.journal_format.specs.Histories.{IsJournalHistory}
use Rattle.journal_format.specs.Journal.{IsJournal}
use Rattle.commit_journal.specs.Images.{IsJournalOfAny}
use Rattle.commit_journal.specs.Openings.{IsSynced, IsFoundDamaged, opening_calls}
use Rattle.book_port.specs.Chronicles.{entered}
use Rattle.book_port.specs.Opened.{IsRun, reopened}
use Rattle.book_core.specs.declared.opening.BookOpening.{BookOpening}
use Rattle.book_core.specs.declared.opening.BookOpening.TheVariants.{Ready, Damaged, Unfit, DiskFault, NoMemory}
use Rattle.book_core.specs.Calls.{FailsBehind}
use Rattle.book_core.specs.Views.{BookView}

-- the disk was synced, and from then on each image is a journal of one of these histories
pub record SyncsThen (limits : Limits) (stages : List (List Entry)) (old new : Content)
    : Type 0 where
  pub between : Content
  pub was_synced : IsSynced old between
  pub then_on : HoldsThroughout (Leaves (IsJournalOfAny limits stages)) between new

-- the histories that an opening goes through: the one that the journal had, and that with the entry
-- that ends an open trial
abbrev pub opening_stages : List Entry → ℕ → List (List Entry)
opening_stages h now = h ∷ reopened h now ∷ []

-- that entry takes four calls of the disk
abbrev pub restart_calls : List Entry → ℕ
restart_calls h = if is_open (world_of h).trial then 4 else 0

-- what the disk has is the journal of this history
pub record HasJournal (told : Option Content) (limits : Limits) (h : List Entry) : Type 0 where
  pub journal : Tells told (λ c. IsJournal c.seen limits h)
  pub legal : IsJournalHistory limits h

module _ {D : Type 0} (told : D → Option Content) (faults : D → ℕ) (fuse : D → Fuse) (disk : D)
    (schema : List SchemaNode) (now : ℕ) where
  -- A book over that history, behind the entry that ends an open trial.
  pub record IsReady (book : BookView D) : Type 0 where
    pub found : List Entry
    pub has_journal : HasJournal (told disk) book.opened.limits found
    pub opened : book.opened ≡ record {
      schema = schema;
      limits = book.opened.limits;
      base = reopened found now;
      faults = faults disk;
    }
    pub chronicle : book.chronicle ≡ entered (reopened found now)
    pub no_doubt : book.doubt ≡ None
    pub run : IsRun book.opened (reopened found now)
    pub quiet : faults book.disk ≡ faults disk
    pub moments : WhereTold (told disk) (told book.disk)
        (SyncsThen book.opened.limits (opening_stages found now))
    pub images : LeavesNow (λ octets. IsJournal octets book.opened.limits (reopened found now))
        (told book.disk)
    pub calls : WhereArmed (fuse disk) (told disk) (λ c.
        CallsPassed (opening_calls (length c.seen) + restart_calls found) (fuse disk)
        (fuse book.disk))

  -- The tree that would stand behind that entry doesn't keep to the schema, or is too large.
  -- Nothing was written.
  pub record IsUnfit (left : D) : Type 0 where
    pub limits : Limits
    pub found : List Entry
    pub has_journal : HasJournal (told disk) limits found
    pub unsound : IsSound schema (world_of (reopened found now)).tree → ⊥
    pub quiet : faults left ≡ faults disk
    pub was_synced : WhereTold (told disk) (told left) IsSynced
    pub calls : WhereArmed (fuse disk) (told disk) (λ c.
        CallsPassed (opening_calls (length c.seen)) (fuse disk) (fuse left))

  -- the sync, the length or a read failed, and nothing was written
  pub record IsUnread (left : D) : Type 0 where
    pub moments : (told left ≡ told disk) ⊎ WhereTold (told disk) (told left) IsSynced
    pub calls : WhereArmed (fuse disk) (told disk) (λ c.
        FailsWithin (opening_calls (length c.seen)) (fuse disk) (fuse left))

  -- A trial was open, and the entry that ends it wasn't sure to be written. It is written only where
  -- the tree behind it keeps to the schema and isn't too large.
  pub record IsCutAtRestart (left : D) : Type 0 where
    pub limits : Limits
    pub found : List Entry
    pub has_journal : HasJournal (told disk) limits found
    pub was_open : is_open (world_of found).trial ≡ true
    pub sound : IsSound schema (world_of (reopened found now)).tree
    pub moments : WhereTold (told disk) (told left) (SyncsThen limits (opening_stages found now))
    pub calls : WhereArmed (fuse disk) (told disk) (λ c.
        FailsBehind (opening_calls (length c.seen)) 4 (fuse disk) (fuse left))

  -- a call of the disk failed
  pub record IsFaulty (left : D) : Type 0 where
    pub rose : Rose (faults disk) (faults left)
    pub cause : IsUnread left ⊎ IsCutAtRestart left

  -- memory was wanting, and nothing was written
  pub record IsStarved (left : D) : Type 0 where
    pub quiet : faults left ≡ faults disk
    pub was_synced : WhereTold (told disk) (told left) IsSynced
    pub calls : WhereArmed (fuse disk) (told disk) (λ c.
        PassesWithin (opening_calls (length c.seen)) (fuse disk) (fuse left))

  -- the octets are no journal from this place on, and nothing was written
  pub record IsDamagedAt (place : ℕ) (left : D) : Type 0 where
    pub damaged : IsFoundDamaged told faults disk place left
    pub calls : WhereArmed (fuse disk) (told disk) (λ c.
        CallsPassed (opening_calls (length c.seen)) (fuse disk) (fuse left))

  -- what an opening of this disk may give
  abbrev pub Opens : {C : Type 0} → BookOpening D C → Type 0
  Opens (Ready book) = IsReady book
  Opens (Damaged place left) = IsDamagedAt place left
  Opens (Unfit left) = IsUnfit left
  Opens (DiskFault left) = IsFaulty left
  Opens (NoMemory left) = IsStarved left

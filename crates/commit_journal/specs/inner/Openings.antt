-- What the steps of an opening give.
use Rattle.std.specs.Prelude.{◌≡◌, ℕ, List, Option, None}
use Rattle.base_kinds.specs.declared.entry.Entry.{Entry}
use Rattle.disk_model.specs.Content.{Content}
use Rattle.disk_model.specs.Images.{mask_after_sync}
use Rattle.disk_model.specs.Moments.{LeavesNow}
use Rattle.journal_format.specs.Journal.{IsJournal, IsDamaged}
use Rattle.commit_journal.specs.Ledgers.{LedgerView}
use Rattle.commit_journal.specs.declared.opening.Opening.{Opening}
use Rattle.commit_journal.specs.declared.opening.Opening.TheVariants.{Ready, Damaged, DiskFault, NoMemory}

-- these are the disk's octets, and all of them outlive a stop
pub record HasSynced (octets : List ℕ) (content : Content) : Type 0 where
  pub seen : octets ≡ content.seen
  pub kept : content.mask ≡ mask_after_sync content.seen

module _ {D : Type 0} (told : D → Option Content) (disk : D) (octets : List ℕ) where
  -- a ledger on this very disk, which has the journal's octets
  pub record IsReadyOn (ledger : LedgerView D) (entries : List Entry) : Type 0 where
    pub disk_is : ledger.disk ≡ disk
    pub history_is : ledger.history ≡ entries
    pub no_doubt : ledger.doubt ≡ None
    pub journal : IsJournal octets ledger.limits entries
    pub images : LeavesNow (λ octets. IsJournal octets ledger.limits entries) (told disk)

  -- what is made of a disk that has these octets
  abbrev pub OpensOn : Opening D → Type 0
  OpensOn (Ready ledger entries) = IsReadyOn ledger entries
  OpensOn (Damaged place left) = (left ≡ disk) × IsDamaged octets place
  OpensOn (DiskFault left) = ⊥
  OpensOn (NoMemory left) = left ≡ disk

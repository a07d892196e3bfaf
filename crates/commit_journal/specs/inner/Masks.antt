-- Which masks a ledger keeps on its disk.
use Rattle.std.specs.Prelude.{◌≡◌, ◌≢◌, ℕ, List, [], ◌∷◌, ◌++◌, Option, Some, None}
use Rattle.base_kinds.specs.declared.entry.Entry.{Entry}
use Rattle.base_kinds.specs.declared.entry.Limits.{Limits}
use Rattle.disk_model.specs.Content.{Content}
use Rattle.disk_model.specs.Images.{IsImage, mask_after_sync}
use Rattle.journal_format.specs.Gates.{open_gate}
use Rattle.journal_format.specs.Journal.{journal_prefix}
use Rattle.commit_journal.specs.Writes.{record_and_gate}

-- What stands in front of the gate, all of which outlives a stop: in a journal its header and its
-- entries.
module _ (before : List ℕ) where
  -- the gate is closed, and outlives a stop too
  pub record IsSettled (mask : List (Option ℕ)) : Type 0 where
    pub gate : ℕ
    pub rest : List (Option ℕ)
    pub is_closed : gate ≢ open_gate
    pub parts : mask ≡ mask_after_sync (before ++ gate ∷ []) ++ rest

  -- the attempt's record behind the gate outlives a stop, and so does the closed gate behind that,
  -- but the gate in front of it may hold any octet
  pub record IsInDoubt (attempt : Entry) (mask : List (Option ℕ)) : Type 0 where
    pub rest : List (Option ℕ)
    pub parts : mask ≡ mask_after_sync before ++ None
        ∷ (mask_after_sync (record_and_gate attempt) ++ rest)

module _ (limits : Limits) (h : List Entry) where
  abbrev pub Keeps : Option Entry → List (Option ℕ) → Type 0
  Keeps None mask = IsSettled (journal_prefix limits h) mask
  Keeps (Some attempt) mask = IsInDoubt (journal_prefix limits h) attempt mask

  -- what a disk has where a ledger was opened on it
  pub record Holds (doubt : Option Entry) (content : Content) : Type 0 where
    pub keeps : Keeps doubt content.mask
    pub seen : IsImage content.mask content.seen

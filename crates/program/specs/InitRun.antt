-- `init JOURNAL` writes a journal without entries on an empty disk. The journal's format is this project's own
-- (docs/JOURNAL.md).
use Rattle.std.specs.Prelude.{◌≡◌, ◌≢◌, ℕ, List, [], ◌⊎◌, codes, Option}
use Rattle.base_kinds.specs.declared.entry.Limits.{Limits}
use Rattle.disk_model.specs.Content.{WhereTold, Tells}
use Rattle.disk_model.specs.Moments.{LeavesNow}
use Rattle.journal_format.specs.Journal.{IsJournal}
use Rattle.commit_journal.specs.Writes.{Creates, CreateFails}
use Rattle.environment.specs.Output.{Output}
use Rattle.program.specs.declared.ending.Ending.{Ending}
use Rattle.program.specs.declared.ending.Ending.TheVariants.{Done, JournalNotEmpty}
use Rattle.program.specs.Environment.{Environment, SeenDisk, files_after_new_disk}
use Rattle.program.specs.JournalFile.{DiskFails, OverDisk}
use Rattle.program.specs.Printing.{OutOfMemory, PrintsText}

module _ (limits : Limits) (initial final : SeenDisk) (old new : Output) (ending : Ending) where
  -- the disk was empty, and by one write and one sync the journal was written: a stop leaves that journal from now on
  pub record Prepares : Type 0 where
    pub created : WhereTold initial.told final.told (Creates limits)
    pub images : LeavesNow (λ octets. IsJournal octets limits []) final.told
    pub quiet : final.faults ≡ initial.faults
    pub output : PrintsText (codes "journal ready\n") Done old new ending

  -- the disk holds octets
  pub record FindsOctets : Type 0 where
    pub octets : Tells initial.told (λ content. content.seen ≢ [])
    pub output : PrintsText (codes "journal not empty\n") JournalNotEmpty old new ending

  -- nothing was done to the disk: it holds octets, or memory was wanting
  abbrev pub LeavesDisk : Type 0
  LeavesDisk = (final ≡ initial) × (FindsOctets ⊎ OutOfMemory old new ending)

  -- The disk failed. Either nothing was done to it, or it was empty and the write of the journal had begun: then any octets
  -- may be read, and a stop may leave any.
  pub record FailsToPrepare : Type 0 where
    pub fails : DiskFails initial final old new ending
    pub content : (final.told ≡ initial.told)
        ⊎ WhereTold initial.told final.told (CreateFails limits)

  abbrev pub PreparesDisk : Type 0
  PreparesDisk = Prepares ⊎ LeavesDisk ⊎ FailsToPrepare

-- an empty file is made where there is none of this name
abbrev pub InitRun : List ℕ → Limits → Environment → Environment → Option SeenDisk → Ending → Type 0
InitRun name limits before after returned ending =
    OverDisk files_after_new_disk name before after returned ending (PreparesDisk limits)

-- `log JOURNAL` prints the commit log that a journal holds. It makes no file and writes nothing to one.
use Rattle.std.specs.Prelude.{◌≡◌, ℕ, List, [], ◌∷◌, ◌++◌, ◌⊎◌, codes, Option}
use Rattle.std.specs.Fmt.{decimal}
use Rattle.base_kinds.specs.declared.entry.Entry.{Entry}
use Rattle.base_kinds.specs.declared.entry.Limits.{Limits}
use Rattle.disk_model.specs.Content.{WhereTold, Tells}
use Rattle.disk_model.specs.Moments.{LeavesNow}
use Rattle.journal_format.specs.Journal.{IsJournal, IsDamaged}
use Rattle.commit_journal.specs.Openings.{IsSynced}
use Rattle.log_text.specs.Logs.{log_text}
use Rattle.environment.specs.Output.{Output}
use Rattle.program.specs.declared.ending.Ending.{Ending}
use Rattle.program.specs.declared.ending.Ending.TheVariants.{Done, JournalDamaged}
use Rattle.program.specs.Environment.{Environment, SeenDisk, files_after_disk}
use Rattle.program.specs.JournalFile.{DiskFails, OverDisk}
use Rattle.program.specs.Printing.{OutOfMemory, PrintsText}

-- `journal damaged at` and the place from which on the octets are no journal
abbrev pub damage_line : ℕ → List ℕ
damage_line place = codes "journal damaged at " ++ (decimal place ++ 10 ∷ [])

-- the disk was synced, and nothing else was done to it
pub record OnlySynced (initial final : SeenDisk) : Type 0 where
  pub content : WhereTold initial.told final.told IsSynced
  pub quiet : final.faults ≡ initial.faults

module _ (initial final : SeenDisk) (old new : Output) (ending : Ending) where
  -- the octets are a journal, whose history is printed; a stop leaves that journal from now on
  pub record PrintsHistory : Type 0 where
    pub limits : Limits
    pub history : List Entry
    pub journal : Tells initial.told (λ content. IsJournal content.seen limits history)
    pub images : LeavesNow (λ octets. IsJournal octets limits history) final.told
    pub output : PrintsText (log_text history) Done old new ending

  -- the octets are none, and the first place of damage is printed
  pub record PrintsDamage : Type 0 where
    pub place : ℕ
    pub damaged : Tells initial.told (λ content. IsDamaged content.seen place)
    pub output : PrintsText (damage_line place) JournalDamaged old new ending

  -- the disk was read, and what its octets are is printed, unless memory was wanting
  abbrev pub ReadsDisk : Type 0
  ReadsDisk =
      OnlySynced initial final × (PrintsHistory ⊎ PrintsDamage ⊎ OutOfMemory old new ending)

  -- the disk failed: nothing was done to it, or it was synced
  pub record FailsToRead : Type 0 where
    pub fails : DiskFails initial final old new ending
    pub content : (final.told ≡ initial.told) ⊎ WhereTold initial.told final.told IsSynced

  abbrev pub ListsDisk : Type 0
  ListsDisk = ReadsDisk ⊎ FailsToRead

abbrev pub LogRun : List ℕ → Environment → Environment → Option SeenDisk → Ending → Type 0
LogRun name before after returned ending =
    OverDisk files_after_disk name before after returned ending ListsDisk

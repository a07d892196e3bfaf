-- The first thing that a command does with a journal: it has its file opened as a disk. In the end the disk is handed back.
use Rattle.std.specs.Prelude.{◌≡◌, ℕ, List, ◌⊎◌, codes, Option, Some, None}
use Rattle.environment.specs.Faults.{Rose}
use Rattle.environment.specs.Output.{Output}
use Rattle.program.specs.declared.ending.Ending.{Ending}
use Rattle.program.specs.declared.ending.Ending.TheVariants.{DiskFault}
use Rattle.program.specs.Environment.{Environment, SeenDisk, DiskAsk, GaveDisk, FailedToGiveDisk}
use Rattle.program.specs.Printing.{SaysLast}

-- what a command does over a disk: by the disk as it was opened and as it is handed back, the output before and after, and
-- how the run ends
abbrev pub DiskWork : Type 1
DiskWork = SeenDisk → SeenDisk → Output → Output → Ending → Type 0

-- the disk failed at a call
pub record DiskFails (initial final : SeenDisk) (old new : Output) (ending : Ending) : Type 0 where
  pub ends : ending ≡ DiskFault
  pub fault : Rose initial.faults final.faults
  pub line : SaysLast (codes "disk fault\n") old new

-- no disk was given, and nothing else was touched
pub record NoDisk
    (ask : DiskAsk) (name : List ℕ) (before after : Environment) (returned : Option SeenDisk)
    (ending : Ending) : Type 0 where
  pub ends : ending ≡ DiskFault
  pub files : FailedToGiveDisk ask name before.files after.files
  pub input : after.input ≡ before.input
  pub none : returned ≡ None
  pub line : SaysLast (codes "disk fault\n") before.output after.output

-- The file of this name was given as a disk, over which the command did its work; the input wasn't touched. Where the disk
-- tells what it holds, the one that is handed back tells all that was done to it since it was opened.
pub record WithDisk
    (ask : DiskAsk) (name : List ℕ) (before after : Environment) (returned : Option SeenDisk)
    (ending : Ending) (Work : DiskWork) : Type 0 where
  pub initial : SeenDisk
  pub gave : GaveDisk ask name initial before.files after.files
  pub input : after.input ≡ before.input
  pub final : SeenDisk
  pub returned_is : returned ≡ Some final
  pub work : Work initial final before.output after.output ending

abbrev pub OverDisk : DiskAsk → List ℕ → Environment → Environment → Option SeenDisk → Ending →
    DiskWork → Type 0
OverDisk ask name before after returned ending Work =
    WithDisk ask name before after returned ending Work
    ⊎ NoDisk ask name before after returned ending

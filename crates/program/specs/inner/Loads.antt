-- A load over a disk in memory.
use Rattle.std.specs.Prelude.{◌≡◌, ℕ, ◌+◌, ◌==◌, Bool, true, false, List, [], ◌∷◌, Option, Some}
use Rattle.base_kinds.specs.declared.entry.Entry.{Entry}
use Rattle.base_kinds.specs.declared.entry.Limits.{Limits}
use Rattle.base_kinds.specs.Schema.{SchemaNode}
use Rattle.base_kinds.specs.Step.{after_expiry}
use Rattle.environment.specs.Input.{unread_input}
use Rattle.environment.specs.Output.{unwritten_output}
use Rattle.memory_disks.specs.Views.{DiskView}
use Rattle.book_port.specs.Opened.{reopened}
use Rattle.book_core.specs.Openings.{HasJournal}
use Rattle.session_core.specs.declared.how.How.{How}
use Rattle.program.specs.declared.ending.Ending.{Ending}
use Rattle.program.specs.Environment.{SeenDisk}
use Rattle.program.specs.LoadRun.{AreSteady, load_line, load_reading}
use Rattle.program.specs.SessionCommand.{OnDisk, OpensNone, Streams}

abbrev pub seen_memory : DiskView → SeenDisk
seen_memory disk = record { told = Some disk.content; faults = disk.faults }

-- a client that sends these octets, an output to which nothing was written, and a clock that wasn't read
abbrev pub streams_of_octets : List ℕ → Streams
streams_of_octets octets = record {
  input = record unread_input { left = Some octets };
  output = unwritten_output;
  clock = [];
}

-- a client that sends these octets was served from this disk on, and each reading was the same
pub record ServesOctets (octets : List ℕ) (schema : List SchemaNode) (initial final : SeenDisk) (ending : Ending) : Type 0 where
  pub left : Streams
  pub how : Option How
  pub on_disk : OnDisk schema initial final (streams_of_octets octets) left how ending
  pub readings : AreSteady left.clock

-- how many it adds to a count
abbrev pub one_if : Bool → ℕ
one_if true = 1
one_if false = 0

-- the entries of this author, counted on from this number
abbrev pub counted_on : ℕ → ℕ → List Entry → ℕ
counted_on author count [] = count
counted_on author count (entry ∷ later) =
    counted_on author (count + one_if (entry.author == author)) later

-- this is the line on the journal that the disk has
pub record CountsDisk (count : ℕ) (disk : SeenDisk) (line : List ℕ) : Type 0 where
  pub limits : Limits
  pub found : List Entry
  pub has_journal : HasJournal disk.told limits found
  pub line_is : line ≡
      load_line count (after_expiry (reopened found load_reading) load_reading)

-- the journal on the disk couldn't be opened
pub record CannotRead (schema : List SchemaNode) (disk : SeenDisk) (ending : Ending) : Type 0 where
  pub after : SeenDisk
  pub opens_none : OpensNone schema load_reading disk after ending

-- `load SEED COUNT` makes generated Sets over memory alone: a client that sends the octets of Connections.antt of
-- generated_sets is served as `session` serves one (SessionCommand.antt), on a new journal, and what the journal then has is
-- counted and printed.
use Rattle.std.specs.Prelude.{◌≡◌, ◌≢◌, ◌⊎◌, ℕ, List, [], ◌∷◌, ◌++◌, codes, length, Option, Some, Ok, Err}
use Rattle.std.specs.Fmt.{decimal}
use Rattle.std.specs.List.{AllByRecursion}
use Rattle.environment.specs.Input.{unread_input}
use Rattle.environment.specs.Output.{unwritten_output}
use Rattle.base_kinds.specs.declared.entry.Entry.{Entry}
use Rattle.base_kinds.specs.declared.entry.Limits.{Limits}
use Rattle.base_kinds.specs.History.{stamp_of, world_of}
use Rattle.base_kinds.specs.Limits.{default_limits}
use Rattle.base_kinds.specs.Parts.{part}
use Rattle.base_kinds.specs.Schema.{SchemaNode}
use Rattle.base_kinds.specs.Step.{after_expiry}
use Rattle.schema_text.specs.declared.cause.SchemaFault.{SchemaFault}
use Rattle.schema_text.specs.Schemas.{schema_of}
use Rattle.disk_model.specs.Content.{Content}
use Rattle.disk_model.specs.Images.{IsImage}
use Rattle.book_port.specs.Chronicles.{entries_by}
use Rattle.book_port.specs.Opened.{reopened}
use Rattle.book_core.specs.Openings.{HasJournal}
use Rattle.generated_sets.specs.Connections.{connection_of_sets}
use Rattle.generated_sets.specs.Schemas.{schema_text}
use Rattle.session_core.specs.declared.how.How.{How}
use Rattle.program.specs.declared.ending.Ending.{Ending}
use Rattle.program.specs.declared.ending.Ending.TheVariants.{Done, NoMemory, NoSchema}
use Rattle.program.specs.Environment.{Environment, SeenDisk}
use Rattle.program.specs.Printing.{OutOfMemory, PrintsText}
use Rattle.program.specs.SessionCommand.{OnDisk, OpensNone, Streams}

-- what the clock of the run always reads
abbrev pub load_reading : ℕ
load_reading = 1000

abbrev pub AreSteady : List ℕ → Type 0
AreSteady readings = AllByRecursion (λ reading. reading ≡ load_reading) readings

-- a disk that tells its content, and whose reads give what a stop may leave of it
pub record IsMemory (disk : SeenDisk) : Type 0 where
  pub content : Content
  pub told : disk.told ≡ Some content
  pub sees : IsImage content.mask content.seen

abbrev pub line_of : ℕ → ℕ → ℕ → ℕ → ℕ → List ℕ
line_of sets ok entries leaves stamp =
    codes "sets " ++ decimal sets ++ codes " ok " ++ decimal ok ++ codes " entries "
    ++ decimal entries
    ++ codes " leaves " ++ decimal leaves ++ codes " stamp " ++ decimal stamp ++ 10 ∷ []

-- How many Sets were made and how many of them stand, how many entries the log has, how many rows the tree, and the stamp of
-- the last entry.
abbrev pub load_line : ℕ → List Entry → List ℕ
load_line count h =
    line_of count (length (entries_by 1 h)) (length h)
    (length (part ([] ∷ []) (world_of h).tree)) (stamp_of h)

-- the text of the schema is none
pub record HasNoSchema (ending : Ending) : Type 0 where
  pub is : ending ≡ NoSchema
  pub fault : SchemaFault
  pub schema_is : schema_of schema_text ≡ Err fault

module _ (seed count : ℕ) where
  -- the client's octets, an output to which nothing was written, and a clock that wasn't read
  abbrev pub client : Streams
  client = record {
    input = record unread_input { left = Some (connection_of_sets seed count) };
    output = unwritten_output;
    clock = [];
  }

  -- the client was served on a disk in memory with a new journal, and each reading was the same
  pub record Serves (schema : List SchemaNode) (final : SeenDisk) (ending : Ending) : Type 0 where
    pub schema_is : schema_of schema_text ≡ Ok schema
    pub initial : SeenDisk
    pub memory : IsMemory initial
    pub journal : HasJournal initial.told default_limits []
    pub left : Streams
    pub how : Option How
    pub on_disk : OnDisk schema initial final client left how ending
    pub readings : AreSteady left.clock

  -- the connection was closed, and this is the line on the history in the journal that it left, as it is read behind the event
  -- of the clock
  pub record Counts (line : List ℕ) : Type 0 where
    pub schema : List SchemaNode
    pub final : SeenDisk
    pub serves : Serves schema final Done
    pub memory : IsMemory final
    pub limits : Limits
    pub found : List Entry
    pub has_journal : HasJournal final.told limits found
    pub line_is : line ≡
        load_line count (after_expiry (reopened found load_reading) load_reading)

  -- the connection ended in another way
  pub record BreaksOff (ending : Ending) : Type 0 where
    pub schema : List SchemaNode
    pub final : SeenDisk
    pub serves : Serves schema final ending
    pub broke : ending ≢ Done

  -- the connection was closed, and the journal that it left couldn't be read
  pub record LeavesNone (ending : Ending) : Type 0 where
    pub schema : List SchemaNode
    pub final : SeenDisk
    pub serves : Serves schema final Done
    pub after : SeenDisk
    pub opens_none : OpensNone schema load_reading final after ending

  -- nothing was counted, by this cause: memory was wanting, or the schema's text is none, or one of the above
  abbrev pub CountsNone : Ending → Type 0
  CountsNone ending =
      (ending ≡ NoMemory) ⊎ HasNoSchema ending ⊎ BreaksOff ending ⊎ LeavesNone ending

  module _ (before after : Environment) (ending : Ending) where
    pub record Prints : Type 0 where
      pub line : List ℕ
      pub counts : Counts line
      pub output : PrintsText line Done before.output after.output ending

    pub record PrintsNothing : Type 0 where
      pub counts_none : CountsNone ending
      pub output : after.output ≡ before.output

    pub record LoadRun : Type 0 where
      pub files : after.files ≡ before.files
      pub input : after.input ≡ before.input
      pub clock : after.clock ≡ before.clock
      pub does : Prints ⊎ PrintsNothing ⊎ OutOfMemory before.output after.output ending

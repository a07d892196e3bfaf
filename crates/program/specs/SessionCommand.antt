-- `session SCHEMA JOURNAL` serves one connection of gNMI: the input is what the client sends, the output what is sent to it, and
-- what is asked is answered by the book whose journal is in the file JOURNAL. The output is the connection's alone: however the
-- run ends, no line of the program's own is written to it.
use Rattle.std.specs.Prelude.{◌≡◌, ◌≤◌, ◌⊎◌, ℕ, List, [], ◌∷◌, ◌++◌, true, Option, Some, None, Err}
use Rattle.base_kinds.specs.declared.entry.Entry.{Entry}
use Rattle.base_kinds.specs.declared.entry.Limits.{Limits}
use Rattle.base_kinds.specs.Bases.{IsSound}
use Rattle.base_kinds.specs.History.{world_of}
use Rattle.base_kinds.specs.Schema.{SchemaNode}
use Rattle.base_kinds.specs.Step.{is_open}
use Rattle.environment.specs.Faults.{Rose}
use Rattle.environment.specs.Input.{Input}
use Rattle.environment.specs.Output.{Output}
use Rattle.disk_model.specs.Content.{WhereTold, Tells}
use Rattle.disk_model.specs.Moments.{LeavesNow}
use Rattle.journal_format.specs.Journal.{IsDamaged}
use Rattle.commit_journal.specs.Images.{IsJournalOr}
use Rattle.commit_journal.specs.Openings.{IsSynced}
use Rattle.book_port.specs.Opened.{Opened, IsRun, reopened}
use Rattle.book_port.specs.Ports.{PortView}
use Rattle.book_core.specs.Openings.{HasJournal, SyncsThen, opening_stages}
use Rattle.session_core.specs.declared.how.How.{How}
use Rattle.session_core.specs.declared.how.How.TheVariants as hows
use Rattle.session_core.specs.Runs.{SessionRun, outside_of}
use Rattle.program.specs.declared.ending.Ending.{Ending}
use Rattle.program.specs.declared.ending.Ending.TheVariants as ends
use Rattle.program.specs.declared.schema_file.SchemaFileError.{SchemaFileError}
use Rattle.program.specs.declared.schema_file.SchemaFileError.TheVariants as errors
use Rattle.program.specs.Environment.{Environment, SeenFiles, SeenDisk, GaveDisk, FailedToGiveDisk, files_after_disk}
use Rattle.program.specs.LogRun.{OnlySynced}
use Rattle.program.specs.SchemaGiven.{GaveSchema, SchemaGives}

-- ---- how it ends

-- where the file gave no schema
abbrev pub ending_without_schema : SchemaFileError → Ending
ending_without_schema errors.Unreadable = ends.InputFault
ending_without_schema (errors.NoSchema fault) = ends.NoSchema
ending_without_schema errors.NoMemory = ends.NoMemory

-- by how the connection ended
abbrev pub ending_of : How → Ending
ending_of hows.Closed = ends.Done
ending_of hows.Cut = ends.ConnectionBroken
ending_of (hows.Protocol code) = ends.ConnectionBroken
ending_of hows.ReadFault = ends.InputFault
ending_of hows.WriteFault = ends.OutputFault
ending_of hows.Spent = ends.ConnectionBroken
ending_of hows.NoMemory = ends.NoMemory

-- ---- over a disk

-- what a connection is served over, as it is seen: what the client sends, what is sent to it, and the clock's readings
pub record Streams : Type 0 where
  pub input : Input
  pub output : Output
  pub clock : List ℕ

abbrev pub streams_of : Environment → Streams
streams_of environment = record {
  input = environment.input;
  output = environment.output;
  clock = environment.clock;
}

-- the clock was read once
abbrev pub after_reading : ℕ → Streams → Streams
after_reading now streams = record streams { clock = streams.clock ++ now ∷ [] }

-- the port of a book that was just opened, which nobody else has: its author is 1
abbrev pub first_port : Opened → PortView
first_port opened = record {
  opened = opened;
  book = [];
  author = 1;
  is_alone = true;
  start = opened.base;
  seen = opened.base;
  finds = [];
  made = [];
  marks = 0;
  met = [];
  known = 0;
  faults = Some opened.faults;
}

-- What a book leaves on its disk: a stop leaves its history from then on, or that with the entry in doubt behind it, where the
-- disk failed when one was appended and nothing settled since whether it stands. No more calls were ended by the disk than its
-- count of faults says.
pub record IsLeft (opened : Opened) (port : PortView) (final : SeenDisk) : Type 0 where
  pub opened_is : port.opened ≡ opened
  pub run : IsRun opened port.seen
  pub doubt : Option Entry
  pub images : LeavesNow (IsJournalOr opened.limits port.seen doubt) final.told
  pub faults : port.faults ≡ Some final.faults
  pub marks : port.marks ≤ final.faults

module _ (schema : List SchemaNode) (now : ℕ) (initial final : SeenDisk) (ending : Ending) where
  -- the octets of the disk are no journal
  pub record FindsDamage : Type 0 where
    pub is : ending ≡ ends.JournalDamaged
    pub place : ℕ
    pub damaged : Tells initial.told (λ content. IsDamaged content.seen place)
    pub synced : OnlySynced initial final

  -- The tree that would stand, without a trial that is open, doesn't keep to the schema, or is too large.
  pub record FindsUnfit : Type 0 where
    pub is : ending ≡ ends.SchemaUnfit
    pub limits : Limits
    pub found : List Entry
    pub has_journal : HasJournal initial.told limits found
    pub unsound : IsSound schema (world_of (reopened found now)).tree → ⊥
    pub synced : OnlySynced initial final

  -- The entry that ends a trial which was open may not have been written whole. Each stop leaves one of the two histories.
  pub record CutAtRestart : Type 0 where
    pub limits : Limits
    pub found : List Entry
    pub has_journal : HasJournal initial.told limits found
    pub was_open : is_open (world_of found).trial ≡ true
    pub moments : WhereTold initial.told final.told (SyncsThen limits (opening_stages found now))

  -- the disk failed: nothing was done to it, it was synced, or the entry that ends an open trial was being written
  pub record FailsToOpen : Type 0 where
    pub is : ending ≡ ends.DiskFault
    pub fault : Rose initial.faults final.faults
    pub content : (final.told ≡ initial.told) ⊎ WhereTold initial.told final.told IsSynced
        ⊎ CutAtRestart

  -- memory was wanting
  pub record StarvesOpening : Type 0 where
    pub is : ending ≡ ends.NoMemory
    pub synced : OnlySynced initial final

  -- no book was opened
  abbrev pub OpensNone : Type 0
  OpensNone = FindsDamage ⊎ FindsUnfit ⊎ FailsToOpen ⊎ StarvesOpening

  -- what the book is opened with, on a journal of these limits that has this history
  abbrev pub opened : Limits → List Entry → Opened
  opened limits found = record {
    schema = schema;
    limits = limits;
    base = reopened found now;
    faults = initial.faults;
  }

  -- no connection was served: nothing was read and nothing was written
  pub record ServesNone (old new : Streams) (how : Option How) : Type 0 where
    pub opens_none : OpensNone
    pub streams : new ≡ after_reading now old
    pub how_is : how ≡ None

  -- The book was opened, and the connection served by it from its first octet on. What the connection is, is the record of
  -- session_core: which requests the octets of the client make, what each was answered at which history and which reading of
  -- the clock, and which octets were written for that.
  pub record ServesOne (old new : Streams) (how : Option How) : Type 0 where
    pub limits : Limits
    pub found : List Entry
    pub has_journal : HasJournal initial.told limits found
    pub connection : How
    pub port : PortView
    pub run : SessionRun schema
        (outside_of old.input old.output (first_port (opened limits found)) (old.clock ++ now ∷ []))
        connection (outside_of new.input new.output port new.clock)
    pub left : IsLeft (opened limits found) port final
    pub how_is : how ≡ Some connection
    pub is : ending ≡ ending_of connection

-- the clock was read once for the opening; the disk is handed back
pub record OnDisk
    (schema : List SchemaNode) (initial final : SeenDisk) (old new : Streams) (how : Option How)
    (ending : Ending) : Type 0 where
  pub now : ℕ
  pub serves : ServesOne schema now initial final ending old new how
      ⊎ ServesNone schema now initial final ending old new how

-- ---- from the words on

module _
    (schema_name journal_name : List ℕ) (before after : Environment) (returned : Option SeenDisk)
    (how : Option How) (ending : Ending) where
  -- nothing was done but to ask for files
  pub record DoesNothing : Type 0 where
    pub streams : streams_of after ≡ streams_of before
    pub none : returned ≡ None
    pub how_is : how ≡ None

  -- the file of the schema gave none, and no other one was asked for
  pub record StopsAtSchema : Type 0 where
    pub error : SchemaFileError
    pub files : SchemaGives schema_name (Err error) before.files after.files
    pub is : ending ≡ ending_without_schema error
    pub nothing : DoesNothing

  -- the file of the schema gave one, and no disk was given for the journal
  pub record StopsAtJournal : Type 0 where
    pub schema : List SchemaNode
    pub between : SeenFiles
    pub gave_schema : GaveSchema schema_name schema before.files between
    pub no_disk : FailedToGiveDisk files_after_disk journal_name between after.files
    pub is : ending ≡ ends.DiskFault
    pub nothing : DoesNothing

  -- both files were given, each once and in this order
  pub record GoesOnDisk : Type 0 where
    pub schema : List SchemaNode
    pub between : SeenFiles
    pub gave_schema : GaveSchema schema_name schema before.files between
    pub initial : SeenDisk
    pub gave_disk : GaveDisk files_after_disk journal_name initial between after.files
    pub final : SeenDisk
    pub returned_is : returned ≡ Some final
    pub goes_on : OnDisk schema initial final (streams_of before) (streams_of after) how ending

  abbrev pub SessionCommand : Type 0
  SessionCommand = GoesOnDisk ⊎ StopsAtJournal ⊎ StopsAtSchema

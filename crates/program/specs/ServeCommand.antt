-- `serve SCHEMA JOURNAL ADDRESS SESSIONS` accepts SESSIONS connections of gNMI, or fewer, at a door, and serves each beside the others.
-- What is asked through any of them is answered by one book, whose journal is in the file JOURNAL. The last line says how many were
-- accepted. At which address the door was opened isn't seen, so that no clause says it.
use Rattle.std.specs.Prelude.{◌≡◌, ℕ, ◌+◌, ◌≤◌, ◌⊎◌, List, [], ◌∷◌, ◌++◌, codes, length, false, Option, Some, None}
use Rattle.std.specs.Fmt.{decimal}
use Rattle.base_kinds.specs.declared.entry.Entry.{Entry}
use Rattle.base_kinds.specs.declared.entry.Limits.{Limits}
use Rattle.base_kinds.specs.Schema.{SchemaNode}
use Rattle.environment.specs.Input.{Input}
use Rattle.environment.specs.Output.{Output}
use Rattle.disk_model.specs.Content.{WhereTold}
use Rattle.disk_model.specs.Moments.{LeavesNow}
use Rattle.journal_format.specs.Journal.{IsJournal}
use Rattle.commit_journal.specs.Images.{IsJournalOr}
use Rattle.book_port.specs.Opened.{Opened, IsRun, reopened}
use Rattle.book_port.specs.Ports.{PortView, PortEnd, HasJustMade, end_of}
use Rattle.book_core.specs.Openings.{HasJournal, SyncsThen, opening_stages}
use Rattle.connection_server.specs.declared.accepting.Ending.{Ending as Accepting}
use Rattle.connection_server.specs.declared.accepting.Ending.TheVariants as accepting
use Rattle.connection_server.specs.Joining.{authors_of}
use Rattle.connection_server.specs.Twins.{RiseAbove}
use Rattle.gnmi_server.specs.Histories.{GoesOnFrom}
use Rattle.gnmi_server.specs.Serving.{ServesBook}
use Rattle.program.specs.declared.ending.Ending.{Ending}
use Rattle.program.specs.declared.ending.Ending.TheVariants as ends
use Rattle.program.specs.Environment.{Environment, SeenFiles, SeenDisk, GaveDisk, FailedToGiveDisk, files_after_disk}
use Rattle.program.specs.Links.{SeenLinks}
use Rattle.program.specs.LogRun.{damage_line}
use Rattle.program.specs.Printing.{SaysLast, OutOfMemory, MakesText}
use Rattle.program.specs.SchemaFile.{UnderSchema}
use Rattle.program.specs.SchemaGiven.{GaveSchema}
use Rattle.program.specs.SessionCommand.{FindsDamage, FindsUnfit, FailsToOpen, StarvesOpening, opened}

-- ---- the book and its ports

-- the first port of a book that was just opened, of which the ports of sessions are made: its author is 1, and is the one number of
-- an author that it knows of. Other ports of the book will be made, so it isn't alone, and can't tell how often the disk failed.
-- The name tells ports of this book from those of any other.
abbrev pub shared_port : Opened → List ℕ → PortView
shared_port opened name = record {
  opened = opened;
  book = name;
  author = 1;
  is_alone = false;
  start = opened.base;
  seen = opened.base;
  finds = [];
  made = [];
  marks = 0;
  met = [];
  known = 1;
  faults = None;
}

-- how many calls of all these ports a fault of the disk ended
abbrev pub all_marks : List PortEnd → ℕ
all_marks [] = 0
all_marks (port ∷ ports) = port.marks + all_marks ports

-- What a book leaves on its disk once its last port gave it back. Its history goes on from what the port has seen, and has of that
-- port's author, and of those of all ports that it met, just the entries that they made. A stop leaves that history from then on, or
-- that with one entry behind it: one that is in doubt, since the disk failed when it was appended, and may be any here. The calls
-- of all these ports together that a fault of the disk ended are no more than its count of faults says.
pub record LeavesBook (opened : Opened) (last : PortView) (final : SeenDisk) : Type 0 where
  pub history : List Entry
  pub goes_on : GoesOnFrom last history
  pub own : HasJustMade history (end_of last)
  pub run : IsRun opened history
  pub doubt : Option Entry
  pub images : LeavesNow (IsJournalOr opened.limits history doubt) final.told
  pub marks : opened.faults + all_marks (end_of last ∷ last.met) ≤ final.faults

-- ---- the last line

-- `served` and how many connections there were
abbrev pub served_line : ℕ → List ℕ
served_line count = codes "served " ++ (decimal count ++ 10 ∷ [])

-- the door failed
pub record SaysDoorFault (old new : Output) (ending : Ending) : Type 0 where
  pub is : ending ≡ ends.DoorFault
  pub line : SaysLast (codes "door fault\n") old new

-- what is printed by how it ended that connections were accepted, and how the run ends. Where there was no number of an author for a
-- session (`Spent`) it ends as for want of memory.
abbrev pub SaysEnd : Accepting → ℕ → Output → Output → Ending → Type 0
SaysEnd accepting.All count old new ending = MakesText (served_line count) ends.Done old new ending
SaysEnd accepting.DoorEnd count old new ending =
    MakesText (served_line count) ends.Done old new ending
SaysEnd accepting.DoorFault count old new ending = SaysDoorFault old new ending
SaysEnd accepting.Spent count old new ending = OutOfMemory old new ending
SaysEnd accepting.NoMemory count old new ending = OutOfMemory old new ending

-- ---- over a disk

module _
    (sessions : ℕ) (schema : List SchemaNode) (now : ℕ) (initial final : SeenDisk)
    (before after : Environment) (links : SeenLinks) (ending : Ending) where
  -- the book that is opened on a journal of these limits that has this history
  abbrev pub opened_on : Limits → List Entry → Opened
  opened_on limits found = opened schema now initial final ending limits found

  -- the line that says why no book was opened
  abbrev pub SaysWhyNone : Type 0
  SaysWhyNone =
      ((why : FindsDamage schema now initial final ending)
      × SaysLast (damage_line why.place) before.output after.output)
      ⊎ (FindsUnfit schema now initial final ending
      × SaysLast (codes "schema does not fit journal\n") before.output after.output)
      ⊎ (FailsToOpen schema now initial final ending
      × SaysLast (codes "disk fault\n") before.output after.output)
      ⊎ (StarvesOpening schema now initial final ending
      × SaysLast (codes "no memory\n") before.output after.output)

  -- no book was opened, and no connection accepted
  pub record OpensNone : Type 0 where
    pub why : SaysWhyNone
    pub door : after.door ≡ before.door
    pub links_are : links ≡ []

  -- the book was opened, and memory was wanting for what makes it a book of several ports; no connection was accepted
  pub record SharesNone : Type 0 where
    pub limits : Limits
    pub found : List Entry
    pub has_journal : HasJournal initial.told limits found
    pub moments : WhereTold initial.told final.told
        (SyncsThen limits (opening_stages found now))
    pub images : LeavesNow (λ octets. IsJournal octets limits (reopened found now)) final.told
    pub quiet : final.faults ≡ initial.faults
    pub output : OutOfMemory before.output after.output ending
    pub door : after.door ≡ before.door
    pub links_are : links ≡ []

  -- The book was opened, and connections were served over it.
  pub record ServesAll : Type 0 where
    pub limits : Limits
    pub found : List Entry
    pub has_journal : HasJournal initial.told limits found
    -- the book's name, and how it ended that connections were accepted
    pub name : List ℕ
    pub how : Accepting
    pub last : PortView
    -- Each connection that the door gave was served by a session, through a port of its own, or closed at once where memory was
    -- wanting for one. What a session did is the record of session_core: which requests the octets of the client make, what each
    -- was answered at which history and which reading of its own clock, which feeders it had, and which octets were written.
    pub served : ServesBook (λ (input : Input). input) (λ (output : Output). output) sessions how
        links (shared_port (opened_on limits found) name) before.door last after.door
    -- the sessions' authors rise from 2 on, so that no two have one
    pub authors : RiseAbove 1 (authors_of links)
    -- One history has what all of them made. That the turns of each session stand in it, and that it goes on from what each
    -- feeder has seen, is a law of gnmi_server (`SessionsStand`).
    pub left : LeavesBook (opened_on limits found) last final
    pub output : SaysEnd how (length links) before.output after.output ending

-- the input wasn't touched, and this clock was read once, for the opening (sessions have clocks of their own); the disk is handed
-- back
pub record OnDisk
    (sessions : ℕ) (schema : List SchemaNode) (initial final : SeenDisk)
    (before after : Environment) (links : SeenLinks) (ending : Ending) : Type 0 where
  pub now : ℕ
  pub input : after.input ≡ before.input
  pub clock : after.clock ≡ before.clock ++ now ∷ []
  pub serves : ServesAll sessions schema now initial final before after links ending
      ⊎ SharesNone sessions schema now initial final before after links ending
      ⊎ OpensNone sessions schema now initial final before after links ending

-- ---- from the words on

module _
    (schema_name journal_name : List ℕ) (sessions : ℕ) (before after : Environment)
    (returned : Option SeenDisk) (links : SeenLinks) (ending : Ending) where
  -- but for files and output nothing was touched
  pub record DoesNothing : Type 0 where
    pub rest : after ≡ record before { files = after.files; output = after.output }
    pub none : returned ≡ None
    pub links_are : links ≡ []

  -- the file of the schema gave none, which is said as `check` says it, and no other one was asked for
  pub record StopsAtSchema : Type 0 where
    pub stops : UnderSchema schema_name before after ending (λ schema. ⊥)
    pub nothing : DoesNothing

  -- the file of the schema gave one, and no disk was given for the journal
  pub record StopsAtJournal : Type 0 where
    pub schema : List SchemaNode
    pub between : SeenFiles
    pub gave_schema : GaveSchema schema_name schema before.files between
    pub no_disk : FailedToGiveDisk files_after_disk journal_name between after.files
    pub is : ending ≡ ends.DiskFault
    pub line : SaysLast (codes "disk fault\n") before.output after.output
    pub nothing : DoesNothing

  -- both files were given, each once and in this order
  pub record GoesOnDisk : Type 0 where
    pub schema : List SchemaNode
    pub between : SeenFiles
    pub gave_schema : GaveSchema schema_name schema before.files between
    pub initial : SeenDisk
    pub gave_disk : GaveDisk files_after_disk journal_name initial between after.files
    pub final : SeenDisk
    pub returned_is : returned ≡ Some final
    pub goes_on : OnDisk sessions schema initial final before after links ending

  abbrev pub ServeCommand : Type 0
  ServeCommand = GoesOnDisk ⊎ StopsAtJournal ⊎ StopsAtSchema

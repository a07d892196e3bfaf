-- Connections that were served over a book, for the command that goes on by it.
use Rattle.std.specs.Prelude.{◌≡◌, ◌⊎◌, ℕ, List, [], length, false, None}
use Rattle.environment.specs.Input.{Input}
use Rattle.environment.specs.Output.{Output}
use Rattle.listening.specs.Doors.{DoorView}
use Rattle.book_port.specs.Ports.{PortView}
use Rattle.book_core.specs.Views.{BookView, history_in}
use Rattle.session_core.specs.declared.how.How.{How}
use Rattle.connection_server.specs.declared.accepting.Ending.{Ending as Accepting}
use Rattle.connection_server.specs.declared.link.LinkEnd.{LinkEnd}
use Rattle.connection_server.specs.Joining.{authors_of}
use Rattle.connection_server.specs.Twins.{RiseAbove}
use Rattle.gnmi_server.specs.Serving.{ServesBook}
use Rattle.program.specs.declared.ending.Ending.{Ending}
use Rattle.program.specs.declared.ending.Ending.TheVariants as ends
use Rattle.program.specs.Environment.{SeenDisk}
use Rattle.program.specs.Links.{SeenLinks}
use Rattle.program.specs.LogRun.{damage_line}
use Rattle.program.specs.Printing.{SaysLast, OutOfMemory}
use Rattle.program.specs.ServeCommand.{LeavesBook, SaysEnd}

-- the disk has no journal from this octet on, which is said, unless memory is wanting for the line
abbrev pub SaysDamage : ℕ → Output → Output → Ending → Type 0
SaysDamage place old new ending =
    ((ending ≡ ends.JournalDamaged) × SaysLast (damage_line place) old new)
    ⊎ OutOfMemory old new ending

-- connections were served from a port of a book on, and the book's disk was given back
pub record Accepts {I O : Type 0} (reads : I → Input) (writes : O → Output) (sessions : ℕ)
    (how : Accepting) (links : List (LinkEnd I O How)) (first : PortView)
    (old new : DoorView I O) (final : SeenDisk) : Type 0 where
  pub last : PortView
  pub served : ServesBook reads writes sessions how links first old last new
  pub authors : RiseAbove first.known (authors_of links)
  pub left : LeavesBook first.opened last final

-- the first port of a book with this name
abbrev pub port_to : {D : Type 0} → BookView D → List ℕ → PortView
port_to book name = record {
  opened = book.opened;
  book = name;
  author = 1;
  is_alone = false;
  start = history_in book;
  seen = history_in book;
  finds = [];
  made = [];
  marks = 0;
  met = [];
  known = 1;
  faults = None;
}

module _
    {D : Type 0} (book : BookView D) (sessions : ℕ) (final : SeenDisk) (old new : Output)
    (door_old door_new : DoorView Input Output) (links : SeenLinks) (ending : Ending) where
  -- from the book on, until the last line
  pub record Serves : Type 0 where
    pub name : List ℕ
    pub how : Accepting
    pub accepts : Accepts (λ (input : Input). input) (λ (output : Output). output) sessions how
        links (port_to book name) door_old door_new final
    pub output : SaysEnd how (length links) old new ending

  -- memory was wanting, and the book's disk is this
  pub record Starves (disk : SeenDisk) : Type 0 where
    pub output : OutOfMemory old new ending
    pub disk_is : final ≡ disk
    pub door : door_new ≡ door_old
    pub links_are : links ≡ []

-- A connection that was served on a book, for the command that goes on by it.
use Rattle.std.specs.Prelude.{◌≡◌, List, Option, Some}
use Rattle.base_kinds.specs.Schema.{SchemaNode}
use Rattle.environment.specs.Input.{Input}
use Rattle.environment.specs.Output.{Output}
use Rattle.listening.specs.Doors.{DoorView}
use Rattle.book_port.specs.Ports.{PortView}
use Rattle.session_core.specs.declared.how.How.{How}
use Rattle.session_core.specs.Runs.{SessionRun, outside_of}
use Rattle.program.specs.declared.ending.Ending.{Ending}
use Rattle.program.specs.Environment.{Environment, SeenDisk, SeenFiles}
use Rattle.program.specs.SessionCommand.{Streams, IsLeft, ending_of}

-- from a port of the book on
pub record Served
    (schema : List SchemaNode) (start : PortView) (final : SeenDisk) (old new : Streams)
    (how : Option How) (ending : Ending) : Type 0 where
  pub connection : How
  pub port : PortView
  pub run : SessionRun schema (outside_of old.input old.output start old.clock) connection
      (outside_of new.input new.output port new.clock)
  pub left : IsLeft start.opened port final
  pub how_is : how ≡ Some connection
  pub is : ending ≡ ending_of connection

-- the files, what the connection is served over, and the door
abbrev pub environment_of : SeenFiles → Streams → DoorView Input Output → Environment
environment_of files streams door = record {
  files = files;
  input = streams.input;
  output = streams.output;
  door = door;
  clock = streams.clock;
}

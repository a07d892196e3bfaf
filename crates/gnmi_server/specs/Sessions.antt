-- One connection that a session serves beside feeders.
use Rattle.std.specs.Prelude.{ℕ, List, []}
use Rattle.environment.specs.Input.{Input}
use Rattle.environment.specs.Output.{Output}
use Rattle.book_port.specs.Ports.{PortView}
use Rattle.session_core.specs.declared.how.How.{How}
use Rattle.session_core.specs.FeederRuns.{SessionRunBeside}
use Rattle.session_core.specs.Runs.{outside_of}
use Rattle.connection_server.specs.declared.link.Link.{Link}
use Rattle.connection_server.specs.declared.link.LinkLeft.{LinkLeft}

-- A session has served the connection from its first octet on, under the schema of its port's book, by a clock that had given nothing
-- before.
pub record ServesLink {I O : Type 0} (reads : I → Input) (writes : O → Output)
    (link : Link I O PortView) (left : LinkLeft I O PortView How) : Type 0 where
  -- the readings that the clock gave
  pub readings : List ℕ
  pub run : SessionRunBeside link.port.opened.schema
      (outside_of (reads link.input) (writes link.output) link.port []) left.how
      (outside_of (reads left.input) (writes left.output) left.port readings)

-- What comes of joining sessions, one after the other.
use Rattle.std.specs.Prelude.{◌≡◌, List, map}
use Rattle.book_port.specs.Ports.{PortView}
use Rattle.connection_server.specs.declared.job.LinkDone.{LinkDone}
use Rattle.connection_server.specs.declared.job.LinkJob.{LinkJob}
use Rattle.connection_server.specs.declared.link.LinkEnd.{LinkEnd}
use Rattle.connection_server.specs.Joining.{CameOf}
use Rattle.connection_server.specs.Twins.{MeetEach}

-- The jobs were done, these are the records of their connections, and their ports ended by meeting one.
pub record Joins {S I O P H : Type 0} (port : P → PortView)
    (gives : LinkJob S I O P → LinkDone I O P H → Type 0) (old : PortView)
    (jobs : List (LinkJob S I O P)) (ends : List (LinkEnd I O H)) (new : PortView) : Type 0 where
  pub dones : List (LinkDone I O P H)
  pub came : CameOf gives jobs dones
  pub ends_are : ends ≡ map (λ done. done.end) dones
  pub met : MeetEach old (map (λ done. port done.port) dones) new

-- One connection from the door to its end, as a job of its own.
use Rattle.std.specs.Prelude.{◌≡◌, ℕ, Result, Ok, Err}
use Rattle.book_port.specs.Ports.{PortView}
use Rattle.connection_server.specs.declared.link.Link.{Link}
use Rattle.connection_server.specs.declared.link.LinkLeft.{LinkLeft}
use Rattle.connection_server.specs.declared.link.LinkEnd.{LinkEnd}
use Rattle.connection_server.specs.declared.job.LinkJob.{LinkJob}
use Rattle.connection_server.specs.declared.job.LinkDone.{LinkDone}

-- Both are one port of a book, before calls of it and behind them.
pub record IsSamePort (old new : PortView) : Type 0 where
  pub opened : new.opened ≡ old.opened
  pub book : new.book ≡ old.book
  pub author : new.author ≡ old.author
  pub alone : new.is_alone ≡ old.is_alone
  pub start : new.start ≡ old.start

-- what is left of a connection that isn't served, which ends so
abbrev pub left_unserved : {I O P H : Type 0} → H → Link I O P → LinkLeft I O P H
left_unserved unserved link =
    record { how = unserved; input = link.input; output = link.output; port = link.port }

-- the connection that a session serves, or that has none
abbrev pub link_in : {I O P S : Type 0} → (S → Link I O P) → Result S (Link I O P) → Link I O P
link_in of (Ok session) = of session
link_in of (Err link) = link

-- the connection of a job
abbrev pub link_of : {I O P S : Type 0} → (S → Link I O P) → LinkJob S I O P → Link I O P
link_of of job = link_in of job.session

-- the session has served the connection; one without a session has ended at once
abbrev pub IsServed : {I O P S H : Type 0} → (S → LinkLeft I O P H → Type 0) → H →
    Result S (Link I O P) → LinkLeft I O P H → Type 0
IsServed serves unserved (Ok session) left = serves session left
IsServed serves unserved (Err link) left = left ≡ left_unserved unserved link

-- the record of a connection with this number, whose session left this
pub record IsEndOf {I O P H : Type 0} (number author : ℕ) (left : LinkLeft I O P H)
    (end : LinkEnd I O H) : Type 0 where
  pub number_is : end.number ≡ number
  pub author_is : end.author ≡ author
  pub how_is : end.how ≡ left.how
  pub input_is : end.input.value ≡ left.input
  pub output_is : end.output.value ≡ left.output

-- what comes of the job of a connection
pub record IsDone {I O P S H : Type 0} (of : S → Link I O P) (port : P → PortView)
    (serves : S → LinkLeft I O P H → Type 0) (unserved : H) (job : LinkJob S I O P)
    (done : LinkDone I O P H) : Type 0 where
  pub left : LinkLeft I O P H
  pub served : IsServed serves unserved job.session left
  pub end : IsEndOf job.number job.author left done.end
  pub port_is : done.port ≡ left.port
  pub same : IsSamePort (port (link_of of job).port) (port done.port)

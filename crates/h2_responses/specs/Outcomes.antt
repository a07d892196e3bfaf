-- What a frame leads to.
use Rattle.std.specs.Prelude.{◌≡◌, ◌≢◌, ℕ, Option, Some, None, Result, Ok, Err}
use Rattle.h2_events.specs.declared.event.RecvFault.{RecvFault}
use Rattle.h2_events.specs.declared.event.RecvFault.TheVariants as fault
use Rattle.h2_responses.specs.declared.event.ServerEvent.{ServerEvent}
use Rattle.h2_responses.specs.declared.server.Server.{Server}

-- one event at most, and what is known of the server then
pub record EventAndServer : Type 0 where
  pub event : Option ServerEvent
  pub server : Server

-- or the code of a connection error (RFC 9113 section 5.4.1)
abbrev pub Outcome : Type 0
Outcome = Result EventAndServer ℕ

abbrev pub nothing : Server → Outcome
nothing server = Ok (record { event = None; server = server })

abbrev pub gives : ServerEvent → Server → Outcome
gives what server = Ok (record { event = Some what; server = server })

-- what a reader of one frame answers, unless memory runs out
abbrev pub Reports : Outcome → Result (Option ServerEvent) RecvFault → Server → Type 0
Reports (Ok told) result new = (result ≡ Ok told.event) × (new ≡ told.server)
Reports (Err code) result new = result ≡ Err (fault.Protocol code)

abbrev pub Answered : Outcome → Result (Option ServerEvent) RecvFault → Server → Type 0
Answered outcome result new = result ≢ Err fault.NoMemory → Reports outcome result new

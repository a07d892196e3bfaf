-- What a frame leads to.
use Rattle.std.specs.Prelude.{◌≡◌, ◌≢◌, ℕ, Option, Some, None, Result, Ok, Err}
use Rattle.h2_events.specs.declared.event.RecvEvent.{RecvEvent}
use Rattle.h2_events.specs.declared.event.RecvEvent.TheVariants as event
use Rattle.h2_events.specs.declared.event.RecvFault.{RecvFault}
use Rattle.h2_events.specs.declared.event.RecvFault.TheVariants as fault
use Rattle.h2_streams.specs.declared.peer.Peer.{Peer}
use Rattle.h2_streams.specs.States.{reset}

-- one event at most, and what is known of the peer then
pub record EventAndPeer : Type 0 where
  pub event : Option RecvEvent
  pub peer : Peer

-- or the code of a connection fault (RFC 9113 section 5.4.1)
abbrev pub Outcome : Type 0
Outcome = Result EventAndPeer ℕ

abbrev pub nothing : Peer → Outcome
nothing peer = Ok (record { event = None; peer = peer })

abbrev pub gives : RecvEvent → Peer → Outcome
gives what peer = Ok (record { event = Some what; peer = peer })

-- A stream fault resets the stream (section 5.4.2).
abbrev pub stream_fault : ℕ → ℕ → Peer → Outcome
stream_fault stream code peer = gives (event.StreamFault stream code) (reset stream peer)

-- what a reader of one frame answers, unless memory runs out
abbrev pub Reports : Outcome → Result (Option RecvEvent) RecvFault → Peer → Type 0
Reports (Ok told) result new = (result ≡ Ok told.event) × (new ≡ told.peer)
Reports (Err code) result new = result ≡ Err (fault.Protocol code)

abbrev pub Answered : Outcome → Result (Option RecvEvent) RecvFault → Peer → Type 0
Answered outcome result new = result ≢ Err fault.NoMemory → Reports outcome result new

-- Steps of a receiver. Only private functions cite these: each is proved to agree with Receiving.antt.
use Rattle.std.specs.Prelude.{◌≡◌, ℕ, ◌+◌, ◌≤◌, List, [], ◌++◌, ◌⊎◌, length, ⊤, Option, None, Result, Ok, Err}
use Rattle.h2_frame.specs.Frames.{Frame, Spells, LeadingFrames, IsPart, IsTooLong, stated_length}
use Rattle.h2_frame.specs.ErrorCodes.{frame_size_error}
use Rattle.h2_events.specs.declared.event.RecvEvent.{RecvEvent}
use Rattle.h2_events.specs.declared.event.RecvFault.{RecvFault}
use Rattle.h2_events.specs.declared.event.RecvFault.TheVariants as fault
use Rattle.h2_streams.specs.declared.peer.Peer.{Peer}
use Rattle.h2_events.specs.Events.{largest_frame}
use Rattle.h2_streams.specs.Outcomes.{Outcome}
use Rattle.h2_streams.specs.Meanings.{Means}
use Rattle.h2_streams.specs.Calls.{Moment, Calls, AreRead, frames_of, events_of}
use Rattle.h2_recv.specs.declared.reader.Reader.{Reader}
use Rattle.h2_recv.specs.Receiving.{FaultStands, Reads, Faults, Astray, Stops}

-- the octets have at most those of the frame that they state
abbrev pub IsWithin : List ℕ → Type 0
IsWithin octets = length octets ≤ 9 + stated_length octets

-- the octets are a frame with this outcome
pub record IsFrame (octets : List ℕ) (peer : Peer) (outcome : Outcome) : Type 0 where
  pub frame : Frame
  pub spells : Spells octets frame
  pub allowed : frame.head.length ≤ largest_frame
  pub means : Means peer frame outcome

-- the octets so far are looked at: they are part of a frame, or a whole one
abbrev pub Looks : Reader → Result (Option RecvEvent) RecvFault → Reader → Type 0
Looks old (Ok event) new =
    ((event ≡ None) × IsPart largest_frame old.rest × (new ≡ old))
    ⊎ (IsFrame old.rest old.peer (Ok (record { event = event; peer = new.peer }))
    × (new ≡ record old { rest = []; peer = new.peer }))
Looks old (Err (fault.Protocol code)) new =
    (IsTooLong largest_frame old.rest × (code ≡ frame_size_error))
    ⊎ IsFrame old.rest old.peer (Err code)
Looks old (Err fault.NoMemory) new = ⊤

-- Of octets, those before `after` are frames that lead from a peer to this one and to these events, and the rest are
-- those of a frame that isn't whole, and what isn't looked at.
pub record Goes (octets : List ℕ) (start : Peer) (out : List RecvEvent) (rest after : List ℕ)
    (peer : Peer) (events : List RecvEvent) : Type 0 where
  pub moments : List Moment
  pub leading : LeadingFrames largest_frame octets (frames_of moments) (rest ++ after)
  pub calls : Calls start moments peer
  pub read : AreRead moments
  pub told : events ≡ out ++ events_of moments
  pub part : IsPart largest_frame rest

-- and before `after`, where a connection fault stands
pub record Fails (octets : List ℕ) (start : Peer) (out : List RecvEvent) (code : ℕ)
    (events : List RecvEvent) : Type 0 where
  pub moments : List Moment
  pub after : List ℕ
  pub peer : Peer
  pub leading : LeadingFrames largest_frame octets (frames_of moments) after
  pub calls : Calls start moments peer
  pub read : AreRead moments
  pub told : events ≡ out ++ events_of moments
  pub stands : FaultStands peer after code

-- and before `after`, where memory ran out
pub record Began (octets : List ℕ) (start : Peer) (out events : List RecvEvent) : Type 0 where
  pub moments : List Moment
  pub after : List ℕ
  pub peer : Peer
  pub leading : LeadingFrames largest_frame octets (frames_of moments) after
  pub calls : Calls start moments peer
  pub read : AreRead moments
  pub told : events ≡ out ++ events_of moments

-- what leads to one place leads to another
abbrev pub Advances : Peer → List ℕ → List ℕ → List RecvEvent → Peer → List ℕ → List ℕ
    → List RecvEvent → Type 0
Advances peer rest after events next held behind more =
    (octets : List ℕ) (start : Peer) (out : List RecvEvent)
    → Goes octets start out rest after peer events → Goes octets start out held behind next more

-- what leads to a place leads to a fault
abbrev pub AdvancesTo : ℕ → Peer → List ℕ → List ℕ → List RecvEvent → List RecvEvent → Type 0
AdvancesTo code peer rest after events more =
    (octets : List ℕ) (start : Peer) (out : List RecvEvent)
    → Goes octets start out rest after peer events → Fails octets start out code more

abbrev pub HasRead : Reader → List ℕ → List RecvEvent → Reader → List RecvEvent → Type 0
HasRead old piece out new events =
    (moments : List Moment) × Reads old piece moments new × (events ≡ out ++ events_of moments)

abbrev pub HasFailed : ℕ → Reader → List ℕ → List RecvEvent → List RecvEvent → Type 0
HasFailed code old piece out events =
    (moments : List Moment) × (Faults old piece moments code ⊎ Astray old piece moments code)
    × (events ≡ out ++ events_of moments)

abbrev pub HasStopped : Reader → List ℕ → List RecvEvent → List RecvEvent → Type 0
HasStopped old piece out events =
    (moments : List Moment) × Stops old piece moments × (events ≡ out ++ events_of moments)

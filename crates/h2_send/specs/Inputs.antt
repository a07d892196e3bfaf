-- What a wire is given: what frames that were read mean, and what is accepted to be said on streams.
use Rattle.std.specs.Prelude.{ℕ, ◌^◌, ◌<◌, List, [], ◌∷◌}
use Rattle.h2_events.specs.Items.{Item, said_by}
use Rattle.h2_events.specs.Items as item
use Rattle.h2_events.specs.Events.{IsSound}
use Rattle.h2_events.specs.declared.event.RecvEvent.{RecvEvent}
use Rattle.h2_events.specs.declared.said.Said.{Said}
use Rattle.h2_events.specs.declared.said.Said.TheVariants.{Message, Finish, Status}
use Rattle.h2_send.specs.declared.given.Given.{Given}
use Rattle.h2_send.specs.declared.given.Given.TheVariants as given

pub data Input : Type 0 where
  Event : RecvEvent → Input
  Speech : ℕ → Said → Input

-- in the order of all that happens
abbrev pub item_of : Input → Item
item_of (Event event) = item.Meant event
item_of (Speech stream said) = item.Accepted stream said

-- the events among inputs
abbrev pub events_of : List Input → List RecvEvent
events_of [] = []
events_of (Event event ∷ inputs) = event ∷ events_of inputs
events_of (Speech stream said ∷ inputs) = events_of inputs

-- what a wire notes of an input
abbrev pub input_of : Given → Input
input_of (given.Event event) = Event event.value
input_of (given.Piece stream piece) = Speech stream (said_by piece.value)
input_of (given.Status stream status) = Speech stream (Status status)

-- what holds of every input: streams have numbers of 31 bits, and a status is one of 16
abbrev pub IsSoundInput : Input → Type 0
IsSoundInput (Event event) = IsSound event
IsSoundInput (Speech stream (Message octets)) = stream < 2 ^ 31
IsSoundInput (Speech stream (Finish refusal)) = stream < 2 ^ 31
IsSoundInput (Speech stream (Status status)) = (stream < 2 ^ 31) × (status < 2 ^ 16)

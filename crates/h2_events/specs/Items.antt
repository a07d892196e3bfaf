-- The order of what happens on a connection, and what is read off it.
use Rattle.std.specs.Prelude.{◌≡◌, ◌⊎◌, ℕ, zero, suc, List, [], ◌∷◌, Bool, true, false, not, ◌&&◌, ◌||◌, ◌==◌, IsTrue, Contains, if◌then◌else◌}
use Rattle.h2_frame.specs.Frames.{Frame}
use Rattle.h2_events.specs.declared.event.RecvEvent.{RecvEvent}
use Rattle.h2_events.specs.declared.said.Piece.{Piece}
use Rattle.h2_events.specs.declared.said.Piece.TheVariants as piece
use Rattle.h2_events.specs.declared.said.Said.{Said}
use Rattle.h2_events.specs.declared.said.Said.TheVariants.{Message, Finish, Status}
use Rattle.h2_events.specs.Events.{resets, opens}

-- A frame was read that means this. Something was accepted to be said on a stream: what comes last on it is accepted only where
-- none of its octets wait. A frame was written.
pub data Item : Type 0 where
  Meant : RecvEvent → Item
  Accepted : ℕ → Said → Item
  Wrote : Frame → Item

-- The order of who reads: a frame means this; this side has ended a stream.
pub data Read : Type 0 where
  Event : RecvEvent → Read
  Ended : ℕ → Read

-- ---- what is read off an order

-- the events of the frames that were read
abbrev pub heard : List Item → List RecvEvent
heard [] = []
heard (Meant event ∷ items) = event ∷ heard items
heard (Accepted stream said ∷ items) = heard items
heard (Wrote frame ∷ items) = heard items

-- the frames that were written
abbrev pub written : List Item → List Frame
written [] = []
written (Meant event ∷ items) = written items
written (Accepted stream said ∷ items) = written items
written (Wrote frame ∷ items) = frame ∷ written items

-- what was accepted to be said on a stream
abbrev pub said_on : ℕ → List Item → List Said
said_on stream [] = []
said_on stream (Meant event ∷ items) = said_on stream items
said_on stream (Accepted on said ∷ items) =
    if on == stream then said ∷ said_on stream items else said_on stream items
said_on stream (Wrote frame ∷ items) = said_on stream items

-- nothing is said on a stream after this
abbrev pub is_last : Said → Bool
is_last (Message octets) = false
is_last (Finish refusal) = true
is_last (Status status) = true

abbrev pub any_last : List Said → Bool
any_last [] = false
any_last (said ∷ others) = is_last said || any_last others

-- The order as who reads has it: what comes last on a stream is its end by this side.
abbrev pub as_read : List Item → List Read
as_read [] = []
as_read (Meant event ∷ items) = Event event ∷ as_read items
as_read (Accepted stream said ∷ items) =
    if is_last said then Ended stream ∷ as_read items else as_read items
as_read (Wrote frame ∷ items) = as_read items

abbrev pub events_read : List Read → List RecvEvent
events_read [] = []
events_read (Event event ∷ more) = event ∷ events_read more
events_read (Ended stream ∷ more) = events_read more

-- the streams that this side had ended before the event with this number, counted from 0, was read
abbrev pub ended_before : ℕ → List Read → List ℕ
ended_before number [] = []
ended_before number (Ended stream ∷ more) = stream ∷ ended_before number more
ended_before zero (Event event ∷ more) = []
ended_before (suc number) (Event event ∷ more) = ended_before number more

-- ---- streams in an order

-- Whether something may be said on a stream after an item, by whether it might before (RFC 9113 section 5.1: the stream is
-- open, or half closed by the peer). Headers of the peer open it. A reset closes it, and so does what comes last on it.
-- A stream error for the size of a PRIORITY may come on an idle stream: it closes nothing, and the stream may be opened
-- behind it.
abbrev pub can_say_after : ℕ → Bool → Item → Bool
can_say_after stream before (Meant event) =
    opens stream event || (before && not (resets stream event))
can_say_after stream before (Accepted on said) = before && not (on == stream && is_last said)
can_say_after stream before (Wrote frame) = before

abbrev pub can_say_from : ℕ → Bool → List Item → Bool
can_say_from stream before [] = before
can_say_from stream before (item ∷ items) =
    can_say_from stream (can_say_after stream before item) items

-- something may be said on the stream behind the items of a connection so far
abbrev pub can_say : ℕ → List Item → Bool
can_say stream items = can_say_from stream false items

-- what a piece says
abbrev pub said_by : Piece → Said
said_by (piece.Message octets) = Message octets
said_by (piece.Finish refusal) = Finish refusal

-- ---- two orders

-- Two orders have the same events. A stream that this side had ended before a frame was read is ended before that frame
-- for who reads too, unless another thread serves the stream. What is ended for who reads this side had ended before.
pub record GoTogether (is_fed : ℕ → Bool) (order : List Item) (reader : List Read) : Type 0 where
  pub events : events_read reader ≡ heard order
  pub ends : (number stream : ℕ) → Contains (ended_before number (as_read order)) stream
      → Contains (ended_before number reader) stream ⊎ IsTrue (is_fed stream)
  pub only : (number stream : ℕ) → Contains (ended_before number reader) stream
      → Contains (ended_before number (as_read order)) stream

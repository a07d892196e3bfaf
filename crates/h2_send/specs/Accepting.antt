-- Which inputs a wire accepts.
use Rattle.std.specs.Prelude.{◌≡◌, ℕ, ◌≤◌, false, true, List, [], ◌∷◌, length}
use Rattle.std.specs.List.{AllByRecursion, list_any}
use Rattle.h2_windows.specs.Bounds.{largest_pending}
use Rattle.h2_windows.specs.declared.stream.Stream.{Stream}
use Rattle.h2_events.specs.Events.{opens}
use Rattle.h2_events.specs.Ports.{largest_sent_message}
use Rattle.h2_events.specs.declared.event.RecvEvent.{RecvEvent}
use Rattle.h2_events.specs.declared.port.Ready.TheVariants.{Free}
use Rattle.h2_events.specs.declared.said.Said.TheVariants.{Message, Finish, Status}
use Rattle.h2_send.specs.Inputs.{Input, Event, Speech}
use Rattle.h2_send.specs.Lines.{Line, overflows}
use Rattle.h2_send.specs.Offers.{ready_on, has_begun, IsStatus}
use Rattle.h2_send.specs.Acting.{handled}

-- An event takes no window above 2^31 - 1. What is said finds its stream free; a message is no longer than what may be sent,
-- and a status comes before all messages.
abbrev pub IsAccepted : Input → Line → Type 0
IsAccepted (Event event) line = overflows event line ≡ false
IsAccepted (Speech id (Message octets)) line =
    (ready_on id line.streams ≡ Free) × (length octets ≤ largest_sent_message)
IsAccepted (Speech id (Finish refusal)) line = ready_on id line.streams ≡ Free
IsAccepted (Speech id (Status status)) line =
    (ready_on id line.streams ≡ Free) × (has_begun id line.streams ≡ false) × IsStatus status

-- each where it comes, the first of them on this line
abbrev pub AreAccepted : Line → List Input → Type 0
AreAccepted line [] = Unit {0}
AreAccepted line (input ∷ inputs) =
    IsAccepted input line × AreAccepted (handled input line).line inputs

-- Octets that wait on a stream are those of one message at most.
abbrev pub HoldWithin : List Stream → Type 0
HoldWithin streams = AllByRecursion (λ (s : Stream). length s.pending ≤ largest_pending) streams

-- A client opens a stream once at most (RFC 9113 section 5.1.1).
abbrev pub IsOpenedOnce : ℕ → List RecvEvent → Type 0
IsOpenedOnce id [] = Unit {0}
IsOpenedOnce id (event ∷ events) =
    (opens id event ≡ true → list_any (opens id) events ≡ false) × IsOpenedOnce id events

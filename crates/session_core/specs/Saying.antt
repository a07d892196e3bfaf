-- What was said on each stream, and what waits to be said there.
use Rattle.std.specs.Prelude.{◌≡◌, ◌⊎◌, ℕ, ◌==◌, List, [], ◌∷◌, ◌++◌, Bool, true, false, ◌||◌, if◌then◌else◌}
use Rattle.std.specs.List.{AllByRecursion}
use Rattle.h2_events.specs.declared.event.RecvEvent.{RecvEvent}
use Rattle.h2_events.specs.declared.said.Said.{Said}
use Rattle.h2_events.specs.declared.port.Ready.TheVariants.{Busy}
use Rattle.h2_events.specs.Events.{opens}
use Rattle.h2_events.specs.Items.{Item, heard, said_on, can_say}
use Rattle.h2_send.specs.Inputs.{Input}
use Rattle.h2_send.specs.Lines.{first_line}
use Rattle.h2_send.specs.Offers.{ready_on}
use Rattle.h2_send.specs.Orders.{line_after}
use Rattle.session_core.specs.declared.waiting.Waiting.{Waiting}
use Rattle.session_core.specs.Deeds.{Deed, said_to}

-- what waits to be said on a stream
abbrev pub waits_on : ℕ → List Waiting → List Said
waits_on stream [] = []
waits_on stream (w ∷ waiting) =
    if w.stream == stream then w.said ∷ waits_on stream waiting else waits_on stream waiting

abbrev pub any_opens : ℕ → List RecvEvent → Bool
any_opens stream [] = false
any_opens stream (event ∷ events) = opens stream event || any_opens stream events

-- The peer has opened the stream, and nothing can be said on it any more: it was reset, or this side has ended it (RFC 9113
-- section 5.1).
pub record IsOver (stream : ℕ) (order : List Item) : Type 0 where
  pub opened : any_opens stream (heard order) ≡ true
  pub closed : can_say stream order ≡ false

pub record IsFront (front whole : List Said) : Type 0 where
  pub rest : List Said
  pub joined : whole ≡ front ++ rest

-- What was said on a stream, and what waits there, is what the deeds say. Where the stream is over, the first of it was said.
abbrev pub IsSaid : ℕ → List Waiting → List Item → List Deed → Type 0
IsSaid stream waiting order deeds =
    (said_on stream order ++ waits_on stream waiting ≡ said_to stream deeds)
    ⊎ (IsOver stream order × IsFront (said_on stream order) (said_to stream deeds))

-- What waits, waits behind octets of its stream that the peer's windows don't let through.
abbrev pub AreBehind : List Input → List Waiting → Type 0
AreBehind inputs waiting =
    AllByRecursion
    (λ (w : Waiting). ready_on w.stream (line_after first_line inputs).streams ≡ Busy) waiting

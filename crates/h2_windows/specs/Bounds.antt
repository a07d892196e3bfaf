-- What may wait at most.
use Rattle.std.specs.Prelude.{ℕ, ◌+◌, ◌≤◌, List, length}
use Rattle.h2_events.specs.Ports.{largest_sent_message}

-- the octets that may wait on one stream: a message that is sent, and the five octets before it
abbrev pub largest_pending : ℕ
largest_pending = largest_sent_message + 5

-- so many of these octets are sent, and they are no more than may wait
pub record HoldsWithin (sent : ℕ) (octets : List ℕ) : Type 0 where
  pub sent_within : sent ≤ length octets
  pub bound : length octets ≤ largest_pending

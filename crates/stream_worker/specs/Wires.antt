-- What whoever serves a call says at a port of a wire (RFC 9113, gRPC over HTTP/2).
use Rattle.std.specs.Prelude.{◌≡◌, ◌⊎◌, ℕ, ◌+◌, ◌-◌, ◌^◌, ◌≤◌, ◌==◌, Bool, IsTrue, List, [], ◌++◌, Option, Some, map, if◌then◌else◌}
use Rattle.h2_events.specs.Items.{said_by}
use Rattle.h2_events.specs.declared.said.Piece.{Piece}
use Rattle.h2_events.specs.declared.said.Said.{Said}
use Rattle.h2_send.specs.Inputs.{Input, Speech}
use Rattle.h2_send.specs.Port.{PortView, Progress, said_so_far}

-- what contracts see of a port of a wire
pub record WireView : Type 0 where
  -- which connection it is a port to
  pub connection : List ℕ
  -- whose port it is, and of which ports it has met
  pub authors : List ℕ
  pub counts : PortView
  pub progress : Progress
  pub owns : ℕ → Bool
  pub given : List (Option Input)

-- Of each stream of the port's own: what was said on it since is this on the one stream, and nothing on another.
abbrev pub Says : ℕ → WireView → WireView → List Said → Type 0
Says stream from to said =
    (other : ℕ) → IsTrue (from.owns other) →
    said_so_far other to.progress
    ≡ said_so_far other from.progress ++ (if stream == other then said else [])

-- the last value of a count
abbrev pub last_count : ℕ
last_count = 2 ^ 64 - 1

-- Free was answered at most as often as a turn was taken or a piece offered, and so many times more; this isn't known once the
-- count of offers stands still.
abbrev pub IsBusied : ℕ → ℕ → PortView → PortView → Type 0
IsBusied more turns from to =
    (to.offers ≡ last_count)
    ⊎ (to.frees + from.offers ≤ from.frees + turns + to.offers + more)

-- Just these pieces were taken through the port, on the stream; what was accepted to be said there are these, and behind them
-- perhaps one that was lost. Nothing else was done through the port.
pub record SpeaksOn (stream more turns : ℕ) (from : WireView) (pieces : List Piece)
    (lost : List Said) (to : WireView) : Type 0 where
  pub taken : to.counts.taken ≡ from.counts.taken ++ map (λ piece. (stream, piece)) pieces
  pub connection : to.connection ≡ from.connection
  pub authors : to.authors ≡ from.authors
  pub owns : to.owns ≡ from.owns
  pub given : to.given
      ≡ from.given ++ map (λ word. Some (Speech stream word)) (map said_by pieces ++ lost)
  pub says : Says stream from to (map said_by pieces ++ lost)
  pub busied : IsBusied more turns from.counts to.counts

-- What feeders do beside a session: each serves one call of mode STREAM, over ports of the connection and of the book of its own.
use Rattle.std.specs.Prelude.{ℕ, List, [], ◌∷◌, Some}
use Rattle.std.specs.List.{AllByRecursion}
use Rattle.base_kinds.specs.declared.entry.Entry.{Entry}
use Rattle.book_port.specs.Follows.{Turn}
use Rattle.h2_send.specs.Inputs.{Input}
use Rattle.stream_workers.specs.Feeders.{IsOfFeeder}

-- what feeders give the sending half
abbrev pub AreFromFeeders : List ℕ → List Input → Type 0
AreFromFeeders fed given = AllByRecursion (λ input. IsOfFeeder fed (Some input)) given

-- the history that the last of these turns left
abbrev pub left_last : List Entry → List Turn → List Entry
left_last seen [] = seen
left_last seen (turn ∷ turns) = left_last turn.left turns

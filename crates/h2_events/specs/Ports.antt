-- How long a message may be that is said.
use Rattle.std.specs.Prelude.{ℕ, ◌≤◌, ⊤, length}
use Rattle.h2_events.specs.declared.said.Piece.{Piece}
use Rattle.h2_events.specs.declared.said.Piece.TheVariants as piece

-- The most octets of a message that is sent, without the five before it. A reply to a Get or a Set has at most 4,194,304.
-- What a subscriber gets may be longer: its updates weigh at most 1,900,000 octets, and so do the deletes of each of at
-- most 64 groups of rows.
abbrev pub largest_sent_message : ℕ
largest_sent_message = 123600000

abbrev pub FitsMessage : Piece → Type 0
FitsMessage (piece.Message octets) = length octets ≤ largest_sent_message
FitsMessage (piece.Finish refusal) = ⊤

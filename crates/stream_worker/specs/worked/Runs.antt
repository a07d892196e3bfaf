-- What the definitions say of small runs.
use Rattle.std.specs.Prelude.{◌≡◌, ◌∷◌, [], ℕ, Some, None, refl}
use Rattle.base_kinds.specs.declared.refusal.Refusal.TheVariants as refusals
use Rattle.h2_events.specs.declared.said.Piece.TheVariants as piece
use Rattle.h2_events.specs.declared.said.Said.TheVariants as said
use Rattle.h2_send.specs.declared.condition.Condition.TheVariants as condition
use Rattle.stream_worker.specs.Books.{StandAmong, most_idle}
use Rattle.stream_worker.specs.Feeds.{IsLost, last_pieces}
use Rattle.stream_worker.specs.declared.job.FeedEnd.TheVariants as ends

-- of four turns the second and the last one are told, in their order
told_in_order : StandAmong {T = ℕ} (2 ∷ 4 ∷ []) (1 ∷ 2 ∷ 3 ∷ 4 ∷ [])
told_in_order = (1 ∷ [], 3 ∷ 4 ∷ [], refl, (3 ∷ [], [], refl, tt))

-- a call that has ended may have taken one turn that is neither told nor marked
one_at_the_end : most_idle None ≡ 1
one_at_the_end = refl

-- a refusal is said last, and nothing where the stream is gone
refused_last : last_pieces (ends.Refused refusals.NoMemory) ≡ piece.Finish (Some refusals.NoMemory) ∷ []
refused_last = refl

gone_without_a_word : last_pieces ends.Gone ≡ []
gone_without_a_word = refl

-- a write fault comes with the message that is next, or with the refusal
lost_with_a_fault : IsLost condition.WriteFault ((7 ∷ []) ∷ (8 ∷ []) ∷ []) (said.Message (7 ∷ []) ∷ [])
lost_with_a_fault = (tt, (8 ∷ []) ∷ [], refl)

refusal_lost : IsLost condition.NoMemory ((7 ∷ []) ∷ []) (said.Finish (Some refusals.NoMemory) ∷ [])
refusal_lost = tt

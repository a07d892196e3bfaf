-- A feeder: it serves one Subscribe call of mode STREAM until nothing goes out on its stream any more, or memory is wanting.
use Rattle.std.specs.Prelude.{◌≡◌, ℕ, Bool, List, [], ◌∷◌, ◌++◌, map, length, Option, Some, None}
use Rattle.base_kinds.specs.declared.refusal.Refusal.TheVariants as refusals
use Rattle.base_kinds.specs.Schema.{SchemaNode}
use Rattle.book_port.specs.Follows.{Turn}
use Rattle.book_port.specs.Ports.{PortView}
use Rattle.gnmi_kinds.specs.declared.reply.SubReply.{SubReply}
use Rattle.h2_events.specs.declared.port.Ready.TheVariants as ready
use Rattle.h2_events.specs.declared.said.Piece.{Piece}
use Rattle.h2_events.specs.declared.said.Piece.TheVariants as piece
use Rattle.h2_events.specs.declared.said.Said.{Said}
use Rattle.h2_events.specs.declared.said.Said.TheVariants as said
use Rattle.h2_send.specs.Conditions.{IsClosed}
use Rattle.h2_send.specs.Inputs.{Input}
use Rattle.h2_send.specs.Port.{PortView as WireCounts, Progress, ready_in}
use Rattle.h2_send.specs.declared.condition.Condition.{Condition}
use Rattle.sub_plan.specs.declared.plan.Plan.{Plan}
use Rattle.subscribe_calls.specs.Calls.{replies_octets}
use Rattle.stream_worker.specs.Books.{TakesLooks}
use Rattle.stream_worker.specs.Wires.{WireView, SpeaksOn}
use Rattle.stream_worker.specs.declared.job.FeedEnd.{FeedEnd}
use Rattle.stream_worker.specs.declared.job.FeedEnd.TheVariants as ends

-- the ports of a feeder
pub record Ports : Type 0 where
  pub book : PortView
  pub wire : WireView

abbrev pub ports_of : PortView → List ℕ → WireCounts → Progress → (ℕ → Bool)
    → List (Option Input) → List ℕ → Ports
ports_of book connection counts progress owns given authors = record {
  book = book;
  wire = record {
    connection = connection;
    authors = authors;
    counts = counts;
    progress = progress;
    owns = owns;
    given = given;
  };
}

-- what is said last at this end
abbrev pub last_pieces : FeedEnd → List Piece
last_pieces ends.Gone = []
last_pieces (ends.Refused refusal) = piece.Finish (Some refusal) ∷ []

-- Gone comes only where nothing can be said on the stream: it was reset or ended, or the wire is closed; or it was never opened. A
-- refusal is only for want of memory.
abbrev pub IsCause : FeedEnd → ℕ → Progress → Type 0
IsCause ends.Gone stream progress = ready_in stream progress ≡ ready.Gone
IsCause (ends.Refused refusal) stream progress = refusal ≡ refusals.NoMemory

-- What was accepted to be said when the wire was closed by that: nothing, or the message that came next, or the refusal.
abbrev pub IsLost : Condition → List (List ℕ) → List Said → Type 0
IsLost condition rest [] = Unit {0}
IsLost condition rest (said.Message octets ∷ []) =
    IsClosed condition × (later : List (List ℕ)) × (rest ≡ octets ∷ later)
IsLost condition rest (said.Finish (Some refusals.NoMemory) ∷ []) = IsClosed condition
IsLost condition rest others = ⊥

-- What a feeder of the call with this plan does until it ends. Its messages are a run of a stream; those that were taken are a
-- front of the run's messages, in order, and behind them there is the refusal, if it ends with one.
pub record Feeds (schema : List SchemaNode) (stream : ℕ) (plan : Plan) (end : FeedEnd)
    (from to : Ports) : Type 0 where
  pub turns : List Turn
  pub messages : List SubReply
  pub looks : TakesLooks plan from.book turns messages None to.book
  pub taken : List (List ℕ)
  pub rest : List (List ℕ)
  pub whole : replies_octets schema plan messages ≡ taken ++ rest
  pub lost : List Said
  pub is_lost : IsLost to.wire.progress.condition rest lost
  pub speaks : SpeaksOn stream 0 (length turns) from.wire
      (map piece.Message taken ++ last_pieces end) lost to.wire
  pub cause : IsCause end stream to.wire.progress

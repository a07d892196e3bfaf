-- A feeder between two of its steps.
use Rattle.std.specs.Prelude.{◌≡◌, ◌==◌, ℕ, IsTrue, List, [], ◌∷◌, ◌++◌, map, length, Option, Some, None, Result, Ok, Err, if◌then◌else◌}
use Rattle.base_kinds.specs.declared.refusal.Refusal.{Refusal}
use Rattle.base_kinds.specs.declared.refusal.Refusal.TheVariants as refusals
use Rattle.base_kinds.specs.Schema.{SchemaNode}
use Rattle.book_port.specs.Follows.{Turn}
use Rattle.book_port.specs.Ports.{PortView}
use Rattle.gnmi_kinds.specs.declared.reply.SubReply.{SubReply}
use Rattle.h2_events.specs.Items.{said_by}
use Rattle.h2_events.specs.declared.port.Ready.{Ready}
use Rattle.h2_events.specs.declared.port.Ready.TheVariants as ready
use Rattle.h2_events.specs.declared.port.Took.{Took}
use Rattle.h2_events.specs.declared.port.Took.TheVariants as took
use Rattle.h2_events.specs.declared.said.Piece.{Piece}
use Rattle.h2_events.specs.declared.said.Piece.TheVariants as piece
use Rattle.h2_events.specs.declared.said.Said.{Said}
use Rattle.h2_send.specs.Port.{said_so_far, accepted_by, asked, given_by, noted}
use Rattle.sub_plan.specs.declared.plan.Plan.{Plan}
use Rattle.subscribe_calls.specs.Calls.{CallView, replies_octets}
use Rattle.subscribe_calls.specs.Turns.{TurnsOnce}
use Rattle.stream_worker.specs.Books.{TakesLooks}
use Rattle.stream_worker.specs.Wires.{WireView, SpeaksOn}
use Rattle.stream_worker.specs.Feeds.{Ports, Feeds}
use Rattle.stream_worker.specs.declared.job.FeedEnd.{FeedEnd}

-- The run's messages are those that were taken and then those that wait. Nothing more of them is said once the call isn't
-- served any more.
abbrev pub IsWhole : List (List ℕ) → List (List ℕ) → Option CallView → List (List ℕ) → Type 0
IsWhole all taken (Some call) waiting = all ≡ taken ++ waiting
IsWhole all taken None waiting = (rest : List (List ℕ)) × (all ≡ taken ++ rest)

-- It has come so far, and so many answers of Free weren't followed yet by a turn or an offer.
pub record HasFed (schema : List SchemaNode) (stream : ℕ) (plan : Plan) (more : ℕ) (from : Ports)
    (call : Option CallView) (waiting : List (List ℕ)) (to : Ports) : Type 0 where
  pub turns : List Turn
  pub messages : List SubReply
  pub looks : TakesLooks plan from.book turns messages call to.book
  pub taken : List (List ℕ)
  pub whole : IsWhole (replies_octets schema plan messages) taken call waiting
  pub speaks : SpeaksOn stream more (length turns) from.wire (map piece.Message taken) [] to.wire

-- it goes on, or has ended
abbrev pub Comes : List SchemaNode → ℕ → Plan → Option FeedEnd → Ports → Option CallView
    → List (List ℕ) → Ports → Type 0
Comes schema stream plan None from call waiting to =
    HasFed schema stream plan 0 from call waiting to
Comes schema stream plan (Some end) from call waiting to = Feeds schema stream plan end from to

-- what a turn leaves of a call, and what waits then
abbrev pub Leaves : Result (List (List ℕ)) Refusal → CallView → Option CallView
    → List (List ℕ) → Type 0
Leaves (Ok octets) turned call waiting = (call ≡ Some turned) × (waiting ≡ octets)
Leaves (Err refusals.DiskFault) turned call waiting = (call ≡ Some turned) × (waiting ≡ [])
Leaves (Err refusals.NoMemory) turned call waiting = call ≡ None
Leaves (Err refusal) turned call waiting = ⊥

-- The call takes one turn of its port, at some reading of the clock.
pub record LooksAgain (schema : List SchemaNode) (old : CallView) (from : PortView)
    (call : Option CallView) (waiting : List (List ℕ)) (to : PortView) : Type 0 where
  pub now : ℕ
  pub result : Result (List (List ℕ)) Refusal
  pub turned : CallView
  pub turns : TurnsOnce schema now old from result turned to
  pub leaves : Leaves result turned call waiting

-- ---- a port of a wire

-- so many answers of Free this is
abbrev pub frees_in : Ready → ℕ
frees_in ready.Free = 1
frees_in answer = 0

-- the piece, where it was taken,
abbrev pub pieces_in : Took → Piece → List Piece
pieces_in took.Taken piece = piece ∷ []
pieces_in answer piece = []

-- and where the wire was closed by it
abbrev pub lost_in : Took → Piece → List Said
lost_in took.WriteFault piece = said_by piece ∷ []
lost_in took.NoMemory piece = said_by piece ∷ []
lost_in answer piece = []

-- what a question changes,
pub record HasAsked (answer : Ready) (old new : WireView) : Type 0 where
  pub connection : new.connection ≡ old.connection
  pub authors : new.authors ≡ old.authors
  pub counts : new.counts ≡ asked answer old.counts
  pub owns : new.owns ≡ old.owns
  pub given : new.given ≡ old.given
  pub says : (other : ℕ) → IsTrue (old.owns other)
      → said_so_far other new.progress ≡ said_so_far other old.progress

-- and an offer
pub record HasOffered (stream : ℕ) (answer : Took) (piece : Piece) (old new : WireView)
    : Type 0 where
  pub connection : new.connection ≡ old.connection
  pub authors : new.authors ≡ old.authors
  pub counts : new.counts ≡ noted answer (stream, piece) old.counts
  pub owns : new.owns ≡ old.owns
  pub given : new.given ≡ old.given ++ given_by answer stream (said_by piece)
  pub says : (other : ℕ) → IsTrue (old.owns other)
      → said_so_far other new.progress ≡ said_so_far other old.progress
      ++ (if stream == other then accepted_by answer (said_by piece) else [])

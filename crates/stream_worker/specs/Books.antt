-- What whoever serves a Subscribe call of mode STREAM does at a port of a book: the turns that it takes, and the run of a stream
-- that its messages are (gNMI 3.5.1.5.2).
use Rattle.std.specs.Prelude.{◌≡◌, ℕ, ◌+◌, ◌≤◌, List, [], ◌∷◌, ◌++◌, length, map, Option, Some, None}
use Rattle.std.specs.List.{AllByRecursion}
use Rattle.base_kinds.specs.declared.entry.Entry.{Entry}
use Rattle.base_kinds.specs.Step.{after_expiry}
use Rattle.book_port.specs.Follows.{Turn}
use Rattle.book_port.specs.Ports.{PortView, TakesTurns}
use Rattle.gnmi_kinds.specs.declared.reply.SubReply.{SubReply}
use Rattle.sub_plan.specs.declared.plan.Plan.{Plan}
use Rattle.stream_laws.specs.Runs.{Moment, IsStreamRun}
use Rattle.stream_laws.specs.Streams.{StreamView}
use Rattle.stream_laws.specs.Follows.{IsStreamAt}
use Rattle.subscribe_calls.specs.Calls.{CallView}

-- the first list's items stand in the second one, each in a place of its own, in their order
abbrev pub StandAmong : {T : Type 0} → List T → List T → Type 0
StandAmong [] items = Unit {0}
StandAmong {T} (one ∷ others) items =
    (before after : List T) × (items ≡ before ++ one ∷ after) × StandAmong others after

-- The turn was made at the history that it found, after the event of the clock, and this history goes on from that.
pub record IsMadeIn (h : List Entry) (turn : Turn) : Type 0 where
  pub left : turn.left ≡ after_expiry turn.found turn.reading
  pub more : List Entry
  pub goes_on : h ≡ turn.left ++ more

-- The messages are a run of the plan's stream with turns at these moments. Before the first turn there are none.
abbrev pub AreRun : Plan → List Moment → List SubReply → List Entry → Type 0
AreRun plan [] messages h = messages ≡ []
AreRun plan (first ∷ later) messages h = IsStreamRun plan first later messages h

-- that, and the stream is as the last of these turns left it
pub record IsAtLast (plan : Plan) (moments : List Moment) (messages : List SubReply)
    (h : List Entry) (stream : StreamView) : Type 0 where
  pub first : Moment
  pub later : List Moment
  pub all : moments ≡ first ∷ later
  pub at : IsStreamAt plan first later messages h stream

abbrev pub HasRun : Plan → List Moment → List SubReply → List Entry → Option StreamView → Type 0
HasRun plan moments messages h None = (moments ≡ []) × (messages ≡ [])
HasRun plan moments messages h (Some stream) = IsAtLast plan moments messages h stream

-- So it is of a call of this plan that is served. Of one that isn't served any more the messages are a run over every history
-- that goes on from this one.
abbrev pub IsServed : Plan → List Moment → List SubReply → List Entry → Option CallView → Type 0
IsServed plan moments messages h (Some call) =
    (call.plan ≡ plan) × HasRun call.plan moments messages h call.stream
IsServed plan moments messages h None =
    (more : List Entry) → AreRun plan moments messages (h ++ more)

-- how many turns it may have taken that neither said something nor were ended by a fault of the disk
abbrev pub most_idle : Option CallView → ℕ
most_idle (Some call) = 0
most_idle None = 1

-- It took these turns of its port and set nothing. Those that it told are the turns of the run, in order, each at the history
-- that it found, after the event of the clock. All others were ended by a fault of the disk, which marks them, but for the last
-- one of a call that isn't served any more.
pub record TakesLooks (plan : Plan) (from : PortView) (turns : List Turn)
    (messages : List SubReply) (call : Option CallView) (to : PortView) : Type 0 where
  pub taken : TakesTurns from turns to
  pub sets_nothing : to.made ≡ from.made
  pub told : List Turn
  pub among : StandAmong told turns
  pub others : length turns + from.marks ≤ length told + to.marks + most_idle call
  pub made_in : AllByRecursion (IsMadeIn to.seen) told
  pub moments : List Moment
  pub readings : map (λ moment. moment.reading) moments ≡ map (λ turn. turn.reading) told
  pub positions : map (λ moment. moment.position) moments ≡ map (λ turn. length turn.left) told
  pub served : IsServed plan moments messages to.seen call

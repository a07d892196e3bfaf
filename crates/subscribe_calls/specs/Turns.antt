-- One turn of a Subscribe call at a port of a book.
use Rattle.std.specs.Prelude.{◌≡◌, ℕ, List, Result, Ok, Err}
use Rattle.base_kinds.specs.declared.entry.View.{View}
use Rattle.base_kinds.specs.declared.refusal.Refusal.{Refusal}
use Rattle.base_kinds.specs.declared.refusal.Refusal.TheVariants as refusals
use Rattle.base_kinds.specs.Schema.{SchemaNode}
use Rattle.book_port.specs.Ports.{PortView, LooksOnce}
use Rattle.sub_plan.specs.declared.plan.Plan.{Plan}
use Rattle.sub_plan.specs.Groups.{patterns_of}
use Rattle.subscribe_calls.specs.Calls.{CallView, new_call, messages_with, call_after, replies_octets}

-- What comes of a look at this reading. Its view gives the octets of what is said of it, and the call goes on; memory may be
-- wanting for them, and then the call isn't served any more. A look that is refused leaves the call as it was.
abbrev pub Answers : List SchemaNode → CallView → ℕ → Result View Refusal
    → Result (List (List ℕ)) Refusal → CallView → Type 0
Answers schema old now (Ok view) (Ok octets) new =
    (octets ≡ replies_octets schema old.plan (messages_with old now view))
    × (new ≡ call_after old now view)
Answers schema old now (Ok view) (Err refusals.NoMemory) new = new.plan ≡ old.plan
Answers schema old now (Ok view) (Err refusal) new = ⊥
Answers schema old now (Err refusal) (Ok octets) new = ⊥
Answers schema old now (Err refusal) (Err answer) new = (answer ≡ refusal) × (new ≡ old)

-- The call takes one turn of its port: it looks at what its plan's patterns cover, at this reading of the clock.
pub record TurnsOnce (schema : List SchemaNode) (now : ℕ) (old : CallView) (from : PortView)
    (result : Result (List (List ℕ)) Refusal) (new : CallView) (to : PortView) : Type 0 where
  pub look : Result View Refusal
  pub looks : LooksOnce from now (patterns_of old.plan.lines) look to
  pub answers : Answers schema old now look result new

-- It takes the first turn of a call with this plan.
abbrev pub TurnsAnew : List SchemaNode → ℕ → Plan → PortView → Result (List (List ℕ)) Refusal
    → PortView → Type 0
TurnsAnew schema now plan from result to =
    (call : CallView) × TurnsOnce schema now (new_call plan) from result call to

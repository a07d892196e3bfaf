-- The turns of a call, by what its look is answered.
use Rattle.std.proofs.Common.{◌≡◌, ℕ, List, refl, sym, ap, subst, Option, Some, None, Ok, Err}
use Rattle.base_kinds.specs.declared.entry.View.{View}
use Rattle.base_kinds.specs.declared.operation.Row.{Row}
use Rattle.base_kinds.specs.declared.path.Elem.{Elem}
use Rattle.base_kinds.specs.declared.refusal.Refusal.{Refusal}
use Rattle.base_kinds.specs.declared.refusal.Refusal.TheVariants as refusals
use Rattle.base_kinds.specs.History.{world_of}
use Rattle.base_kinds.specs.Parts.{is_covered}
use Rattle.base_kinds.specs.Rising.{IsRising}
use Rattle.base_kinds.specs.Schema.{SchemaNode}
use Rattle.book_port.specs.Ports.{PortView, LooksOnce}
use Rattle.history_laws.proofs.States.{rising_world}
use Rattle.stream_laws.proofs.Kept.{rising_filter}
use Rattle.stream_laws.specs.Follows.{started_messages}
use Rattle.stream_laws.specs.Streams.{StreamView}
use Rattle.sub_plan.specs.declared.plan.Plan.{Plan}
use Rattle.sub_plan.specs.Groups.{patterns_of}
use Rattle.subscribe_calls.specs.Calls.{CallView, new_call, next_messages, next_stream, replies_octets}
use Rattle.subscribe_calls.specs.Turns.{TurnsOnce, TurnsAnew}

-- what a look finds rises
pub view_rises : (from to : PortView) (now : ℕ) (patterns : List (List Elem)) (view : View) → LooksOnce from now patterns (Ok view) to → IsRising view.rows
view_rises from to now patterns view looks =
    subst (λ (v : View). IsRising v.rows) (sym looks.answer.0)
    (rising_filter (λ (row : Row). is_covered patterns row.path) (world_of looks.turn.left).tree (rising_world looks.turn.left))

-- ---- how a turn ends

pub refused : (schema : List SchemaNode) (now : ℕ) (call : CallView) (from to : PortView) (refusal : Refusal)
    → LooksOnce from now (patterns_of call.plan.lines) (Err refusal) to → TurnsOnce schema now call from (Err refusal) call to
refused schema now call from to refusal looks = record { look = Err refusal; looks = looks; answers = (refl, refl) }

pub said : (schema : List SchemaNode) (now : ℕ) (plan : Plan) (old new : Option StreamView) (from to : PortView) (view : View) (octets : List (List ℕ))
    → LooksOnce from now (patterns_of plan.lines) (Ok view) to
    → octets ≡ replies_octets schema plan (next_messages plan old now view)
    → new ≡ Some (next_stream plan old now view)
    → TurnsOnce schema now (record { plan = plan; stream = old }) from (Ok octets) (record { plan = plan; stream = new }) to
said schema now plan old new from to view octets looks written next = record {
  look = Ok view;
  looks = looks;
  answers = (written, ap (λ (s : Option StreamView). record { plan = plan; stream = s }) next);
}

pub starved : (schema : List SchemaNode) (now : ℕ) (plan : Plan) (old new : Option StreamView) (from to : PortView) (view : View)
    → LooksOnce from now (patterns_of plan.lines) (Ok view) to
    → TurnsOnce schema now (record { plan = plan; stream = old }) from (Err refusals.NoMemory) (record { plan = plan; stream = new }) to
starved schema now plan old new from to view looks = record { look = Ok view; looks = looks; answers = refl }

-- ---- a first turn of a call with the plan

pub refused_anew : (schema : List SchemaNode) (now : ℕ) (plan : Plan) (from to : PortView) (refusal : Refusal)
    → LooksOnce from now (patterns_of plan.lines) (Err refusal) to → TurnsAnew schema now plan from (Err refusal) to
refused_anew schema now plan from to refusal looks = (new_call plan, refused schema now (new_call plan) from to refusal looks)

pub said_anew : (schema : List SchemaNode) (now : ℕ) (plan : Plan) (from to : PortView) (view : View) (octets : List (List ℕ))
    → LooksOnce from now (patterns_of plan.lines) (Ok view) to → octets ≡ replies_octets schema plan (started_messages plan view)
    → TurnsAnew schema now plan from (Ok octets) to
said_anew schema now plan from to view octets looks written = (
  record { plan = plan; stream = Some (next_stream plan None now view) },
  said schema now plan None (Some (next_stream plan None now view)) from to view octets looks written refl,
)

pub starved_anew : (schema : List SchemaNode) (now : ℕ) (plan : Plan) (from to : PortView) (view : View)
    → LooksOnce from now (patterns_of plan.lines) (Ok view) to → TurnsAnew schema now plan from (Err refusals.NoMemory) to
starved_anew schema now plan from to view looks = (new_call plan, starved schema now plan None None from to view looks)

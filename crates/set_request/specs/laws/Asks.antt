-- What a request that isn't refused asks.
use Rattle.std.specs.Prelude.{◌≡◌, List, Ok}
use Rattle.base_kinds.specs.declared.entry.Ask.{Ask}
use Rattle.base_kinds.specs.declared.entry.Ask.TheVariants as asks
use Rattle.base_kinds.specs.declared.operation.Op.{Op}
use Rattle.base_kinds.specs.declared.request.Action.TheVariants as actions
use Rattle.base_kinds.specs.declared.request.UnresolvedSet.{UnresolvedSet}
use Rattle.base_kinds.specs.Legal.{IsFit}
use Rattle.base_kinds.specs.Schema.{SchemaNode}
use Rattle.set_request.specs.Operations.{ops_of_request}
use Rattle.set_request.specs.Resolution.{resolved}

-- it may be judged
abbrev pub ResolvedIsFit : Type 0
ResolvedIsFit =
    (schema : List SchemaNode) (ask : UnresolvedSet) (it : Ask) → resolved schema ask ≡ Ok it →
    IsFit it

-- without an action its operations are applied
abbrev pub PlainIsApply : Type 0
PlainIsApply =
    (schema : List SchemaNode) (ask : UnresolvedSet) (it : Ask)
    → ask.action ≡ actions.Plain → resolved schema ask ≡ Ok it
    → (ops : List Op) × ((ops_of_request schema ask ≡ Ok ops) × (it ≡ asks.Apply ops))

-- Why a request is refused before it is judged.
use Rattle.std.specs.Prelude.{◌≡◌, List, Err}
use Rattle.base_kinds.specs.declared.request.UnresolvedSet.{UnresolvedSet}
use Rattle.base_kinds.specs.declared.refusal.Refusal.{Refusal}
use Rattle.base_kinds.specs.declared.refusal.Refusal.TheVariants as refusals
use Rattle.base_kinds.specs.Schema.{SchemaNode}
use Rattle.set_request.specs.Resolution.{resolved}

-- the refusals 5, 6, 7, 9, 13, 14 and 15
abbrev pub IsOfRequests : Refusal → Type 0
IsOfRequests refusals.BadPath = Unit {0}
IsOfRequests refusals.NotInSchema = Unit {0}
IsOfRequests refusals.BadValue = Unit {0}
IsOfRequests refusals.Unsupported = Unit {0}
IsOfRequests refusals.BadDuration = Unit {0}
IsOfRequests refusals.MixedAction = Unit {0}
IsOfRequests refusals.BadId = Unit {0}
IsOfRequests _ = ⊥

-- no other comes: a definition wants no memory, and what the tree holds is judged later
abbrev pub RefusalsOfRequests : Type 0
RefusalsOfRequests =
    (schema : List SchemaNode) (ask : UnresolvedSet) (refusal : Refusal)
    → resolved schema ask ≡ Err refusal → IsOfRequests refusal

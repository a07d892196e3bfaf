-- What `open` looks at.
use Rattle.std.proofs.Common.{◌≡◌, ℕ, List, Bool, false, is_some, Option, Some, None, option_map, Ok, refl, ap, ◌∙◌, if◌then◌else◌}
use Rattle.base_kinds.specs.declared.request.ListMode.{ListMode}
use Rattle.base_kinds.specs.declared.request.SubLine.{SubLine}
use Rattle.sub_plan.specs.declared.plan.Plan.{Plan}
use Rattle.sub_plan.specs.Plans.{plan_of}
use Rattle.script_run.specs.OpenCalls.{call_named}
use Rattle.script_run.specs.Subscribing.{open_look, planned_look, sub_ask}
use Rattle.script_run.specs.declared.calls.NamedCall.{NamedCall}

pub some_mapped : {A B : Type 0} (f : A → B) (value : Option A) → is_some (option_map f value) ≡ is_some value
some_mapped f None = refl
some_mapped f (Some value) = refl

pub open_looks : (name : List ℕ) (mode : ListMode) (only : Bool) (subs : List SubLine) (calls : List NamedCall) (plan : Plan) → is_some (call_named name calls) ≡ false → plan_of (sub_ask mode only subs) ≡ Ok plan → open_look name mode only subs calls ≡ planned_look mode (Ok plan)
open_looks name mode only subs calls plan free is =
    ap (λ b. if b then None else planned_look mode (plan_of (sub_ask mode only subs))) free ∙ ap (planned_look mode) is

-- What a Set request asks of a target with this schema (gNMI 3.4), or why it is refused: by the first cause that holds.
use Rattle.std.specs.Prelude.{ℕ, List, not, Result, Ok, Err, if◌then◌else◌}
use Rattle.base_kinds.specs.declared.entry.Ask.{Ask}
use Rattle.base_kinds.specs.declared.request.UnresolvedSet.{UnresolvedSet}
use Rattle.base_kinds.specs.declared.refusal.Refusal.{Refusal}
use Rattle.base_kinds.specs.declared.refusal.Refusal.TheVariants.{Unsupported, MixedAction, BadId, BadDuration}
use Rattle.base_kinds.specs.Schema.{SchemaNode}
use Rattle.base_lists.specs.Results.{and_then}
use Rattle.std.specs.Option.{ok_or}
use Rattle.set_request.specs.Actions.{has_operations, is_mixed, has_fit_id, action_duration, ask_of}
use Rattle.set_request.specs.Operations.{ops_of_request}

-- the duration of the request's action, once the action is one that may be asked
abbrev pub checked_duration : UnresolvedSet → Result ℕ Refusal
checked_duration ask =
    if ask.unsupported then Err Unsupported else
    if is_mixed ask.action (has_operations ask) then Err MixedAction else
    if not (has_fit_id ask.action) then Err BadId else
    ok_or (action_duration ask.action) BadDuration

-- the action first, then the operations
abbrev pub resolved : List SchemaNode → UnresolvedSet → Result Ask Refusal
resolved schema ask =
    and_then (checked_duration ask) (λ nanos.
    and_then (ops_of_request schema ask) (λ ops. Ok (ask_of ask.action ops nanos)))

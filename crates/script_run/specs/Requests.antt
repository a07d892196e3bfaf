-- The request that a script's lines make up, before it is a Set's.
use Rattle.std.specs.Prelude.{ℕ, List, [], ◌∷◌, ◌++◌, false}
use Rattle.base_kinds.specs.declared.path.Elem.{Elem}
use Rattle.base_kinds.specs.declared.operation.Act.{Act}
use Rattle.base_kinds.specs.declared.operation.Act.TheVariants.{Delete, Replace, Update}
use Rattle.base_kinds.specs.declared.request.Change.{Change}
use Rattle.base_kinds.specs.declared.request.Given.TheVariants.{Json}
use Rattle.base_kinds.specs.declared.request.Action.{Action}
use Rattle.base_kinds.specs.declared.request.UnresolvedSet.{UnresolvedSet}
use Rattle.script_run.specs.declared.pending.Pending.{Pending}

abbrev pub nothing_pending : Pending
nothing_pending = record { deletes = []; replaces = []; updates = [] }

-- a replace or an update with the text of a JSON value
abbrev pub change : List Elem → List ℕ → Change
change path value = record { path = path; given = Json value }

-- the request with one operation more, of its kind the last
abbrev pub with_operation : Act → List Elem → List ℕ → Pending → Pending
with_operation Delete path value pending = record pending { deletes = pending.deletes ++ path ∷ [] }
with_operation Replace path value pending =
    record pending { replaces = pending.replaces ++ change path value ∷ [] }
with_operation Update path value pending =
    record pending { updates = pending.updates ++ change path value ∷ [] }

-- a Set of these operations with this action, without a prefix
abbrev pub unresolved_set : Action → Pending → UnresolvedSet
unresolved_set action pending =
    record {
      prefix = [];
      target = [];
      deletes = pending.deletes;
      replaces = pending.replaces;
      updates = pending.updates;
      action = action;
      unsupported = false;
    }

-- The action of the commits that were met so far.
use Rattle.std.specs.Prelude.{List, [], ◌∷◌, Option, Some, None}
use Rattle.base_kinds.specs.declared.request.Action.{Action}
use Rattle.base_kinds.specs.declared.request.Action.TheVariants as actions

abbrev pub with_commit : Option Action → Action → Action
with_commit None action = action
with_commit (Some before) action = actions.Mixed

-- none where there is no commit
abbrev pub asked : List Action → Option Action
asked [] = None
asked (action ∷ []) = Some action
asked (action ∷ other ∷ others) = Some actions.Mixed

-- To which group a row belongs (gNMI 3.5.1.3): where subscriptions overlap, the first one that covers the row has it.
use Rattle.std.specs.Prelude.{ℕ, List, [], ◌∷◌, Bool, false, ◌==◌, Option, Some, None, filter, map, if◌then◌else◌}
use Rattle.base_kinds.specs.declared.path.Elem.{Elem}
use Rattle.base_kinds.specs.declared.operation.Row.{Row}
use Rattle.base_kinds.specs.Match.{covers}
use Rattle.sub_plan.specs.declared.plan.Line.{Line}

-- the group of the first line that covers the path
abbrev pub group_of : List Line → List Elem → Option ℕ
group_of [] path = None
group_of (line ∷ lines) path =
    if covers line.pattern path then Some line.group else group_of lines path

abbrev pub is_group : Option ℕ → ℕ → Bool
is_group None number = false
is_group (Some group) number = group == number

-- the rows of the group with this number
abbrev pub group_rows : List Line → ℕ → List Row → List Row
group_rows lines number rows = filter (λ row. is_group (group_of lines row.path) number) rows

-- what the lines cover
abbrev pub patterns_of : List Line → List (List Elem)
patterns_of lines = map (λ line. line.pattern) lines

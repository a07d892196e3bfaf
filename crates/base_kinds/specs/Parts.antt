-- The parts of a tree that patterns choose (gNMI 3.3.1 and 3.5.1.3).
use Rattle.std.specs.Prelude.{ℕ, List, [], ◌∷◌, Bool, false, ◌==◌, filter, if◌then◌else◌}
use Rattle.std.specs.List.{list_any}
use Rattle.base_kinds.specs.declared.path.Elem.{Elem}
use Rattle.base_kinds.specs.declared.operation.Row.{Row}
use Rattle.base_kinds.specs.Match.{covers}

-- some pattern covers the path
abbrev pub is_covered : List (List Elem) → List Elem → Bool
is_covered patterns path = list_any (λ pattern. covers pattern path) patterns

-- the rows that some pattern covers
abbrev pub part : List (List Elem) → List Row → List Row
part patterns rows = filter (λ row. is_covered patterns row.path) rows

-- the first line that covers the path is in the group: a line is a pattern and the number of its group
abbrev pub is_in_group : List (List Elem × ℕ) → ℕ → List Elem → Bool
is_in_group [] group path = false
is_in_group (line ∷ lines) group path =
    if covers line.0 path then line.1 == group else is_in_group lines group path

-- the rows of a group: each row belongs to the first line that covers it
abbrev pub rows_of_group : List (List Elem × ℕ) → ℕ → List Row → List Row
rows_of_group lines group rows = filter (λ row. is_in_group lines group row.path) rows

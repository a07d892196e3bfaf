-- The rows of a tree rise by path, and have at most one value at each path.
use Rattle.std.specs.Prelude.{List, [], ◌∷◌, Option, Some, None, if◌then◌else◌}
use Rattle.std.specs.List.Sorted.{IsStrictlySortedBy}
use Rattle.std.specs.declared.cmp.Ordering.{Ordering}
use Rattle.base_kinds.specs.declared.path.Elem.{Elem}
use Rattle.base_kinds.specs.declared.value.Value.{Value}
use Rattle.base_kinds.specs.declared.operation.Row.{Row}
use Rattle.base_kinds.specs.declared.operation.Op.{Op}
use Rattle.base_kinds.specs.declared.operation.Act.{Act}
use Rattle.base_kinds.specs.declared.operation.Act.TheVariants.{Delete, Replace, Update}
use Rattle.base_kinds.specs.Paths.{path_cmp, same_path}
use Rattle.base_kinds.specs.Match.{covers}

abbrev pub row_cmp : Row → Row → Ordering
row_cmp a b = path_cmp a.path b.path

-- each row's path is above those before it
abbrev pub IsRising : List Row → Type 0
IsRising = IsStrictlySortedBy row_cmp

-- the value of the first row that has the path
abbrev pub value_at : List Elem → List Row → Option Value
value_at path [] = None
value_at path (row ∷ rows) = if same_path row.path path then Some row.value else value_at path rows

-- the value of the last of these rows that has the path, or else this one
abbrev pub last_value : List Elem → List Row → Option Value → Option Value
last_value path [] old = old
last_value path (row ∷ rows) old =
    last_value path rows (if same_path row.path path then Some row.value else old)

-- what an operation leaves at a path where this stood
abbrev pub value_after : Act → Op → List Elem → Option Value → Option Value
value_after Delete op path old = if covers op.path path then None else old
value_after Replace op path old =
    last_value path op.rows (if covers op.path path then None else old)
value_after Update op path old = last_value path op.rows old

-- what operations leave there, one after another
abbrev pub values_after : List Op → List Elem → Option Value → Option Value
values_after [] path old = old
values_after (op ∷ ops) path old = values_after ops path (value_after op.act op path old)

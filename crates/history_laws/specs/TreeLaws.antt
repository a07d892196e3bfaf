-- What holds of trees: their rows stay in order, and operations change the values that they name (gNMI 3.4).
use Rattle.std.specs.Prelude.{◌≡◌, ◌↔◌, List, false, Some, None, IsTrue, if◌then◌else◌}
use Rattle.std.specs.List.{Contains}
use Rattle.base_kinds.specs.declared.path.Elem.{Elem}
use Rattle.base_kinds.specs.declared.operation.Row.{Row}
use Rattle.base_kinds.specs.declared.operation.Op.{Op}
use Rattle.base_kinds.specs.Match.{covers}
use Rattle.base_kinds.specs.declared.operation.Act.TheVariants.{Delete, Replace, Update}
use Rattle.base_kinds.specs.Tree.{set_row, set_rows, uncovered, op_effect, with_act, effect}
use Rattle.base_lists.specs.Rising.{rises}
use Rattle.base_kinds.specs.Rising.{row_cmp, IsRising, value_at, last_value, value_after, values_after}

-- setting a row keeps the rows rising
abbrev pub SettingOneKeepsRising : Type 0
SettingOneKeepsRising = (row : Row) (tree : List Row) → IsRising tree → IsRising (set_row row tree)

-- and so does setting many
abbrev pub SettingKeepsRising : Type 0
SettingKeepsRising = (rows tree : List Row) → IsRising tree → IsRising (set_rows rows tree)

-- one operation keeps the rows rising
abbrev pub OperationsKeepRising : Type 0
OperationsKeepRising = (op : Op) (tree : List Row) → IsRising tree → IsRising (op_effect op tree)

-- a whole Set keeps the rows rising
abbrev pub EffectsKeepRising : Type 0
EffectsKeepRising = (ops : List Op) (tree : List Row) → IsRising tree → IsRising (effect ops tree)

-- after a row is set, its value stands at its path
abbrev pub SetsValue : Type 0
SetsValue = (row : Row) (tree : List Row) → value_at row.path (set_row row tree) ≡ Some row.value

-- and at every other path stands what stood there
abbrev pub KeepsOtherValues : Type 0
KeepsOtherValues =
    (path : List Elem) (row : Row) (tree : List Row) → (row.path ≡ path → ⊥) →
    value_at path (set_row row tree) ≡ value_at path tree

-- after rows are set, the value of the last one of a path stands there, or what stood there
abbrev pub SetsLastValues : Type 0
SetsLastValues =
    (path : List Elem) (rows tree : List Row) →
    value_at path (set_rows rows tree) ≡ last_value path rows (value_at path tree)

-- a delete leaves exactly the rows that its pattern doesn't cover
abbrev pub KeepsUncovered : Type 0
KeepsUncovered =
    (pattern : List Elem) (tree : List Row) (row : Row) →
    Contains (uncovered pattern tree) row ↔ (Contains tree row × (covers pattern row.path ≡ false))

-- and so no value at a path that it covers, and the old value elsewhere
abbrev pub DeletesValues : Type 0
DeletesValues =
    (pattern path : List Elem) (tree : List Row) →
    value_at path (uncovered pattern tree) ≡
    (if covers pattern path then None else value_at path tree)

-- what an operation leaves at a path is decided by what stood there
abbrev pub OperationsSetValues : Type 0
OperationsSetValues =
    (path : List Elem) (op : Op) (tree : List Row) →
    value_at path (op_effect op tree) ≡ value_after op.act op path (value_at path tree)

-- and so is what a whole Set leaves, by its deletes, then its replaces, then its updates
abbrev pub EffectsSetValues : Type 0
EffectsSetValues =
    (path : List Elem) (ops : List Op) (tree : List Row) →
    value_at path (effect ops tree) ≡
    values_after (with_act Update ops) path
    (values_after (with_act Replace ops) path
    (values_after (with_act Delete ops) path (value_at path tree)))

-- the test of neighbours says that rows rise
abbrev pub TestSaysRising : Type 0
TestSaysRising = (rows : List Row) → IsTrue (rises row_cmp rows) ↔ IsRising rows

-- trees with the same values are the same
abbrev pub ValuesDecide : Type 0
ValuesDecide =
    (a b : List Row) → IsRising a → IsRising b →
    ((path : List Elem) → value_at path a ≡ value_at path b) → a ≡ b

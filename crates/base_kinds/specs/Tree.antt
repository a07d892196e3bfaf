-- A configuration tree is a finite map from paths to values, given as the list of its rows, rising by path.
-- What the operations of a Set do to it (gNMI 3.4).
use Rattle.std.specs.Prelude.{List, [], ◌∷◌, Bool, true, false, not, filter}
use Rattle.std.specs.declared.cmp.Ordering.{Ordering}
use Rattle.std.specs.declared.cmp.Ordering.TheVariants.{Less, Equal, Greater}
use Rattle.base_kinds.specs.declared.path.Elem.{Elem}
use Rattle.base_kinds.specs.declared.operation.Row.{Row}
use Rattle.base_kinds.specs.declared.operation.Op.{Op}
use Rattle.base_kinds.specs.declared.operation.Act.{Act}
use Rattle.base_kinds.specs.declared.operation.Act.TheVariants.{Delete, Replace, Update}
use Rattle.base_kinds.specs.Paths.{path_cmp}
use Rattle.base_kinds.specs.Match.{covers}

-- the row before the first of the others, in its place, or behind it, by how the first one's path compares with the row's
abbrev pub placed : Ordering → Row → Row → List Row → List Row → List Row
placed Less row first others set = first ∷ set
placed Equal row first others set = row ∷ others
placed Greater row first others set = row ∷ first ∷ others

-- the tree with the row's value at the row's path
abbrev pub set_row : Row → List Row → List Row
set_row row [] = row ∷ []
set_row row (first ∷ others) =
    placed (path_cmp first.path row.path) row first others (set_row row others)

-- each row is set, in order
abbrev pub set_rows : List Row → List Row → List Row
set_rows [] tree = tree
set_rows (row ∷ rows) tree = set_rows rows (set_row row tree)

-- the rows that the pattern doesn't cover
abbrev pub uncovered : List Elem → List Row → List Row
uncovered pattern tree = filter (λ row. not (covers pattern row.path)) tree

-- a delete removes what its path covers, an update sets its rows, and a replace does the one and then the other
abbrev pub act_effect : Act → Op → List Row → List Row
act_effect Delete op tree = uncovered op.path tree
act_effect Replace op tree = set_rows op.rows (uncovered op.path tree)
act_effect Update op tree = set_rows op.rows tree

abbrev pub op_effect : Op → List Row → List Row
op_effect op tree = act_effect op.act op tree

-- one operation after another
abbrev pub in_turn : List Op → List Row → List Row
in_turn [] tree = tree
in_turn (op ∷ ops) tree = in_turn ops (op_effect op tree)

abbrev pub is_act : Act → Act → Bool
is_act Delete Delete = true
is_act Replace Replace = true
is_act Update Update = true
is_act _ _ = false

-- the operations with this act, in their order
abbrev pub with_act : Act → List Op → List Op
with_act act ops = filter (λ op. is_act act op.act) ops

-- the deletes, then the replaces, then the updates, each in list order (gNMI 3.4.3)
abbrev pub effect : List Op → List Row → List Row
effect ops tree =
    in_turn (with_act Update ops)
    (in_turn (with_act Replace ops) (in_turn (with_act Delete ops) tree))

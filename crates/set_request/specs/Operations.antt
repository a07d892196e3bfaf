-- The operations of a Set request, resolved by a schema (gNMI 3.4.1 to 3.4.4). Of each operation the path is looked at
-- first, and then the value; one operation follows the other.
use Rattle.std.specs.Prelude.{List, [], ◌++◌, Bool, not, ◌&&◌, ◌==◌, length, Result, Ok, Err, if◌then◌else◌}
use Rattle.std.specs.List.{list_all, list_any}
use Rattle.base_lists.specs.Results.{and_then, traverse}
use Rattle.base_kinds.specs.declared.path.Elem.{Elem}
use Rattle.base_kinds.specs.declared.operation.Row.{Row}
use Rattle.base_kinds.specs.declared.operation.Op.{Op}
use Rattle.base_kinds.specs.declared.operation.Act.{Act}
use Rattle.base_kinds.specs.declared.operation.Act.TheVariants.{Delete, Replace, Update}
use Rattle.base_kinds.specs.declared.request.Change.{Change}
use Rattle.base_kinds.specs.declared.request.UnresolvedSet.{UnresolvedSet}
use Rattle.base_kinds.specs.declared.refusal.Refusal.{Refusal}
use Rattle.base_kinds.specs.declared.refusal.Refusal.TheVariants.{BadPath, BadValue}
use Rattle.base_kinds.specs.Legal.{is_fit_path, is_fit_row}
use Rattle.base_lists.specs.Rising.{rises}
use Rattle.base_kinds.specs.Paths.{path_cmp}
use Rattle.base_kinds.specs.Schema.{SchemaNode}
use Rattle.base_kinds.specs.Tree.{set_rows}
use Rattle.base_kinds.specs.Valid.{unless_none}
use Rattle.base_kinds.specs.Values.{same_scalar}
use Rattle.base_kinds.specs.Rising.{value_at}
use Rattle.set_request.specs.ValueRows.{rows_of_value}
use Rattle.set_request.specs.KeyLeaves.{is_wild, key_leaves_of}

-- Each element has a name. There are at most 32, each with at most 65,535 keys, which rise by name.
abbrev pub is_whole_path : List Elem → Bool
is_whole_path path = is_fit_path path && list_all (λ elem. not (length elem.name == 0)) path

-- a delete names what it names, also by patterns and where nothing is
abbrev pub op_of_delete : List Elem → List Elem → Result Op Refusal
op_of_delete prefix path =
    if is_whole_path (prefix ++ path)
    then Ok (record { act = Delete; path = prefix ++ path; rows = [] }) else Err BadPath

-- what a value gives at a key leaf is the value that the path's key spells
abbrev pub key_leaves_agree : List Row → List Row → Bool
key_leaves_agree keys rows =
    list_all (λ key. unless_none (value_at key.path rows) (same_scalar key.value)) keys

-- Rows that an operation may have: short paths, keys that rise, decimals with 1 to 18 places. The types of a schema allow
-- others; the grammar of its text doesn't.
abbrev pub are_fit_rows : List Row → Bool
are_fit_rows rows = list_all is_fit_row rows && rises (λ a b. path_cmp a.path b.path) rows

-- an operation with the rows of its value and with the key leaves that its path names
abbrev pub op_with : Act → List Elem → List Row → List Row → Result Op Refusal
op_with act path keys rows =
    if key_leaves_agree keys rows && are_fit_rows (set_rows keys rows)
    then Ok (record { act = act; path = path; rows = set_rows keys rows }) else Err BadValue

-- a replace or an update of one place that the schema has
abbrev pub op_at : List SchemaNode → Act → List Elem → Change → Result Op Refusal
op_at schema act path change =
    and_then (key_leaves_of schema path) (λ keys.
    and_then (rows_of_value schema path change.given) (op_with act path keys))

abbrev pub op_of_change : List SchemaNode → List Elem → Act → Change → Result Op Refusal
op_of_change schema prefix act change =
    if is_whole_path (prefix ++ change.path) && not (list_any is_wild (prefix ++ change.path))
    then op_at schema act (prefix ++ change.path) change else Err BadPath

-- the deletes, then the replaces, then the updates, each in list order
abbrev pub ops_of_request : List SchemaNode → UnresolvedSet → Result (List Op) Refusal
ops_of_request schema ask =
    and_then (traverse (op_of_delete ask.prefix) ask.deletes) (λ deletes.
    and_then (traverse (op_of_change schema ask.prefix Replace) ask.replaces) (λ replaces.
    and_then (traverse (op_of_change schema ask.prefix Update) ask.updates) (λ updates.
    Ok (deletes ++ (replaces ++ updates)))))

-- The names of an object's members (RFC 7951 4): a child's name, or its module's name and its own with `:` between.
use Rattle.std.specs.Prelude.{ℕ, List, [], ◌∷◌, ◌++◌, Bool, true, length, nat_lt, if◌then◌else◌, Option, Some, None, option_and_then, Result, Ok, Err}
use Rattle.std.specs.List.{list_any, position_or_len, before_first, after_first}
use Rattle.std.specs.Str.{bytes_eq}
use Rattle.base_kinds.specs.Schema.{SchemaNode, node_of}
use Rattle.schema_core.specs.Identifiers.{is_colon}
use Rattle.json_rows.specs.declared.fault.RowsFault.{RowsFault}
use Rattle.json_rows.specs.declared.fault.RowsFault.TheVariants.{NotInSchema, BadValue}

abbrev pub has_module : List ℕ → Bool
has_module text = nat_lt (position_or_len is_colon text) (length text)

-- what stands before the first `:`, where there is one
abbrev pub module_in : List ℕ → Option (List ℕ)
module_in text = if has_module text then Some (before_first is_colon text) else None

-- what stands behind the first `:`, or all
abbrev pub name_in : List ℕ → List ℕ
name_in text = if has_module text then after_first is_colon text else text

abbrev pub qualified : List ℕ → List ℕ → List ℕ
qualified module_name name = module_name ++ (58 ∷ name)

-- the node with this name right below the node with these names, or below the root, which has none
abbrev pub child_at : List SchemaNode → List (List ℕ) → List ℕ → Option SchemaNode
child_at schema names name = node_of schema (names ++ name ∷ [])

abbrev pub is_of_module : Option (List ℕ) → SchemaNode → Bool
is_of_module None node = true
is_of_module (Some module_name) node = bytes_eq module_name node.module_name

abbrev pub if_of_module : Option (List ℕ) → SchemaNode → Option SchemaNode
if_of_module module_name node = if is_of_module module_name node then Some node else None

-- the child that a member names
abbrev pub child_named : List SchemaNode → List (List ℕ) → List ℕ → Option SchemaNode
child_named schema names text =
    option_and_then (if_of_module (module_in text)) (child_at schema names (name_in text))

abbrev pub if_fresh : List (List ℕ) → List ℕ → Option SchemaNode → Result SchemaNode RowsFault
if_fresh seen name None = Err NotInSchema
if_fresh seen name (Some child) = if list_any (bytes_eq name) seen then Err BadValue else Ok child

-- the child that a member names, where no member before it in the object named the same
abbrev pub fresh_child :
    List SchemaNode → List (List ℕ) → List (List ℕ) → List ℕ → Result SchemaNode RowsFault
fresh_child schema names seen text = if_fresh seen (name_in text) (child_named schema names text)

-- What a schema text means: its nodes in the order of its lines, or the first fault and its line. The form is this
-- project's own.
use Rattle.std.specs.Prelude.{◌≡◌, ℕ, ◌+◌, List, [], ◌∷◌, ◌++◌, Bool, true, false, not, ◌&&◌, ◌||◌, ◌==◌, nat_le, nat_lt, length, Option, Some, None, Result, Ok, Err, is_some, if◌then◌else◌}
use Rattle.std.specs.List.{list_all}
use Rattle.base_lists.specs.Results.{and_then}
use Rattle.base_kinds.specs.Schema.{SchemaNode, node_of}
use Rattle.base_kinds.specs.Limits.{most_schema_nodes, most_schema_line_octets, most_schema_octets}
use Rattle.plain_texts.specs.Splits.{parts_of}
use Rattle.schema_core.specs.Nodes.{has_parent, container_node, list_node, leaf_node, leaf_list_node}
use Rattle.schema_core.specs.WellFormed.{has_key_leaf, has_target}
use Rattle.schema_text.specs.declared.cause.Cause.{Cause}
use Rattle.schema_text.specs.declared.cause.Cause.TheVariants.{Syntax, NoModule, NoParent, Twice, TooLarge, NoKey, BadRef}
use Rattle.schema_text.specs.declared.cause.SchemaFault.{SchemaFault}
use Rattle.schema_text.specs.declared.cause.SchemaError.{SchemaError}
use Rattle.schema_text.specs.declared.cause.SchemaError.TheVariants.{Fault, NoMemory}
use Rattle.schema_text.specs.declared.line.Declared.{Declared}
use Rattle.schema_text.specs.declared.line.Declared.TheVariants as declared
use Rattle.schema_text.specs.declared.line.Line.{Line}
use Rattle.schema_text.specs.declared.line.Line.TheVariants.{Skipped, Module, Node}
use Rattle.schema_text.specs.Grammar.{line_of}

-- What stands before a line: the nodes so far, the line of each, and the module of those that follow, where one was named.
pub record Read : Type 0 where
  pub nodes : List SchemaNode
  pub lines : List ℕ
  pub module_name : Option (List ℕ)

abbrev pub nothing_read : Read
nothing_read = record { nodes = []; lines = []; module_name = None }

-- a node of the module with this name
abbrev pub node_in : List ℕ → List (List ℕ) → Declared → SchemaNode
node_in name names declared.Container = container_node name names
node_in name names (declared.List keys maximum) = list_node name names keys maximum
node_in name names (declared.Leaf shape is_mandatory reference) =
    leaf_node name names shape is_mandatory reference
node_in name names (declared.LeafList shape maximum) = leaf_list_node name names shape maximum

abbrev pub in_module : ℕ → Read → List (List ℕ) → Declared → Option (List ℕ) → Result Read Cause
in_module number read names node None = Err NoModule
in_module number read names node (Some name) =
    if not (has_parent read.nodes names) then Err NoParent
    else if is_some (node_of read.nodes names) then Err Twice
    else Ok (record read {
      nodes =
          read.nodes ++ node_in name names node ∷ [];
      lines = read.lines ++ number ∷ [];
    })

-- at most so many nodes
abbrev pub with_node : ℕ → Read → List (List ℕ) → Declared → Result Read Cause
with_node number read names node =
    if nat_le most_schema_nodes (length read.nodes) then Err TooLarge
    else in_module number read names node read.module_name

abbrev pub with_line : ℕ → Read → Option Line → Result Read Cause
with_line number read None = Err Syntax
with_line number read (Some Skipped) = Ok read
with_line number read (Some (Module name)) = Ok (record read { module_name = Some name })
with_line number read (Some (Node names node)) = with_node number read names node

-- a line is short enough, and with its line feed the text ends in its limit
abbrev pub is_too_long : List ℕ → ℕ → ℕ → Bool
is_too_long line place feeds =
    nat_lt most_schema_line_octets (length line)
    || nat_lt most_schema_octets (place + length line + feeds)

-- a line that a line feed ends
abbrev pub ended_line : ℕ → ℕ → Read → List ℕ → Result Read Cause
ended_line number place read line =
    if is_too_long line place 1 then Err TooLarge else with_line number read (line_of line)

-- behind the last line feed stands nothing, or a line that none ends
abbrev pub last_part : ℕ → Read → List ℕ → Result Read Cause
last_part place read [] = Ok read
last_part place read (octet ∷ octets) =
    if is_too_long (octet ∷ octets) place 0 then Err TooLarge else Err Syntax

-- a part of the text between its line feeds, so many octets standing before it, and the parts behind it
abbrev pub with_part : ℕ → ℕ → Read → List ℕ → List (List ℕ) → Result Read Cause
with_part number place read part [] = last_part place read part
with_part number place read part (next ∷ parts) = ended_line number place read part

abbrev pub at_line : {A : Type 0} → ℕ → Result A Cause → Result A SchemaFault
at_line number (Err cause) = Err (record { line = number; cause = cause })
at_line number (Ok value) = Ok value

-- the parts from this line on: the first line that can't be taken decides
abbrev pub read_parts : ℕ → ℕ → Read → List (List ℕ) → Result Read SchemaFault
read_parts number place read [] = Ok read
read_parts number place read (part ∷ parts) =
    and_then (at_line number (with_part number place read part parts))
    (λ more. read_parts (number + 1) (place + length part + 1) more parts)

abbrev pub node_fault : List SchemaNode → SchemaNode → Option Cause
node_fault nodes node =
    if not (list_all (has_key_leaf nodes node) node.keys) then Some NoKey
    else if not (has_target nodes node.shape node.reference) then Some BadRef
    else None

abbrev pub or_fault : ℕ → Option Cause → Option SchemaFault → Option SchemaFault
or_fault number (Some cause) others = Some (record { line = number; cause = cause })
or_fault number None others = others

-- the first of these nodes, on these lines, that lacks a key or the leaf that it refers to
abbrev pub first_fault : List SchemaNode → List SchemaNode → List ℕ → Option SchemaFault
first_fault all [] lines = None
first_fault all (node ∷ nodes) [] = None
first_fault all (node ∷ nodes) (line ∷ lines) =
    or_fault line (node_fault all node) (first_fault all nodes lines)

abbrev pub unless_fault : List SchemaNode → Option SchemaFault →
    Result (List SchemaNode) SchemaFault
unless_fault nodes None = Ok nodes
unless_fault nodes (Some fault) = Err fault

-- keys and references count only where every line could be taken
abbrev pub schema_of : List ℕ → Result (List SchemaNode) SchemaFault
schema_of text =
    and_then (read_parts 1 0 nothing_read (parts_of 10 text))
    (λ read. unless_fault read.nodes (first_fault read.nodes read.nodes read.lines))

-- the error tells this fault; want of memory tells nothing
abbrev pub IsFaultOf : {A : Type 0} → SchemaError → Result A SchemaFault → Type 0
IsFaultOf (Fault fault) meaning = meaning ≡ Err fault
IsFaultOf NoMemory meaning = Unit {0}

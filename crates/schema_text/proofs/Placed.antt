-- The nodes of a schema text have their parents before them, and no names stand twice.
use Rattle.std.proofs.Common.{◌≡◌, ℕ, List, [], ◌∷◌, ◌++◌, Bool, true, false, not, cond, leb, length, Option, Some, None, Result, Ok, Err, is_some, refl, ap, ◌∙◌, subst}
use Rattle.base_kinds.specs.Schema.{SchemaNode, node_of}
use Rattle.plain_texts.specs.Splits.{parts_of}
use Rattle.schema_core.specs.Nodes.{has_parent, AllPlaced}
use Rattle.schema_core.proofs.NodeLemmas.{placed_more}
use Rattle.base_lists.specs.Results.{and_then}
use Rattle.schema_text.specs.declared.cause.Cause.TheVariants.{NoParent, Twice, TooLarge}
use Rattle.schema_text.specs.declared.cause.SchemaFault.{SchemaFault}
use Rattle.schema_text.specs.declared.line.Declared.{Declared}
use Rattle.schema_text.specs.declared.line.Declared.TheVariants as declared
use Rattle.schema_text.specs.declared.line.Line.{Line}
use Rattle.schema_text.specs.declared.line.Line.TheVariants.{Skipped, Module, Node}
use Rattle.schema_text.specs.Grammar.{line_of}
use Rattle.base_kinds.specs.Limits.{most_schema_nodes}
use Rattle.schema_text.specs.Schemas.{Read, nothing_read, node_in, in_module, with_line, read_parts, first_fault, unless_fault, schema_of}
use Rattle.schema_text.proofs.Folded.{Keeps, kept_if, kept_parts}

abbrev HasPlaces : Read → Type 0
HasPlaces read = AllPlaced read.nodes

abbrev KeepsRead : {E : Type 0} → Result Read E → Type 0
KeepsRead result = Keeps HasPlaces result

abbrev KeepsNodes : Result (List SchemaNode) SchemaFault → Type 0
KeepsNodes (Ok nodes) = AllPlaced nodes
KeepsNodes (Err fault) = Unit {0}

named : (name : List ℕ) (names : List (List ℕ)) (node : Declared) → (node_in name names node).names ≡ names
named name names declared.Container = refl
named name names (declared.List keys maximum) = refl
named name names (declared.Leaf shape is_mandatory reference) = refl
named name names (declared.LeafList shape maximum) = refl

kept_in : (number : ℕ) (read : Read) (name : List ℕ) (names : List (List ℕ)) (node : Declared) (there : Bool) (found : Option SchemaNode) → has_parent read.nodes names ≡ there → node_of read.nodes names ≡ found → AllPlaced read.nodes → KeepsRead (cond (not there) (Err NoParent) (cond (is_some found) (Err Twice) (Ok (record read { nodes = read.nodes ++ node_in name names node ∷ []; lines = read.lines ++ number ∷ [] }))))
kept_in number read name names node false found parent is placed = tt
kept_in number read name names node true (Some other) parent is placed = tt
kept_in number read name names node true None parent is placed = placed_more read.nodes (node_in name names node) placed (record { fresh = ap (node_of read.nodes) (named name names node) ∙ is; parent = ap (has_parent read.nodes) (named name names node) ∙ parent })

kept_module : (number : ℕ) (read : Read) (names : List (List ℕ)) (node : Declared) (name : Option (List ℕ)) → AllPlaced read.nodes → KeepsRead (in_module number read names node name)
kept_module number read names node None placed = tt
kept_module number read names node (Some name) placed = kept_in number read name names node (has_parent read.nodes names) (node_of read.nodes names) refl refl placed

kept_line : (number : ℕ) (read : Read) (line : Option Line) → AllPlaced read.nodes → KeepsRead (with_line number read line)
kept_line number read None placed = tt
kept_line number read (Some Skipped) placed = placed
kept_line number read (Some (Module name)) placed = placed
kept_line number read (Some (Node names node)) placed = kept_if HasPlaces (leb most_schema_nodes (length read.nodes)) TooLarge (in_module number read names node read.module_name) (kept_module number read names node read.module_name placed)

kept_settled : (nodes : List SchemaNode) (fault : Option SchemaFault) → AllPlaced nodes → KeepsNodes (unless_fault nodes fault)
kept_settled nodes None placed = placed
kept_settled nodes (Some fault) placed = tt

kept_whole : (read : Result Read SchemaFault) → KeepsRead read → KeepsNodes (and_then read (λ read. unless_fault read.nodes (first_fault read.nodes read.nodes read.lines)))
kept_whole (Ok read) kept = kept_settled read.nodes (first_fault read.nodes read.nodes read.lines) kept
kept_whole (Err fault) kept = tt

none_placed : AllPlaced []
none_placed number node is = absurd (cc)

pub all_placed : (text : List ℕ) (nodes : List SchemaNode) → schema_of text ≡ Ok nodes → AllPlaced nodes
all_placed text nodes is = subst KeepsNodes is (kept_whole (read_parts 1 0 nothing_read (parts_of 10 text)) (kept_parts HasPlaces (λ number read octets. kept_line number read (line_of octets)) 1 0 nothing_read (parts_of 10 text) none_placed))

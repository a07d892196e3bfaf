-- The schema of a text is well-formed.
use Rattle.std.proofs.Common.{◌≤◌, IfSome, ◌≡◌, ℕ, List, [], ◌∷◌, ◌++◌, Bool, true, false, not, ◌&&◌, cond, leb, length, Option, Some, None, Result, Ok, Err, is_some, refl, ap, ◌∙◌, sym, subst, arith, bytes_eq, true≢false}
use Rattle.std.specs.List.{AllByRecursion, list_all}
use Rattle.std.proofs.lemmas.Bool.{and_parts, and_from}
use Rattle.std.proofs.lemmas.List.{length-append}
use Rattle.base_kinds.specs.Schema.{SchemaNode, node_of}
use Rattle.base_lists.specs.Results.{and_then}
use Rattle.base_kinds.specs.Valid.{unless_none, is_leafy}
use Rattle.plain_texts.specs.Names.{is_name}
use Rattle.plain_texts.specs.Splits.{parts_of}
use Rattle.schema_core.specs.Shapes.{texts_differ, is_fit_shape}
use Rattle.schema_core.specs.Nodes.{has_parent}
use Rattle.schema_core.specs.WellFormed.{is_leaf, is_list_node, may_have_maximum, most_names, most_keys, is_fit_maximum, has_key_leaf, has_target, IsWellFormedNode}
use Rattle.schema_text.specs.declared.cause.Cause.{Cause}
use Rattle.schema_text.specs.declared.cause.Cause.TheVariants.{NoParent, Twice, TooLarge, NoKey, BadRef}
use Rattle.schema_text.specs.declared.cause.SchemaFault.{SchemaFault}
use Rattle.schema_text.specs.declared.line.Declared.{Declared}
use Rattle.schema_text.specs.declared.line.Declared.TheVariants as declared
use Rattle.schema_text.specs.declared.line.Line.{Line}
use Rattle.schema_text.specs.declared.line.Line.TheVariants.{Skipped, Module, Node}
use Rattle.schema_text.specs.Grammar.{line_of}
use Rattle.schema_text.specs.laws.Schemas.{ReadSchemasAreWellFormed}
use Rattle.base_kinds.specs.Limits.{most_schema_nodes}
use Rattle.schema_text.specs.Schemas.{Read, nothing_read, node_in, in_module, with_line, read_parts, node_fault, or_fault, first_fault, unless_fault}
use Rattle.schema_text.proofs.Folded.{Keeps, kept_if, kept_parts}
use Rattle.schema_text.proofs.Declarations.{AreFit, IsFitDeclared, IsFitLine, line_fit}
use Rattle.schema_text.proofs.Placed.{all_placed}

-- what the line of a node says of it alone
record IsFitNode (node : SchemaNode) : Type 0 where
  few_names : length node.names ≤ most_names
  names : list_all is_name node.names ≡ true
  module_name : is_name node.module_name ≡ true
  keyless : is_list_node node ≡ false → node.keys ≡ []
  keyed : is_list_node node ≡ true → node.keys ≡ [] → ⊥
  few_keys : length node.keys ≤ most_keys
  keys_differ : texts_differ node.keys ≡ true
  shaped : is_some node.shape ≡ is_leafy node.sort
  shape : unless_none node.shape is_fit_shape ≡ true
  optional : is_leaf node.sort ≡ false → node.is_mandatory ≡ false
  unreferring : is_leaf node.sort ≡ false → node.reference ≡ None
  unlimited : may_have_maximum node.sort ≡ false → node.maximum ≡ None
  maximum : unless_none node.maximum is_fit_maximum ≡ true

abbrev IsFitModule : Option (List ℕ) → Type 0
IsFitModule name = IfSome name (λ name. is_name name ≡ true)

-- what the lines so far say
record HasFit (read : Read) : Type 0 where
  nodes : AllByRecursion IsFitNode read.nodes
  module_name : IsFitModule read.module_name
  lines : length read.lines ≡ length read.nodes

no_keys : 0 ≤ most_keys
no_keys = omega arith

fit_in : (name : List ℕ) (names : List (List ℕ)) (node : Declared) → is_name name ≡ true → AreFit is_name most_names names → IsFitDeclared node → IsFitNode (node_in name names node)
fit_in name names declared.Container module_is path_is node_is = record {
  few_names = path_is.few;
  names = path_is.each;
  module_name = module_is;
  keyless = λ is. refl;
  keyed = λ is. absurd (true≢false (sym is));
  few_keys = no_keys;
  keys_differ = refl;
  shaped = refl;
  shape = refl;
  optional = λ is. refl;
  unreferring = λ is. refl;
  unlimited = λ is. refl;
  maximum = refl;
}
fit_in name names (declared.List keys maximum) module_is path_is node_is = record {
  few_names = path_is.few;
  names = path_is.each;
  module_name = module_is;
  keyless = λ is. absurd (true≢false is);
  keyed = λ is. node_is.0.fit.some;
  few_keys = node_is.0.fit.few;
  keys_differ = node_is.0.differ;
  shaped = refl;
  shape = refl;
  optional = λ is. refl;
  unreferring = λ is. refl;
  unlimited = λ is. absurd (true≢false is);
  maximum = node_is.1;
}
fit_in name names (declared.Leaf shape is_mandatory reference) module_is path_is node_is = record {
  few_names = path_is.few;
  names = path_is.each;
  module_name = module_is;
  keyless = λ is. refl;
  keyed = λ is. absurd (true≢false (sym is));
  few_keys = no_keys;
  keys_differ = refl;
  shaped = refl;
  shape = node_is;
  optional = λ is. absurd (true≢false is);
  unreferring = λ is. absurd (true≢false is);
  unlimited = λ is. refl;
  maximum = refl;
}
fit_in name names (declared.LeafList shape maximum) module_is path_is node_is = record {
  few_names = path_is.few;
  names = path_is.each;
  module_name = module_is;
  keyless = λ is. refl;
  keyed = λ is. absurd (true≢false (sym is));
  few_keys = no_keys;
  keys_differ = refl;
  shaped = refl;
  shape = node_is.0;
  optional = λ is. refl;
  unreferring = λ is. refl;
  unlimited = λ is. absurd (true≢false is);
  maximum = node_is.1;
}

one_more : (nodes : List SchemaNode) (node : SchemaNode) → AllByRecursion IsFitNode nodes → IsFitNode node → AllByRecursion IsFitNode (nodes ++ node ∷ [])
one_more [] node all told = (told, tt)
one_more (first ∷ others) node all told = (all.0, one_more others node all.1 told)

fit_more : (number : ℕ) (read : Read) (name : List ℕ) (names : List (List ℕ)) (node : Declared) → HasFit read → read.module_name ≡ Some name → IsFitNode (node_in name names node) → HasFit (record read { nodes = read.nodes ++ node_in name names node ∷ []; lines = read.lines ++ number ∷ [] })
fit_more number read name names node before is told =
    record {
      nodes = one_more read.nodes (node_in name names node) before.nodes told;
      module_name = before.module_name;
      lines = (let a = length-append read.lines (number ∷ []) in let b = length-append read.nodes (node_in name names node ∷ []) in let c = before.lines in omega (arith, a, b, c));
    }

fit_there : (number : ℕ) (read : Read) (name : List ℕ) (names : List (List ℕ)) (node : Declared) (there twice : Bool) → HasFit (record read { nodes = read.nodes ++ node_in name names node ∷ []; lines = read.lines ++ number ∷ [] }) → Keeps HasFit (cond (not there) (Err NoParent) (cond twice (Err Twice) (Ok (record read { nodes = read.nodes ++ node_in name names node ∷ []; lines = read.lines ++ number ∷ [] }))))
fit_there number read name names node false twice told = tt
fit_there number read name names node true true told = tt
fit_there number read name names node true false told = told

fit_module : (number : ℕ) (read : Read) (names : List (List ℕ)) (node : Declared) (name : Option (List ℕ)) → read.module_name ≡ name → HasFit read → AreFit is_name most_names names → IsFitDeclared node → Keeps HasFit (in_module number read names node name)
fit_module number read names node None is before own told = tt
fit_module number read names node (Some name) is before own told =
    let module_told : is_name name ≡ true = subst IsFitModule is before.module_name in
    fit_there number read name names node (has_parent read.nodes names) (is_some (node_of read.nodes names)) (fit_more number read name names node before is (fit_in name names node module_told own told))

fit_line : (number : ℕ) (read : Read) (line : Option Line) → IsFitLine line → HasFit read → Keeps HasFit (with_line number read line)
fit_line number read None told before = tt
fit_line number read (Some Skipped) told before = before
fit_line number read (Some (Module name)) told before = record { nodes = before.nodes; module_name = told; lines = before.lines }
fit_line number read (Some (Node names node)) told before = kept_if HasFit (leb most_schema_nodes (length read.nodes)) TooLarge (in_module number read names node read.module_name) (fit_module number read names node read.module_name refl before told.0 told.1)

none_fit : HasFit nothing_read
none_fit = record { nodes = tt; module_name = tt; lines = refl }

-- ---- keys, once every line was taken

no_fault : (line : ℕ) (fault : Option Cause) (others : Option SchemaFault) → or_fault line fault others ≡ None → (fault ≡ None) × (others ≡ None)
no_fault line None others is = (refl, is)
no_fault line (Some cause) others is = absurd (cc)

both_hold : (keyed targeted : Bool) → cond (not keyed) (Some NoKey) (cond (not targeted) (Some BadRef) None) ≡ None → (keyed ≡ true) × (targeted ≡ true)
both_hold true true is = (refl, refl)
both_hold true false is = absurd (cc)
both_hold false targeted is = absurd (cc)

-- each node has its key leaves, and the leaf that it refers to
record IsSettled (all : List SchemaNode) (node : SchemaNode) : Type 0 where
  keys : list_all (has_key_leaf all node) node.keys ≡ true
  reference : has_target all node.shape node.reference ≡ true

settled_at : (all : List SchemaNode) (node : SchemaNode) → node_fault all node ≡ None → IsSettled all node
settled_at all node none =
    let both = both_hold (list_all (has_key_leaf all node) node.keys) (has_target all node.shape node.reference) none in
    record { keys = both.0; reference = both.1 }

all_settled : (all nodes : List SchemaNode) (lines : List ℕ) → length lines ≡ length nodes → first_fault all nodes lines ≡ None → AllByRecursion (IsSettled all) nodes
all_settled all [] lines long none = tt
all_settled all (node ∷ nodes) [] long none = absurd (omega arith)
all_settled all (node ∷ nodes) (line ∷ lines) long none =
    let both = no_fault line (node_fault all node) (first_fault all nodes lines) none in
    (settled_at all node both.0, all_settled all nodes lines (omega arith) both.1)

formed_at : (all : List SchemaNode) (node : SchemaNode) → IsFitNode node → IsSettled all node → IsWellFormedNode all node
formed_at all node fit settled = record {
  few_names = fit.few_names;
  names = fit.names;
  module_name = fit.module_name;
  keyless = fit.keyless;
  keyed = fit.keyed;
  few_keys = fit.few_keys;
  keys_differ = fit.keys_differ;
  key_leaves = settled.keys;
  shaped = fit.shaped;
  shape = fit.shape;
  optional = fit.optional;
  unreferring = fit.unreferring;
  reference = settled.reference;
  unlimited = fit.unlimited;
  maximum = fit.maximum;
}

formed_nodes : (all nodes : List SchemaNode) → AllByRecursion IsFitNode nodes → AllByRecursion (IsSettled all) nodes → AllByRecursion (IsWellFormedNode all) nodes
formed_nodes all [] fit settled = tt
formed_nodes all (node ∷ nodes) fit settled = (formed_at all node fit.0 settled.0, formed_nodes all nodes fit.1 settled.1)

-- ---- the whole text

abbrev NodesFormed : Result (List SchemaNode) SchemaFault → Type 0
NodesFormed (Ok nodes) = AllByRecursion (IsWellFormedNode nodes) nodes
NodesFormed (Err fault) = Unit {0}

settled : (read : Read) (fault : Option SchemaFault) → first_fault read.nodes read.nodes read.lines ≡ fault → HasFit read → NodesFormed (unless_fault read.nodes fault)
settled read None none told = formed_nodes read.nodes read.nodes told.nodes (all_settled read.nodes read.nodes read.lines told.lines none)
settled read (Some fault) is told = tt

whole : (read : Result Read SchemaFault) → Keeps HasFit read → NodesFormed (and_then read (λ read. unless_fault read.nodes (first_fault read.nodes read.nodes read.lines)))
whole (Ok read) told = settled read (first_fault read.nodes read.nodes read.lines) refl told
whole (Err fault) told = tt

pub well_formed : ReadSchemasAreWellFormed
well_formed text schema is =
    let lines = kept_parts HasFit (λ number read octets. fit_line number read (line_of octets) (line_fit octets)) 1 0 nothing_read (parts_of 10 text) none_fit in
    record { placed = all_placed text schema is; nodes = subst NodesFormed is (whole (read_parts 1 0 nothing_read (parts_of 10 text)) lines) }

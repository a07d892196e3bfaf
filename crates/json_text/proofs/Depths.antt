-- What is written nests no deeper than what is read.
use Rattle.std.proofs.Common.{◌≡◌, ℕ, zero, suc, ◌*◌, ◌≤◌, List, [], ◌∷◌, map, length, Bool, true, false, cond, Option, Some, None, Ok, Ordering, Less, Equal, Greater, ap, ◌∙◌, arith}
use Rattle.std.specs.Prelude.{fold, max}
use Rattle.std.specs.Ordering.{match_ordering, nat_cmp}
use Rattle.std.specs.Cmp.Lexicographic.{slice_cmp}
use Rattle.serde_json.specs.Data.{Data, number, array, object, Members, no_members, member, put, depth, items_depth, members_depth}
use Rattle.serde_json.specs.Read.{read, max_depth}
use Rattle.serde_json.specs.View.{items_of}
use Rattle.std.specs.Prelude.{IsUtf8}
use Rattle.std.proofs.lemmas.Str.{is_utf8-from_IsUtf8}
use Rattle.json_rows.specs.Rows.{data_of, rows_of_data, rows_of}
use Rattle.serde_json.specs.Find.{of_integer}
use Rattle.base_kinds.specs.declared.path.Elem.{Elem}
use Rattle.base_kinds.specs.declared.operation.Row.{Row}
use Rattle.base_kinds.specs.declared.schema.Shape.{Shape}
use Rattle.base_kinds.specs.declared.schema.Sort.{Sort}
use Rattle.base_kinds.specs.declared.schema.Sort.TheVariants as sorts
use Rattle.base_kinds.specs.declared.value.Value.{Value}
use Rattle.base_kinds.specs.declared.value.Value as v
use Rattle.base_kinds.specs.Schema.{SchemaNode, names_of, node_at}
use Rattle.base_kinds.specs.Values.{is_list, values_in}
use Rattle.json_text.specs.Leaves.{is_wide, scalar_data, leaf_data}
use Rattle.json_text.specs.Runs.{runs, share_name, share_entry}
use Rattle.json_text.specs.Trees.{member_name, value_data, node_data, child_of_rows, with_member, members_data, ends_plain, value_at_node, json_data}
use Rattle.base_kinds.specs.Limits.{most_elements}
use Rattle.json_text.specs.inner.Steps.{member_step}

either_deep : (n : ℕ) (b : Bool) (d e : Data) → depth d ≤ n → depth e ≤ n → depth (cond b d e) ≤ n
either_deep n true d e p q = p
either_deep n false d e p q = q

more_deep : (a b n : ℕ) → a ≤ n → b ≤ n → max a b ≤ n
more_deep a b n p q = omega arith

scalar_deep : (shape : Shape) (value : Value) → depth (scalar_data shape value) ≤ 0
scalar_deep shape (v.Bool b) = omega arith
scalar_deep shape (v.Int z) = either_deep 0 (is_wide shape) _ (number (of_integer z)) (omega arith) (omega arith)
scalar_deep shape (v.Uint n) = either_deep 0 (is_wide shape) _ _ (omega arith) (omega arith)
scalar_deep shape (v.Dec d p) = omega arith
scalar_deep shape (v.Text t) = omega arith
scalar_deep shape (v.Bin b) = omega arith
scalar_deep shape (v.Enum t) = omega arith
scalar_deep shape (v.List' n vs) = omega arith

scalars_deep : (shape : Shape) (xs : List Value) → items_depth (items_of (map (scalar_data shape) xs)) ≤ 0
scalars_deep shape [] = omega arith
scalars_deep shape (x ∷ xs) = more_deep _ _ 0 (scalar_deep shape x) (scalars_deep shape xs)

leaf_deep : (shape : Shape) (value : Value) → depth (leaf_data shape value) ≤ 1
leaf_deep shape value =
    let many = scalars_deep shape (values_in value) in
    let one = scalar_deep shape value in
    either_deep 1 (is_list value) (array (items_of (map (scalar_data shape) (values_in value)))) (scalar_data shape value) (omega (arith, many)) (omega (arith, one))

pub leaf_within : (shape : Shape) (value : Value) → depth (leaf_data shape value) ≤ max_depth
leaf_within shape value = let one = leaf_deep shape value in omega (arith, one)

put_at : (o : Ordering) (n : ℕ) (k l : List ℕ) (d e : Data) (ms : Members) → depth d ≤ n → depth e ≤ n → members_depth ms ≤ n → members_depth (put k d ms) ≤ n → members_depth (match_ordering o (member k d (member l e ms)) (member l d ms) (member l e (put k d ms))) ≤ n
put_at Less n k l d e ms p q r later = more_deep _ _ n p (more_deep _ _ n q r)
put_at Equal n k l d e ms p q r later = more_deep _ _ n p r
put_at Greater n k l d e ms p q r later = more_deep _ _ n q later

max_parts : (a b n : ℕ) → max a b ≤ n → (a ≤ n) × (b ≤ n)
max_parts a b n h = (omega arith, omega arith)

put_deep : (n : ℕ) (k : List ℕ) (d : Data) (ms : Members) → depth d ≤ n → members_depth ms ≤ n → members_depth (put k d ms) ≤ n
put_deep n k d no_members p q = more_deep _ _ n p q
put_deep n k d (member l e ms) p q =
    let parts = max_parts (depth e) (members_depth ms) n q in
    put_at (slice_cmp nat_cmp k l) n k l d e ms p parts.0 parts.1 (put_deep n k d ms p parts.1)

value_deep : (shape : Option Shape) (rows : List Row) → depth (value_data shape rows) ≤ 1
value_deep None rows = omega arith
value_deep (Some shape) [] = omega arith
value_deep (Some shape) (row ∷ rows) = leaf_deep shape row.value

abbrev DeepInside : ℕ → (List Row → Members) → Type 0
DeepInside n inside = (rows : List Row) → members_depth (inside rows) ≤ n

entries_deep : (n : ℕ) (inside : List Row → Members) → DeepInside n inside → (groups : List (List Row)) → items_depth (items_of (map (λ group. object (inside group)) groups)) ≤ suc n
entries_deep n inside p [] = omega arith
entries_deep n inside p (group ∷ groups) = let one = p group in more_deep (suc (members_depth (inside group))) _ (suc n) (omega (arith, one)) (entries_deep n inside p groups)

node_deep : (n : ℕ) (inside : List Row → Members) → DeepInside n inside → (sort : Sort) (shape : Option Shape) (at : ℕ) (rows : List Row) → depth (node_data inside sort shape at rows) ≤ suc (suc n)
node_deep n inside p sorts.Container shape at rows = let one = p rows in omega (arith, one)
node_deep n inside p sorts.List shape at rows = let all = entries_deep n inside p (runs (share_entry at) rows) in omega (arith, all)
node_deep n inside p sorts.Leaf shape at rows = let one = value_deep shape rows in omega (arith, one)
node_deep n inside p sorts.LeafList shape at rows = let one = value_deep shape rows in omega (arith, one)

with_deep : (n : ℕ) (inside : SchemaNode → List Row → Members) → ((node : SchemaNode) → DeepInside n (inside node)) → (above : Option (List ℕ)) (at : ℕ) (rows : List Row) (node : Option SchemaNode) (ms : Members) → members_depth ms ≤ suc (suc n) → members_depth (with_member inside above at rows node ms) ≤ suc (suc n)
with_deep n inside p above at rows None ms q = q
with_deep n inside p above at rows (Some node) ms q = put_deep (suc (suc n)) (member_name above node) _ ms (node_deep n (inside node) (p node) node.sort node.shape at rows) q

fold_deep : (n : ℕ) (step : Members → List Row → Members) → ((ms : Members) (run : List Row) → members_depth ms ≤ n → members_depth (step ms run) ≤ n) → (ms : Members) (groups : List (List Row)) → members_depth ms ≤ n → members_depth (fold step ms groups) ≤ n
fold_deep n step p ms [] q = q
fold_deep n step p ms (run ∷ groups) q = fold_deep n step p (step ms run) groups (p ms run q)

members_deep : (levels : ℕ) (schema : List SchemaNode) (above : Option (List ℕ)) (names : List (List ℕ)) (at : ℕ) → DeepInside (2 * levels) (members_data levels schema above names at)
unfolding members_data
members_deep zero schema above names at rows = omega arith
members_deep (suc levels) schema above names at rows =
    let inside = λ (node : SchemaNode). members_data levels schema (Some node.module_name) node.names (suc at) in
    let all = fold_deep (suc (suc (2 * levels))) (member_step levels schema above names at)
    (λ ms run q. with_deep (2 * levels) inside (λ node. members_deep levels schema (Some node.module_name) node.names (suc at)) above at run (child_of_rows schema names at run) ms q)
    no_members (runs (share_name at) rows) (omega arith) in
    omega (arith, all)

at_node_deep : (n : ℕ) (inside : List Row → Members) → DeepInside n inside → (node : Option SchemaNode) (path : List Elem) (rows : List Row) → depth (value_at_node inside node path rows) ≤ suc (suc n)
at_node_deep n inside p None path rows = omega arith
at_node_deep n inside p (Some node) path rows = let one = p rows in either_deep (suc (suc n)) (ends_plain path) _ (object (inside rows)) (node_deep n inside p node.sort node.shape _ rows) (omega (arith, one))

pub json_deep : (schema : List SchemaNode) (path : List Elem) (rows : List Row) → depth (json_data schema path rows) ≤ max_depth
json_deep schema [] rows = let all = members_deep most_elements schema None [] 0 rows in omega (arith, all)
json_deep schema (elem ∷ elems) rows =
    let all = at_node_deep (2 * most_elements) _ (members_deep most_elements schema None (names_of (elem ∷ elems)) (length (elem ∷ elems))) (node_at schema (elem ∷ elems)) (elem ∷ elems) rows in
    omega (arith, all)

-- UTF-8 that is read is the data of the text
pub data_read : (text : List ℕ) (json : Data) → IsUtf8 text → read text ≡ Some json → data_of text ≡ Some json
data_read text json utf8 is = ap (λ t. cond t (read text) None) (is_utf8-from_IsUtf8 text utf8) ∙ is

-- and then the text means what its data means
pub text_back : (schema : List SchemaNode) (path : List Elem) (rows : List Row) (text : List ℕ) (json : Data) → data_of text ≡ Some json → rows_of_data schema path (Some json) ≡ Ok rows → rows_of schema path text ≡ Ok rows
text_back schema path rows text json is means = ap (λ (found : Option Data). rows_of_data schema path found) is ∙ means

-- What is written has no float.
use Rattle.std.proofs.Common.{◌≡◌, ℕ, zero, suc, List, [], ◌∷◌, map, length, Bool, true, false, cond, ◌||◌, true≢false, Option, Some, None, refl}
use Rattle.std.specs.Prelude.{ℤ, pos, negsuc, fold}
use Rattle.std.specs.declared.cmp.Ordering.{Ordering}
use Rattle.std.specs.declared.cmp.Ordering.TheVariants.{Less, Equal, Greater}
use Rattle.std.specs.Ordering.{match_ordering, nat_cmp}
use Rattle.std.specs.Cmp.Lexicographic.{slice_cmp}
use Rattle.serde_json.specs.Data.{Data, number, object, Members, no_members, member, put}
use Rattle.serde_json.specs.View.{items_of}
use Rattle.serde_json.specs.Find.{of_integer}
use Rattle.serde_json.specs.Written.{has_float, items_have_float, members_have_float}
use Rattle.base_kinds.specs.declared.path.Elem.{Elem}
use Rattle.base_kinds.specs.declared.operation.Row.{Row}
use Rattle.base_kinds.specs.declared.schema.Shape.{Shape}
use Rattle.base_kinds.specs.declared.schema.Sort.{Sort}
use Rattle.base_kinds.specs.declared.schema.Sort.TheVariants as sorts
use Rattle.base_kinds.specs.declared.value.Value.{Value}
use Rattle.base_kinds.specs.declared.value.Value as v
use Rattle.base_kinds.specs.Schema.{SchemaNode, names_of, node_at}
use Rattle.base_kinds.specs.Values.{is_list, values_in}
use Rattle.json_text.specs.Leaves.{is_wide, scalar_data, leaf_data}
use Rattle.json_text.specs.Runs.{runs, share_name, share_entry}
use Rattle.json_text.specs.Trees.{member_name, value_data, node_data, child_of_rows, with_member, members_data, ends_plain, value_at_node, json_data}
use Rattle.base_kinds.specs.Limits.{most_elements}
use Rattle.json_text.specs.inner.Steps.{member_step}

pub either_plain : (b : Bool) (d e : Data) → has_float d ≡ false → has_float e ≡ false → has_float (cond b d e) ≡ false
either_plain true d e p q = p
either_plain false d e p q = q

integer_plain : (z : ℤ) → has_float (number (of_integer z)) ≡ false
integer_plain (pos n) = refl
integer_plain (negsuc n) = refl

pub scalar_plain : (shape : Shape) (value : Value) → has_float (scalar_data shape value) ≡ false
scalar_plain shape (v.Bool b) = refl
scalar_plain shape (v.Int z) = either_plain (is_wide shape) _ (number (of_integer z)) refl (integer_plain z)
scalar_plain shape (v.Uint n) = either_plain (is_wide shape) _ _ refl refl
scalar_plain shape (v.Dec d p) = refl
scalar_plain shape (v.Text t) = refl
scalar_plain shape (v.Bin b) = refl
scalar_plain shape (v.Enum t) = refl
scalar_plain shape (v.List' n vs) = refl

scalars_plain : (shape : Shape) (vs : List Value) → items_have_float (items_of (map (scalar_data shape) vs)) ≡ false
scalars_plain shape [] = refl
scalars_plain shape (x ∷ xs) = rw (scalar_plain shape x, scalars_plain shape xs) refl

pub leaf_plain : (shape : Shape) (value : Value) → has_float (leaf_data shape value) ≡ false
leaf_plain shape value = either_plain (is_list value) _ _ (scalars_plain shape (values_in value)) (scalar_plain shape value)

pub ruleset leaf_has_no_float = (leaf_plain)

put_at : (o : Ordering) (k l : List ℕ) (d e : Data) (ms : Members) → has_float d ≡ false → has_float e ≡ false → members_have_float ms ≡ false → members_have_float (put k d ms) ≡ false → members_have_float (match_ordering o (member k d (member l e ms)) (member l d ms) (member l e (put k d ms))) ≡ false
put_at Less k l d e ms p q r later = rw (p, q, r) refl
put_at Equal k l d e ms p q r later = rw (p, r) refl
put_at Greater k l d e ms p q r later = rw (q, later) refl

either_false : (a b : Bool) → (a || b) ≡ false → (a ≡ false) × (b ≡ false)
either_false true b e = absurd (true≢false e)
either_false false b e = (refl, e)

put_plain : (k : List ℕ) (d : Data) (ms : Members) → has_float d ≡ false → members_have_float ms ≡ false → members_have_float (put k d ms) ≡ false
put_plain k d no_members p q = rw p refl
put_plain k d (member l e ms) p q =
    let parts = either_false (has_float e) (members_have_float ms) q in
    put_at (slice_cmp nat_cmp k l) k l d e ms p parts.0 parts.1 (put_plain k d ms p parts.1)

value_plain : (shape : Option Shape) (rows : List Row) → has_float (value_data shape rows) ≡ false
value_plain None rows = refl
value_plain (Some shape) [] = refl
value_plain (Some shape) (row ∷ rows) = leaf_plain shape row.value

abbrev PlainInside : (List Row → Members) → Type 0
PlainInside inside = (rows : List Row) → members_have_float (inside rows) ≡ false

entries_plain : (inside : List Row → Members) → PlainInside inside → (groups : List (List Row)) → items_have_float (items_of (map (λ group. object (inside group)) groups)) ≡ false
entries_plain inside p [] = refl
entries_plain inside p (group ∷ groups) = rw (p group, entries_plain inside p groups) refl

node_plain : (inside : List Row → Members) → PlainInside inside → (sort : Sort) (shape : Option Shape) (depth : ℕ) (rows : List Row) → has_float (node_data inside sort shape depth rows) ≡ false
node_plain inside p sorts.Container shape depth rows = p rows
node_plain inside p sorts.List shape depth rows = entries_plain inside p (runs (share_entry depth) rows)
node_plain inside p sorts.Leaf shape depth rows = value_plain shape rows
node_plain inside p sorts.LeafList shape depth rows = value_plain shape rows

with_plain : (inside : SchemaNode → List Row → Members) → ((node : SchemaNode) → PlainInside (inside node)) → (above : Option (List ℕ)) (depth : ℕ) (rows : List Row) (node : Option SchemaNode) (ms : Members) → members_have_float ms ≡ false → members_have_float (with_member inside above depth rows node ms) ≡ false
with_plain inside p above depth rows None ms q = q
with_plain inside p above depth rows (Some node) ms q = put_plain (member_name above node) _ ms (node_plain (inside node) (p node) node.sort node.shape depth rows) q

fold_plain : (step : Members → List Row → Members) → ((ms : Members) (run : List Row) → members_have_float ms ≡ false → members_have_float (step ms run) ≡ false) → (ms : Members) (groups : List (List Row)) → members_have_float ms ≡ false → members_have_float (fold step ms groups) ≡ false
fold_plain step p ms [] q = q
fold_plain step p ms (run ∷ groups) q = fold_plain step p (step ms run) groups (p ms run q)

members_plain : (levels : ℕ) (schema : List SchemaNode) (above : Option (List ℕ)) (names : List (List ℕ)) (depth : ℕ) → PlainInside (members_data levels schema above names depth)
unfolding members_data
members_plain zero schema above names depth rows = refl
members_plain (suc levels) schema above names depth rows =
    let inside = λ (node : SchemaNode). members_data levels schema (Some node.module_name) node.names (suc depth) in
    fold_plain (member_step levels schema above names depth)
    (λ ms run q. with_plain inside (λ node. members_plain levels schema (Some node.module_name) node.names (suc depth)) above depth run (child_of_rows schema names depth run) ms q)
    no_members (runs (share_name depth) rows) refl

at_node_plain : (inside : List Row → Members) → PlainInside inside → (node : Option SchemaNode) (path : List Elem) (rows : List Row) → has_float (value_at_node inside node path rows) ≡ false
at_node_plain inside p None path rows = refl
at_node_plain inside p (Some node) path rows = either_plain (ends_plain path) _ (object (inside rows)) (node_plain inside p node.sort node.shape _ rows) (p rows)

pub json_plain : (schema : List SchemaNode) (path : List Elem) (rows : List Row) → has_float (json_data schema path rows) ≡ false
json_plain schema [] rows = members_plain most_elements schema None [] 0 rows
json_plain schema (elem ∷ elems) rows =
    at_node_plain _ (members_plain most_elements schema None (names_of (elem ∷ elems)) (length (elem ∷ elems))) (node_at schema (elem ∷ elems)) (elem ∷ elems) rows

pub ruleset tree_has_no_float = (json_plain)

-- The members of an object, run by run.
use Rattle.std.proofs.Common.{◌≡◌, ℕ, zero, suc, ◌-◌, ◌<◌, List, [], ◌∷◌, length, ◌==◌, true, false, true≢false, map, Option, Some, refl, sym, ap, ◌∙◌, arith}
use Rattle.std.proofs.lemmas.Bool.Decides.{nat_tests}
use Rattle.std.specs.Prelude.{fold, slice_get, unwrap_or}
use Rattle.std.specs.Option.{option_map}
use Rattle.serde_json.specs.Data.{array, object, Members, no_members}
use Rattle.serde_json.specs.View.{items_of}
use Rattle.base_kinds.specs.Schema.{SchemaNode}
use Rattle.base_kinds.specs.declared.operation.Row.{Row}
use Rattle.base_kinds.specs.declared.schema.Sort.{Sort}
use Rattle.base_kinds.specs.declared.schema.Sort.TheVariants as sorts
use Rattle.schema_core.specs.Nodes.{names_at}
use Rattle.json_text.specs.Runs.{runs, share_name, share_entry}
use Rattle.json_text.specs.Trees.{members_data, node_data}
use Rattle.json_text.specs.inner.Steps.{member_step}

pub members_none : (levels : ℕ) (schema : List SchemaNode) (above : Option (List ℕ)) (names : List (List ℕ)) (depth : ℕ) (rows : List Row) → levels ≡ 0 → members_data levels schema above names depth rows ≡ no_members
unfolding members_data
members_none levels schema above names depth rows none = rw none refl

pub members_step : (levels : ℕ) (schema : List SchemaNode) (above : Option (List ℕ)) (names : List (List ℕ)) (depth : ℕ) (rows : List Row) → 0 < levels → members_data levels schema above names depth rows ≡ fold (member_step (levels - 1) schema above names depth) no_members (runs (share_name depth) rows)
unfolding members_data
members_step zero schema above names depth rows some = absurd (omega arith)
members_step (suc levels) schema above names depth rows some =
    let e : suc levels - 1 ≡ levels = omega arith in
    rw e refl

-- where no rows are left, the members so far are all
pub members_done : (levels : ℕ) (schema : List SchemaNode) (above : Option (List ℕ)) (names : List (List ℕ)) (depth : ℕ) (rest rows : List Row) (members : Members) → 0 < levels → true ≡ (length rest == 0)
    → fold (member_step (levels - 1) schema above names depth) members (runs (share_name depth) rest) ≡ fold (member_step (levels - 1) schema above names depth) no_members (runs (share_name depth) rows)
    → members ≡ members_data levels schema above names depth rows
members_done levels schema above names depth [] rows ms some none is = is ∙ sym (members_step levels schema above names depth rows some)
members_done levels schema above names depth (row ∷ rest) rows ms some none is = let some_left : (length (row ∷ rest) == 0) ≡ false = grind (arith, nat_tests) in absurd (true≢false (none ∙ some_left))

-- the value of a list, where its entries are written below the names of the node with this number
pub list_data : (levels : ℕ) (schema : List SchemaNode) (above : Option (List ℕ)) (node : SchemaNode) (id depth : ℕ) (rows : List Row) → slice_get schema id ≡ Some node → node.sort ≡ sorts.List
    → node_data (members_data levels schema above node.names (suc depth)) node.sort node.shape depth rows ≡ array (items_of (map (λ (entry : List Row). object (members_data levels schema above (names_at schema id) (suc depth) entry)) (runs (share_entry depth) rows)))
list_data levels schema above node id depth rows at is =
    let names_are : names_at schema id ≡ node.names = ap (λ (found : Option SchemaNode). unwrap_or (option_map (λ (n : SchemaNode). n.names) found) []) at in
    ap (λ (sort : Sort). node_data (members_data levels schema above node.names (suc depth)) sort node.shape depth rows) is
    ∙ ap (λ (names : List (List ℕ)). array (items_of (map (λ (entry : List Row). object (members_data levels schema above names (suc depth) entry)) (runs (share_entry depth) rows)))) (sym names_are)

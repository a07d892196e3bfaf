use Rattle.std.proofs.Common.{◌≡◌, List, sym, ap, ◌∙◌, arith}
use Rattle.std.specs.Option.{option_copied}
use Rattle.serde_json.specs.Data.{Data, array}
use Rattle.serde_json.specs.View.{items_of, members_view}
use Rattle.serde_json.proofs.Views.{view-Array}
use Rattle.schema_core.specs.Nodes.{names_above}
use Rattle.base_kinds.specs.declared.schema.Sort.TheVariants as sorts
use Rattle.json_text.proofs.Members.{members_none, members_done, list_data}
use Rattle.json_text.proofs.trees.+object.Goals as goal

pub members_json-returns-then-levels-eq0 : goal.members_json-returns-then-levels-eq0
members_json-returns-then-levels-eq0 t c =
    ap members_view c.new-members.ensures.empty
    ∙ sym (members_none c.args.levels c.args.schema.now (option_copied c.args.above) (names_above c.args.schema.now c.args.parent) c.args.depth c.args.rows.now c.if-levels-eq0.true)

pub members_json-returns : goal.members_json-returns
members_json-returns t c =
    members_done c.args.levels c.args.schema.now (option_copied c.args.above) (names_above c.args.schema.now c.args.parent) c.args.depth c.loop-rest.rest.now c.args.rows.now _ (omega arith) c.loop-rest-test.ensures c.loop-rest.invariant

pub node_json-returns-in_ok-entries_json-in-List : goal.node_json-returns-in_ok-entries_json-in-List
node_json-returns-in_ok-entries_json-in-List t c =
    λ node at.
    let same : c.node-node.result.now ≡ node = let e = c.node-node.ensures in cc in
    let sort_is : node.sort ≡ sorts.List = let e = c.sort.ensures in let f = c.in-List.is in cc in
    view-Array c.in_ok-entries_json-in-List.field-0 ∙ ap (λ (ds : List Data). array (items_of ds)) c.in_ok-entries_json-in-List.ensures
    ∙ sym (list_data c.args.levels c.args.schema.now (option_copied c.args.above) node c.args.id.0 c.args.depth c.args.rows.now at sort_is)

use Rattle.std.proofs.Common.{◌≡◌, IfOk, List, Option, ap, sym, ◌∙◌, subst}
use Rattle.base_kinds.specs.declared.operation.Row.{Row}
use Rattle.set_request.specs.ValueRows.{rows_of_leaf_list}
use Rattle.set_request.proofs.Lists.{rows_of_distinct, list_given}
use Rattle.set_request.proofs.value_rows.rows_of_leaf_list.Goals as goal

pub returns-in-List : goal.returns-in-List
returns-in-List c =
    let shape = c.args.shape.now in
    let path = c.args.path.now in
    let same : rows_of_distinct shape path c.items.result.now ≡ rows_of_leaf_list shape path c.args.value.now =
    ap (rows_of_distinct shape path) c.items.ensures ∙ sym (list_given shape path c.in-List.values) ∙ ap (rows_of_leaf_list shape path) (sym c.in-List.is) in
    subst (λ (found : Option (List Row)). IfOk c.rows_of_distinct.result (λ rows. rows ≡ found)) same c.rows_of_distinct.ensures

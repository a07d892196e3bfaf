use Rattle.std.proofs.Common.{rules}
use Rattle.std.proofs.lemmas.List.Sorted.{ranks_by, answers_always}
use Rattle.base_kinds.specs.declared.operation.Row.{Row}
use Rattle.history_laws.proofs.PathOrder.{path_total}
use Rattle.json_rows.proofs.path_order.sorted_rows.Goals as goal

pub returns-clause-sorted : goal.returns-clause-sorted
returns-clause-sorted c =
    let ranks = ranks_by path_total (λ (row : Row). row.path) in
    rw c.from_vec.ensures (c.in_ok-sort_by.ensures.sorted _ ranks (answers_always _ _ _ (λ f a r f' k. search rules)))

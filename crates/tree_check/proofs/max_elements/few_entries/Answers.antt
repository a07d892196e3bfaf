use Rattle.std.proofs.Common.{◌≡◌, ◌+◌, ◌<◌, ◌∷◌, Some, drop, ap, sym, ◌∙◌, arith}
use Rattle.std.proofs.lemmas.List.{drop_more}
use Rattle.tree_check.specs.inner.ListEntries.{entry_of, count_after}
use Rattle.tree_check.proofs.Runs.{too_many, few_enough}
use Rattle.tree_check.proofs.max_elements.few_entries.Goals as goal

pub returns-then-count-from : goal.returns-then-count-from
returns-then-count-from c =
    let row = c.row-item.result in
    let i = c.loop-row.row-index in
    let rows = c.args.rows.now in
    let here : drop i rows ≡ row ∷ drop (i + 1) rows = drop_more rows i row (omega arith) ∙ ap (λ r. r ∷ drop (i + 1) rows) (sym c.row-item.is) in
    let is : entry_of c.args.names.now row.path ≡ Some c.in-Some.entry.now = ap (entry_of c.args.names.now) (sym c.items.ensures) ∙ sym (c.in-Some.ensures {u = tt}) in
    let more : c.args.most < count_after c.loop-row.last.now c.loop-row.count c.in-Some.entry.now = omega (arith, c.count_after-count.ensures) in
    too_many _ _ _ _ _ _ row c.in-Some.entry.now c.requires c.loop-row.invariant.1 here is more

pub returns : goal.returns
returns c = few_enough _ _ _ _ _ c.loop-row.row-index c.requires c.loop-row.invariant.1 (omega arith)

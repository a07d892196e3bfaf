use Rattle.std.proofs.Common.{◌≡◌, ◌+◌, drop, sym, ap, ◌∙◌, arith}
use Rattle.std.specs.Option.{option_copied}
use Rattle.std.proofs.lemmas.List.{drop_more}
use Rattle.serde_json.specs.Data.{item}
use Rattle.serde_json.specs.View.{view, items_view}
use Rattle.json_rows.proofs.ValuesRead.{behind, one_read}
use Rattle.json_rows.proofs.leaf_rows.put_values.Goals as goal

pub loop-item-preserved : goal.loop-item-preserved
loop-item-preserved c =
    let shape = option_copied c.args.shape in
    let items = c.deref-item-items.result.now in
    let at = c.loop-item.item-index in
    let json = c.item-item.result in
    let rest = items_view (drop (at + 1) items) in
    let here : items_view (drop at items) ≡ item (view json) rest =
    ap items_view (drop_more items at json (omega arith)) ∙ ap (λ first. item (view first) rest) (sym c.item-item.is) in
    ap (λ done. behind shape done rest) c.in_ok-push.ensures.ok
    ∙ one_read shape c.loop-item.done (view json) c.in-Some.value rest (sym c.in_ok-value.ensures.ok ∙ c.in-Some.is)
    ∙ ap (behind shape c.loop-item.done) (sym here)
    ∙ c.loop-item.invariant

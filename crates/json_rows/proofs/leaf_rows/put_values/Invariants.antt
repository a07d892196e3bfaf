use Rattle.std.proofs.Common.{◌≡◌, [], drop, cond, None}
use Rattle.std.specs.Option.{option_copied}
use Rattle.serde_json.specs.View.{items_view}
use Rattle.base_kinds.specs.Values.{all_differ}
use Rattle.json_rows.specs.Leaves.{values_from}
use Rattle.json_rows.proofs.leaf_rows.put_values.Given as goal

-- what the other items give after the values so far, where these differ, is what all of them give
abbrev pub invariant-loop-item : goal.invariant-loop-item
invariant-loop-item l = cond (all_differ l.done) (values_from (option_copied l.shape) l.done (items_view (drop l.item-index l.item-items))) None ≡ values_from (option_copied l.shape) [] (items_view l.item-items)

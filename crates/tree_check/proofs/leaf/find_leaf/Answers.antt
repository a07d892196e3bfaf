use Rattle.std.proofs.Common.{rules, ◌≡◌}
use Rattle.std.proofs.lemmas.Fn.{always_returns_same}
use Rattle.base_kinds.specs.Paths.{path_cmp}
use Rattle.base_kinds.specs.Ancestors.{child}
use Rattle.tree_check.proofs.Leaves.{found_there, found_nowhere_else}
use Rattle.tree_check.proofs.leaf.find_leaf.Goals as goal

pub returns-in-Ok : goal.returns-in-Ok
returns-in-Ok c =
    let target = child c.args.instance.now c.args.name.now in
    let position = c.in-Ok.ensures.position (λ row. path_cmp row.path target) (always_returns_same _ (λ a r. r ≡ path_cmp a.0.now.path target) _ (λ a r f' called. search rules)) in
    found_there c.args.rows.now target c.requires c.in-Ok.place c.index-rows-place.result c.in-Ok.ensures.bound c.index-rows-place.is (position c.index-rows-place.result)

pub returns-in-Err : goal.returns-in-Err
returns-in-Err c =
    let target = child c.args.instance.now c.args.name.now in
    let position = c.in-Err.ensures.position (λ row. path_cmp row.path target) (always_returns_same _ (λ a r. r ≡ path_cmp a.0.now.path target) _ (λ a r f' called. search rules)) in
    found_nowhere_else c.args.rows.now target c.requires c.in-Err.field-0 position

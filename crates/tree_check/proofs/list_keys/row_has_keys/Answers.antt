use Rattle.std.proofs.Common.{◌≡◌, Bool, List, IfOk, ap, ◌∙◌, subst}
use Rattle.std.specs.List.{list_all}
use Rattle.base_kinds.specs.declared.path.Elem.{Elem}
use Rattle.base_kinds.specs.Valid.{has_key_leaf}
use Rattle.base_kinds.specs.Ancestors.{path_steps}
use Rattle.tree_check.proofs.RowFronts.{steps_seen}
use Rattle.tree_check.proofs.list_keys.row_has_keys.Goals as goal

pub returns : goal.returns
returns c =
    let whole = steps_seen c.args.rows.now c.args.last.now c.items-path.result.now c.shared_prefix_len.result c.requires.passed c.shared_prefix_len.ensures.same in
    let keyed : List Elem → Bool = λ path. list_all (λ step. list_all (has_key_leaf c.args.rows.now step.0) step.1.keys) (path_steps path) in
    let P : Bool → Type 0 = λ b. IfOk c.steps_have_keys.result (λ is. is ≡ b) in
    subst P (whole ∙ ap keyed c.items-path.ensures) c.steps_have_keys.ensures

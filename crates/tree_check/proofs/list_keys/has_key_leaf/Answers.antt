use Rattle.std.proofs.Common.{◌≡◌, Bool, IfOk, sym, ap, ◌∙◌, subst}
use Rattle.std.specs.Str.{bytes_eq}
use Rattle.base_kinds.specs.Keys.{key_text}
use Rattle.tree_check.proofs.Leaves.{key_leaf_there, key_leaf_nowhere}
use Rattle.tree_check.proofs.list_keys.has_key_leaf.Goals as goal

pub returns-in-None : goal.returns-in-None
returns-in-None c = key_leaf_nowhere c.args.rows.now c.args.instance.now c.args.key.now c.octets.result.now c.octets.ensures.value c.in-None.ensures

pub returns-in-Some : goal.returns-in-Some
returns-in-Some c =
    let row = c.in-Some.row.now in
    let there = key_leaf_there c.args.rows.now c.args.instance.now c.args.key.now c.octets.result.now row c.requires c.octets.ensures.value c.in-Some.ensures in
    let text = ap (bytes_eq (key_text row.value)) c.octets-in-Some.ensures.value in
    let P : Bool → Type 0 = λ b. IfOk c.has_key_text.result (λ is. is ≡ b) in
    subst P (text ∙ sym there) c.has_key_text.ensures

use Rattle.std.proofs.Common.{◌≡◌, not, rules}
use Rattle.std.proofs.lemmas.Fn.{filter_same}
use Rattle.base_kinds.specs.declared.operation.Row.{Row}
use Rattle.base_kinds.specs.Match.{covers}
use Rattle.base_kinds.specs.Tree.{uncovered}
use Rattle.history_laws.proofs.Setting.{rising_uncovered}
use Rattle.plain_tree.proofs.rows.remove_covered.Goals as goal

pub returns : goal.returns
returns c =
    let pattern = c.args.pattern.now in
    let kept : c.retain.new.self.items ≡ uncovered pattern c.args.tree.now.items = filter_same _ (λ (row : Row). not (covers pattern row.path)) _ (λ row b f k. search rules) _ _ c.retain.ensures.filtered in
    record { rows = kept; rising = rw kept (rising_uncovered pattern c.args.tree.now.items c.requires) }

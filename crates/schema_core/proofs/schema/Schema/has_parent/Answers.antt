use Rattle.std.proofs.Common.{◌≡◌, ◌==◌, ◌||◌, length, arith, false, ap, sym, ◌∙◌}
use Rattle.base_kinds.specs.Schema.{node_of}
use Rattle.base_kinds.specs.Valid.{if_some}
use Rattle.schema_core.specs.Nodes.{is_inner}
use Rattle.schema_core.proofs.NodeLemmas.{parent_of_last}
use Rattle.schema_core.proofs.schema.Schema.has_parent.Goals as goal

pub returns-else-is_empty : goal.returns-else-is_empty
returns-else-is_empty c =
    let filled : (length c.in-Some.front.now == 0) ≡ false = grind arith in
    let others = parent_of_last c.args.self.now c.args.names.now c.in-Some.front.now c.in-Some.field-0-0.now c.in-Some.ensures.cases.0 in
    c.is_inner.ensures ∙ sym (others ∙ ap (λ none. none || if_some (node_of c.args.self.now c.in-Some.front.now) (λ node. is_inner node.sort)) filled)

use Rattle.std.proofs.Common.{◌∙◌, arith}
use Rattle.stream_worker.proofs.Fronts.{all_dropped}
use Rattle.stream_worker.proofs.waiting.Waiting.is_empty.Goals as goal

pub returns-clause-some : goal.returns-clause-some
returns-clause-some c = λ differ none.
    let all = all_dropped c.self.inside.said c.self.inside.messages c.self.invariant (c.self.view_is ∙ none) in
    grind (arith, all, differ, c.len.ensures)

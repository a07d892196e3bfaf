use Rattle.std.proofs.Common.{sym, ◌∙◌, arith}
use Rattle.stream_worker.proofs.Fronts.{first_left}
use Rattle.stream_worker.proofs.waiting.Waiting.take_first.Goals as goal

pub returns-then-self-len : goal.returns-then-self-len
returns-then-self-len c =
    let left = first_left c.self.inside.said c.self.inside.messages (omega (arith, c.if-self-len.true, c.len.ensures)) in
    (left.0, sym c.self.view_is ∙ left.1)

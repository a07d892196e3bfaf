use Rattle.std.proofs.Common.{◌∙◌, sym}
use Rattle.h2_responses.proofs.FrameLemmas.{outside}
use Rattle.h2_responses.proofs.server.Server.next.Goals as goal

pub returns-in_default : goal.returns-in_default
returns-in_default c = outside c.args.self.now _ _ _ (sym c.take.ensures.value ∙ c.in_default.is) (rw c.take.ensures.after at c.outside_block.ensures)

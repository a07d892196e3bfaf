use Rattle.h2_responses.proofs.FrameLemmas.{meant_ok, meant_fault}
use Rattle.h2_responses.proofs.server.Server.frame.Goals as goal

pub returns-clause-goes_on : goal.returns-clause-goes_on
returns-clause-goes_on c = meant_ok _ c.args.self.now c.any.result c.any.new.self c.any.ensures

pub returns-clause-fault : goal.returns-clause-fault
returns-clause-fault c = λ code e. meant_fault _ c.args.self.now code c.any.new.self (rw e at c.any.ensures)

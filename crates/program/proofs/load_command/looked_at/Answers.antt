use Rattle.program.proofs.Loads.{memory_of}
use Rattle.program.proofs.load_command.looked_at.Goals as goal

pub returns-clause-memory : goal.returns-clause-memory
returns-clause-memory c = memory_of c.args.disk c.len-length.ensures.image

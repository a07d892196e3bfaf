use Rattle.h2_frame.proofs.Runs.{written_to_an_end, written_to_a_part}
use Rattle.h2_frame.proofs.laws.written_run.Goals as goal

pub returns-clause-to_an_end : goal.returns-clause-to_an_end
returns-clause-to_an_end c = written_to_an_end

pub returns-clause-to_a_part : goal.returns-clause-to_a_part
returns-clause-to_a_part c = written_to_a_part

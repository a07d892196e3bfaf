use Rattle.h2_frame.proofs.Runs.{all_end}
use Rattle.h2_frame.proofs.laws.every_run_ends.Goals as goal

pub returns : goal.returns
returns c = all_end

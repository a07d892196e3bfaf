use Rattle.h2_windows.proofs.Counted.{connection_kept}
use Rattle.h2_windows.proofs.laws.within_the_connection.Goals as goal

pub returns : goal.returns
returns c initial window streams = connection_kept initial window streams

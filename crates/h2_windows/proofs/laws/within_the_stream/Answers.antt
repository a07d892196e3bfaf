use Rattle.h2_windows.proofs.StreamWindows.{stream_kept, others_sent}
use Rattle.h2_windows.proofs.laws.within_the_stream.Goals as goal

pub returns-clause-own : goal.returns-clause-own
returns-clause-own c initial window before s after first second = stream_kept initial window before s after first second

pub returns-clause-others : goal.returns-clause-others
returns-clause-others c initial id window own streams differ = others_sent initial id window own streams differ

use Rattle.h2_windows.proofs.Paced.{sent_paced}
use Rattle.h2_windows.proofs.laws.paced_after_sending.Goals as goal

pub returns : goal.returns
returns c initial window streams = sent_paced initial window streams

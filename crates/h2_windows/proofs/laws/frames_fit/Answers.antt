use Rattle.h2_windows.proofs.Fitting.{sent_fit}
use Rattle.h2_windows.proofs.laws.frames_fit.Goals as goal

pub returns : goal.returns
returns c initial window streams small = sent_fit initial window streams small

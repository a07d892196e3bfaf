use Rattle.h2_send.proofs.Fitting.{inputs_fit}
use Rattle.h2_send.proofs.laws.frames_of_inputs_fit.Goals as goal

pub returns : goal.returns
returns c inputs sound = inputs_fit inputs sound

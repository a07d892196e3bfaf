use Rattle.h2_windows.proofs.Paced.{sent_paced}
use Rattle.h2_send.specs.Acting.{taken_in}
use Rattle.h2_send.proofs.laws.paced_after_each_input.Goals as goal

pub returns : goal.returns
returns c input line = sent_paced (taken_in input line).initial (taken_in input line).window (taken_in input line).streams

use Rattle.std.proofs.Common.{refl}
use Rattle.h2_streams.proofs.worked.worked_window_frames.Goals as goal

pub returns-clause-window_short : goal.returns-clause-window_short
returns-clause-window_short c = refl

pub returns-clause-window_idle : goal.returns-clause-window_idle
returns-clause-window_idle c = refl

pub returns-clause-window_zero : goal.returns-clause-window_zero
returns-clause-window_zero c = refl

pub returns-clause-window_zero_open : goal.returns-clause-window_zero_open
returns-clause-window_zero_open c = refl

pub returns-clause-window_zero_closed : goal.returns-clause-window_zero_closed
returns-clause-window_zero_closed c = refl

pub returns-clause-window_all : goal.returns-clause-window_all
returns-clause-window_all c = refl

pub returns-clause-window_open : goal.returns-clause-window_open
returns-clause-window_open c = refl

pub returns-clause-window_half : goal.returns-clause-window_half
returns-clause-window_half c = refl

pub returns-clause-window_ended : goal.returns-clause-window_ended
returns-clause-window_ended c = refl

pub returns-clause-window_closed : goal.returns-clause-window_closed
returns-clause-window_closed c = refl

pub returns-clause-window_on_even : goal.returns-clause-window_on_even
returns-clause-window_on_even c = refl

use Rattle.std.proofs.Common.{refl}
use Rattle.h2_streams.proofs.worked.worked_data_frames.Goals as goal

pub returns-clause-data_on_0 : goal.returns-clause-data_on_0
returns-clause-data_on_0 c = refl

pub returns-clause-data_on_even : goal.returns-clause-data_on_even
returns-clause-data_on_even c = refl

pub returns-clause-data_on_idle : goal.returns-clause-data_on_idle
returns-clause-data_on_idle c = refl

pub returns-clause-data_no_padding : goal.returns-clause-data_no_padding
returns-clause-data_no_padding c = refl

pub returns-clause-data_long_padding : goal.returns-clause-data_long_padding
returns-clause-data_long_padding c = refl

pub returns-clause-data_all_padding : goal.returns-clause-data_all_padding
returns-clause-data_all_padding c = refl

pub returns-clause-data_closed : goal.returns-clause-data_closed
returns-clause-data_closed c = refl

pub returns-clause-data_skipped : goal.returns-clause-data_skipped
returns-clause-data_skipped c = refl

pub returns-clause-data_after_end : goal.returns-clause-data_after_end
returns-clause-data_after_end c = refl

pub returns-clause-data_ended_here : goal.returns-clause-data_ended_here
returns-clause-data_ended_here c = refl

pub returns-clause-data_ends : goal.returns-clause-data_ends
returns-clause-data_ends c = refl

pub returns-clause-data_padded : goal.returns-clause-data_padded
returns-clause-data_padded c = refl

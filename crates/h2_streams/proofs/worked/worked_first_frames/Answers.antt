use Rattle.std.proofs.Common.{refl}
use Rattle.h2_streams.proofs.worked.worked_first_frames.Goals as goal

pub returns-clause-first_not_settings : goal.returns-clause-first_not_settings
returns-clause-first_not_settings c = refl

pub returns-clause-first_ack : goal.returns-clause-first_ack
returns-clause-first_ack c = refl

pub returns-clause-first_settings : goal.returns-clause-first_settings
returns-clause-first_settings c = refl

pub returns-clause-first_settings_on_a_stream : goal.returns-clause-first_settings_on_a_stream
returns-clause-first_settings_on_a_stream c = refl

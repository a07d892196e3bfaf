use Rattle.std.proofs.Common.{refl}
use Rattle.h2_responses.proofs.worked.worked_first_frames.Goals as goal

pub returns-clause-first_not_settings : goal.returns-clause-first_not_settings
returns-clause-first_not_settings c = refl

pub returns-clause-first_ack : goal.returns-clause-first_ack
returns-clause-first_ack c = refl

pub returns-clause-first_settings : goal.returns-clause-first_settings
returns-clause-first_settings c = refl

pub returns-clause-push_enabled : goal.returns-clause-push_enabled
returns-clause-push_enabled c = refl

pub returns-clause-push_disabled : goal.returns-clause-push_disabled
returns-clause-push_disabled c = refl

pub returns-clause-table_and_window : goal.returns-clause-table_and_window
returns-clause-table_and_window c = refl

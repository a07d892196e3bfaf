use Rattle.std.proofs.Common.{refl}
use Rattle.h2_streams.proofs.worked.worked_settings_frames.Goals as goal

pub returns-clause-settings_ack_long : goal.returns-clause-settings_ack_long
returns-clause-settings_ack_long c = refl

pub returns-clause-settings_five : goal.returns-clause-settings_five
returns-clause-settings_five c = refl

pub returns-clause-settings_stream : goal.returns-clause-settings_stream
returns-clause-settings_stream c = refl

pub returns-clause-settings_ack : goal.returns-clause-settings_ack
returns-clause-settings_ack c = refl

pub returns-clause-settings_push : goal.returns-clause-settings_push
returns-clause-settings_push c = refl

pub returns-clause-settings_window : goal.returns-clause-settings_window
returns-clause-settings_window c = refl

pub returns-clause-settings_frame : goal.returns-clause-settings_frame
returns-clause-settings_frame c = refl

pub returns-clause-settings_first_fault : goal.returns-clause-settings_first_fault
returns-clause-settings_first_fault c = refl

pub returns-clause-settings_table : goal.returns-clause-settings_table
returns-clause-settings_table c = refl

pub returns-clause-settings_large_frame : goal.returns-clause-settings_large_frame
returns-clause-settings_large_frame c = refl

pub returns-clause-settings_unknown : goal.returns-clause-settings_unknown
returns-clause-settings_unknown c = refl

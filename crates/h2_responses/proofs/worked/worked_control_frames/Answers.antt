use Rattle.std.proofs.Common.{refl}
use Rattle.h2_responses.proofs.worked.worked_control_frames.Goals as goal

pub returns-clause-unknown : goal.returns-clause-unknown
returns-clause-unknown c = refl

pub returns-clause-priority : goal.returns-clause-priority
returns-clause-priority c = refl

pub returns-clause-priority_short : goal.returns-clause-priority_short
returns-clause-priority_short c = refl

pub returns-clause-push_promise : goal.returns-clause-push_promise
returns-clause-push_promise c = refl

pub returns-clause-reset : goal.returns-clause-reset
returns-clause-reset c = refl

pub returns-clause-reset_unopened : goal.returns-clause-reset_unopened
returns-clause-reset_unopened c = refl

pub returns-clause-reset_over : goal.returns-clause-reset_over
returns-clause-reset_over c = refl

pub returns-clause-ping : goal.returns-clause-ping
returns-clause-ping c = refl

pub returns-clause-ping_ack : goal.returns-clause-ping_ack
returns-clause-ping_ack c = refl

pub returns-clause-goaway : goal.returns-clause-goaway
returns-clause-goaway c = refl

pub returns-clause-goaway_short : goal.returns-clause-goaway_short
returns-clause-goaway_short c = refl

pub returns-clause-window : goal.returns-clause-window
returns-clause-window c = refl

pub returns-clause-window_zero : goal.returns-clause-window_zero
returns-clause-window_zero c = refl

pub returns-clause-window_over : goal.returns-clause-window_over
returns-clause-window_over c = refl

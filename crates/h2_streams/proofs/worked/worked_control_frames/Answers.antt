use Rattle.std.proofs.Common.{refl}
use Rattle.h2_streams.proofs.worked.worked_control_frames.Goals as goal

pub returns-clause-unknown : goal.returns-clause-unknown
returns-clause-unknown c = refl

pub returns-clause-priority_on_0 : goal.returns-clause-priority_on_0
returns-clause-priority_on_0 c = refl

pub returns-clause-priority_short : goal.returns-clause-priority_short
returns-clause-priority_short c = refl

pub returns-clause-priority : goal.returns-clause-priority
returns-clause-priority c = refl

pub returns-clause-rst_short : goal.returns-clause-rst_short
returns-clause-rst_short c = refl

pub returns-clause-rst_idle : goal.returns-clause-rst_idle
returns-clause-rst_idle c = refl

pub returns-clause-rst_open : goal.returns-clause-rst_open
returns-clause-rst_open c = refl

pub returns-clause-push_promise : goal.returns-clause-push_promise
returns-clause-push_promise c = refl

pub returns-clause-ping_short : goal.returns-clause-ping_short
returns-clause-ping_short c = refl

pub returns-clause-ping_stream : goal.returns-clause-ping_stream
returns-clause-ping_stream c = refl

pub returns-clause-ping_ack : goal.returns-clause-ping_ack
returns-clause-ping_ack c = refl

pub returns-clause-ping : goal.returns-clause-ping
returns-clause-ping c = refl

pub returns-clause-goaway_short : goal.returns-clause-goaway_short
returns-clause-goaway_short c = refl

pub returns-clause-goaway_stream : goal.returns-clause-goaway_stream
returns-clause-goaway_stream c = refl

pub returns-clause-goaway : goal.returns-clause-goaway
returns-clause-goaway c = refl

pub returns-clause-rst_closed : goal.returns-clause-rst_closed
returns-clause-rst_closed c = refl

pub returns-clause-rst_on_0 : goal.returns-clause-rst_on_0
returns-clause-rst_on_0 c = refl

pub returns-clause-priority_open : goal.returns-clause-priority_open
returns-clause-priority_open c = refl

-- What is written on a stream answers what was said on it.
use Rattle.std.proofs.Common.{◌≡◌, ℕ, List, ◌++◌, subst}
use Rattle.base_kinds.specs.Schema.{SchemaNode}
use Rattle.h2_events.specs.declared.event.RecvEvent.{RecvEvent}
use Rattle.h2_events.specs.Items.{said_on, written}
use Rattle.h2_send.specs.Accepting.{IsOpenedOnce}
use Rattle.h2_send.specs.Inputs.{events_of}
use Rattle.h2_send.specs.Lines.{first_line}
use Rattle.h2_send.specs.Messages.{octets_said, data_on}
use Rattle.h2_send.specs.Orders.{order_of}
use Rattle.h2_send.specs.StreamFrames.{IsAnswer, frames_on}
use Rattle.h2_send.proofs.Octets.{front_said}
use Rattle.h2_send.proofs.Orders.{heard_again}
use Rattle.h2_send.proofs.StreamFrames.{answered_on}
use Rattle.session_core.specs.declared.how.How.{How}
use Rattle.session_core.specs.Runs.{Outside, RunBeside}

once : (fed : List ℕ) (schema : List SchemaNode) (old new : Outside) (how : How) (run : RunBeside fed schema old how new) (stream : ℕ) → IsOpenedOnce stream (events_of run.inputs)
once fed schema old new how run stream = subst (λ (es : List RecvEvent). IsOpenedOnce stream es) (heard_again first_line run.inputs) (run.served.opened stream)

pub streams_answered : (fed : List ℕ) (schema : List SchemaNode) (old new : Outside) (how : How) (run : RunBeside fed schema old how new) (stream : ℕ)
    → IsAnswer stream (said_on stream (order_of run.inputs)) (frames_on stream (written (order_of run.inputs)))
streams_answered fed schema old new how run stream = answered_on stream run.inputs run.accepted (once fed schema old new how run stream)

pub data_fronts : (fed : List ℕ) (schema : List SchemaNode) (old new : Outside) (how : How) (run : RunBeside fed schema old how new) (stream : ℕ)
    → (end : List ℕ) × (octets_said (said_on stream (order_of run.inputs)) ≡ data_on stream (written (order_of run.inputs)) ++ end)
data_fronts fed schema old new how run stream = front_said stream run.inputs run.accepted (once fed schema old new how run stream)

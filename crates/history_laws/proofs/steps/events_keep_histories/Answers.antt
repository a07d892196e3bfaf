use Rattle.history_laws.proofs.Judged.{clock_keeps_history, event_keeps_history, events_keep_history, events_keep_bound}
use Rattle.history_laws.proofs.steps.events_keep_histories.Goals as goal

pub returns : goal.returns
returns c = record { clock = clock_keeps_history; one = event_keeps_history; all = events_keep_history; bound = events_keep_bound }

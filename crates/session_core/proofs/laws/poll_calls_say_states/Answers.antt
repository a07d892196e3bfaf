use Rattle.std.proofs.Common.{List, refl, subst}
use Rattle.session_core.specs.Deeds.{Deed, AreDone}
use Rattle.session_core.specs.Runs.{start_of}
use Rattle.session_core.specs.Serving.{first_service, service_of, standing_of}
use Rattle.session_core.proofs.PollRuns.{polls_from_there}
use Rattle.session_core.proofs.laws.poll_calls_say_states.Goals as goal

pub returns : goal.returns
returns c = λ fed schema old new how run before after deed plan cut asks_poll first later.
    polls_from_there schema plan deed asks_poll (first_service (start_of schema old)) before after (service_of (standing_of new.port run.calls new.readings run.round))
    (subst (λ (deeds : List Deed). AreDone schema (first_service (start_of schema old)) deeds (service_of (standing_of new.port run.calls new.readings run.round))) cut run.served.done) first later refl

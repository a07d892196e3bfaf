use Rattle.session_core.specs.Serving.{deeds_in, first_service, service_of, standing_of}
use Rattle.session_core.specs.Runs.{start_of}
use Rattle.session_core.proofs.OnceRuns.{once_calls}
use Rattle.session_core.proofs.laws.once_calls_say_states.Goals as goal

pub returns : goal.returns
returns c = λ fed schema old new how run. once_calls schema (first_service (start_of schema old)) (service_of (standing_of new.port run.calls new.readings run.round)) (deeds_in run.served) run.served.done

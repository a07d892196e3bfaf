use Rattle.book_port.proofs.Taking.{taken_are_found}
use Rattle.session_core.specs.Deeds.{turns_in}
use Rattle.session_core.specs.Serving.{deeds_in, first_service, service_of, standing_of}
use Rattle.session_core.specs.Runs.{start_of}
use Rattle.session_core.proofs.History.{turns_taken, all_marked}
use Rattle.session_core.proofs.laws.turns_are_kept.Goals as goal

pub returns-clause-found : goal.returns-clause-found
returns-clause-found c = λ fed schema old new how run. taken_are_found old.port new.port (turns_in (deeds_in run.served)) (turns_taken schema (first_service (start_of schema old)) (service_of (standing_of new.port run.calls new.readings run.round)) (deeds_in run.served) run.served.done)

pub returns-clause-marked : goal.returns-clause-marked
returns-clause-marked c = λ fed schema old new how run. all_marked schema (first_service (start_of schema old)) (service_of (standing_of new.port run.calls new.readings run.round)) (deeds_in run.served) run.served.done

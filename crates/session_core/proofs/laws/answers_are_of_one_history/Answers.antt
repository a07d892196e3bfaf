use Rattle.book_port.proofs.Taking.{taken_alone, taken_follow}
use Rattle.session_core.specs.Deeds.{turns_in}
use Rattle.session_core.specs.Serving.{deeds_in, first_service, service_of, standing_of}
use Rattle.session_core.specs.Runs.{start_of}
use Rattle.session_core.proofs.History.{turns_taken, all_allowed}
use Rattle.session_core.proofs.laws.answers_are_of_one_history.Goals as goal

pub returns-clause-taken : goal.returns-clause-taken
returns-clause-taken c = λ fed schema old new how run. turns_taken schema (first_service (start_of schema old)) (service_of (standing_of new.port run.calls new.readings run.round)) (deeds_in run.served) run.served.done

pub returns-clause-follow : goal.returns-clause-follow
returns-clause-follow c = λ fed schema old new how run. taken_follow old.port new.port (turns_in (deeds_in run.served)) (turns_taken schema (first_service (start_of schema old)) (service_of (standing_of new.port run.calls new.readings run.round)) (deeds_in run.served) run.served.done)

pub returns-clause-alone : goal.returns-clause-alone
returns-clause-alone c = λ fed schema old new how run alone. taken_alone old.port new.port (turns_in (deeds_in run.served)) alone (turns_taken schema (first_service (start_of schema old)) (service_of (standing_of new.port run.calls new.readings run.round)) (deeds_in run.served) run.served.done)

pub returns-clause-allowed : goal.returns-clause-allowed
returns-clause-allowed c = λ fed schema old new how run. all_allowed old.port new.port (turns_in (deeds_in run.served)) (turns_taken schema (first_service (start_of schema old)) (service_of (standing_of new.port run.calls new.readings run.round)) (deeds_in run.served) run.served.done)

use Rattle.book_port.proofs.Following.{own_are_made}
use Rattle.book_port.proofs.Taking.{taken_follow, taken_go_on}
use Rattle.session_core.specs.Deeds.{turns_in}
use Rattle.session_core.specs.Serving.{deeds_in, first_service, service_of, standing_of}
use Rattle.session_core.specs.Runs.{start_of}
use Rattle.session_core.proofs.History.{turns_taken, earlier_stand}
use Rattle.session_core.proofs.laws.own_entries_stand.Goals as goal

pub returns-clause-last : goal.returns-clause-last
returns-clause-last c = λ fed schema old new how run.
    let turns = turns_in (deeds_in run.served) in
    let taken = turns_taken schema (first_service (start_of schema old)) (service_of (standing_of new.port run.calls new.readings run.round)) (deeds_in run.served) run.served.done in
    own_are_made old.port.author old.port.seen turns new.port.seen (taken_go_on old.port new.port turns taken) (taken_follow old.port new.port turns taken)

pub returns-clause-earlier : goal.returns-clause-earlier
returns-clause-earlier c = λ fed schema old new how run before after turn cut.
    let turns = turns_in (deeds_in run.served) in
    let taken = turns_taken schema (first_service (start_of schema old)) (service_of (standing_of new.port run.calls new.readings run.round)) (deeds_in run.served) run.served.done in
    earlier_stand old.port.author old.port.seen turns before after turn new.port.seen cut (taken_go_on old.port new.port turns taken) (taken_follow old.port new.port turns taken)

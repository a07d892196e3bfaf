-- Laws of session_core and gnmi_server, by the lemmas that prove them there.
use Rattle.std.proofs.Common.{List, refl, subst}
use Rattle.environment.specs.Input.{Input}
use Rattle.environment.specs.Output.{Output}
use Rattle.book_port.proofs.Following.{own_are_made}
use Rattle.book_port.proofs.Taking.{taken_alone, taken_follow, taken_go_on}
use Rattle.gnmi_server.specs.laws.HistoryLaws.{SessionsStand}
use Rattle.gnmi_server.proofs.Standing.{sessions_stand}
use Rattle.session_core.specs.Deeds.{Deed, AreDone, turns_in}
use Rattle.session_core.specs.Runs.{start_of}
use Rattle.session_core.specs.Serving.{deeds_in, first_service, service_of, standing_of}
use Rattle.session_core.specs.laws.PollLaws.{PollCallsSayStates}
use Rattle.session_core.specs.laws.RunLaws.{OnceCallsSayStates, OwnEntriesStand, TurnsAreTaken, TurnsFollow, TurnsFollowAlone}
use Rattle.session_core.specs.laws.StreamLaws.{StreamCallsSayRuns}
use Rattle.session_core.proofs.History.{turns_taken}
use Rattle.session_core.proofs.OnceRuns.{once_calls}
use Rattle.session_core.proofs.PollRuns.{polls_from_there}
use Rattle.session_core.proofs.StreamRuns.{from_there}

abbrev pub itself : {A : Type 0} → A → A
itself a = a

pub sessions_have_parts : SessionsStand (itself {A = Input}) (itself {A = Output})
sessions_have_parts = sessions_stand (itself {A = Input}) (itself {A = Output})

pub taken : TurnsAreTaken
taken fed schema old new how run = turns_taken schema (first_service (start_of schema old)) (service_of (standing_of new.port run.calls new.readings run.round)) (deeds_in run.served) run.served.done

pub follow : TurnsFollow
follow fed schema old new how run = taken_follow old.port new.port (turns_in (deeds_in run.served)) (taken fed schema old new how run)

pub follow_alone : TurnsFollowAlone
follow_alone fed schema old new how run is = taken_alone old.port new.port (turns_in (deeds_in run.served)) is (taken fed schema old new how run)

pub own_entries : OwnEntriesStand
own_entries fed schema old new how run =
    let turns = turns_in (deeds_in run.served) in
    own_are_made old.port.author old.port.seen turns new.port.seen (taken_go_on old.port new.port turns (taken fed schema old new how run)) (follow fed schema old new how run)

pub once_calls_say : OnceCallsSayStates
once_calls_say fed schema old new how run = once_calls schema (first_service (start_of schema old)) (service_of (standing_of new.port run.calls new.readings run.round)) (deeds_in run.served) run.served.done

pub stream_calls_say : StreamCallsSayRuns
stream_calls_say fed schema old new how run before after deed plan cut asks_stream first later =
    from_there schema plan deed asks_stream (first_service (start_of schema old)) before after (service_of (standing_of new.port run.calls new.readings run.round))
    (subst (λ (deeds : List Deed). AreDone schema (first_service (start_of schema old)) deeds (service_of (standing_of new.port run.calls new.readings run.round))) cut run.served.done) first later refl

pub poll_calls_say : PollCallsSayStates
poll_calls_say fed schema old new how run before after deed plan cut asks_poll first later =
    polls_from_there schema plan deed asks_poll (first_service (start_of schema old)) before after (service_of (standing_of new.port run.calls new.readings run.round))
    (subst (λ (deeds : List Deed). AreDone schema (first_service (start_of schema old)) deeds (service_of (standing_of new.port run.calls new.readings run.round))) cut run.served.done) first later refl

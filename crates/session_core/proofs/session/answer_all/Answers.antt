use Rattle.std.proofs.Common.{List, subst}
use Rattle.grpc_requests.specs.declared.request.Request.{Request}
use Rattle.session_core.specs.Runs.{start_of}
use Rattle.session_core.specs.inner.Feeders.{feeder_state}
use Rattle.session_core.specs.inner.Places.{IsServedAt}
use Rattle.session_core.proofs.session.answer_all.Goals as goal

pub returns-in-Err-clause-answers : goal.returns-in-Err-clause-answers
returns-in-Err-clause-answers g c = λ fed before moments inputs first.
    c.in-Err.ensures.answers fed before moments inputs c.next.new.self.rest.items
    (subst (λ (owed : List Request). IsServedAt fed (start_of c.args.desk.now before) moments inputs (feeder_state (g.W.Sending.history c.loop-request.wire) (g.H.Handing.feeding c.loop-request.feeders).started) c.loop-request.kept.waiting owed (g.P.BookPort.port c.loop-request.book) c.loop-request.kept.calls (g.C.Clock.readings c.loop-request.clock))
    c.in-Some.ensures.steps.0 (c.loop-request.invariant.serving fed before moments inputs first))

use Rattle.std.proofs.Common.{List, ◌++◌, subst, sym, ap}
use Rattle.session_core.specs.declared.waiting.Waiting.{Waiting}
use Rattle.session_core.specs.Runs.{start_of}
use Rattle.session_core.specs.Serving.{standing_of}
use Rattle.session_core.specs.inner.Feeders.{FeederState, feeder_state}
use Rattle.session_core.specs.inner.Places.{IsServedAt}
use Rattle.session_core.specs.inner.Steps.{said_in, service}
use Rattle.session_core.specs.inner.Words.{words}
use Rattle.session_core.proofs.Steps.{request_answered}
use Rattle.session_core.proofs.session.answer.Goals as goal

pub returns-in-Ok-put_reply-clause-answers : goal.returns-in-Ok-put_reply-clause-answers
returns-in-Ok-put_reply-clause-answers g c = λ fed before moments inputs owed at.
    subst (λ (w : List Waiting). IsServedAt fed (start_of c.args.desk.now before) moments inputs (feeder_state (g.W.Sending.history c.answer_of.new.wire) (g.H.Handing.feeding c.answer_of.new.feeders).started) w owed (g.P.BookPort.port c.answer_of.new.book) c.in-Ok.field-0.calls (g.C.Clock.readings c.answer_of.new.clock)) (sym c.in-Ok-put_reply.ensures)
    (subst (λ (s : FeederState). IsServedAt fed (start_of c.args.desk.now before) moments inputs s (c.args.kept.waiting ++ words c.args.request.stream (said_in c.in-Ok.field-0.reply)) owed (g.P.BookPort.port c.answer_of.new.book) c.in-Ok.field-0.calls (g.C.Clock.readings c.answer_of.new.clock)) (ap (λ beside. feeder_state beside (g.H.Handing.feeding c.answer_of.new.feeders).started) (sym c.in-Ok.ensures.history))
    (request_answered fed (start_of c.args.desk.now before) (feeder_state (g.W.Sending.history c.args.wire.now) (g.H.Handing.feeding c.args.feeders.now).started) moments inputs c.args.kept.waiting c.args.request.stream c.args.request.asked owed c.in-Ok.field-0.reply (standing_of (g.P.BookPort.port c.args.book.now) c.args.kept.calls (g.C.Clock.readings c.args.clock.now) at.round)
    (service (g.P.BookPort.port c.answer_of.new.book) c.in-Ok.field-0.calls) (g.C.Clock.readings c.answer_of.new.clock) (g.H.Handing.feeding c.answer_of.new.feeders).started c.in-Ok.ensures.replied at.no_turns at.served))

pub returns-in-Err-put_reply-clause-answers : goal.returns-in-Err-put_reply-clause-answers
returns-in-Err-put_reply-clause-answers g c = λ fed before moments inputs owed at. record {
  waiting = _;
  owed = owed;
  calls = c.in-Ok.field-0.calls;
  at = subst (λ (s : FeederState). IsServedAt fed (start_of c.args.desk.now before) moments inputs s (c.args.kept.waiting ++ words c.args.request.stream (said_in c.in-Ok.field-0.reply)) owed (g.P.BookPort.port c.answer_of.new.book) c.in-Ok.field-0.calls (g.C.Clock.readings c.answer_of.new.clock)) (ap (λ beside. feeder_state beside (g.H.Handing.feeding c.answer_of.new.feeders).started) (sym c.in-Ok.ensures.history))
      (request_answered fed (start_of c.args.desk.now before) (feeder_state (g.W.Sending.history c.args.wire.now) (g.H.Handing.feeding c.args.feeders.now).started) moments inputs c.args.kept.waiting c.args.request.stream c.args.request.asked owed c.in-Ok.field-0.reply (standing_of (g.P.BookPort.port c.args.book.now) c.args.kept.calls (g.C.Clock.readings c.args.clock.now) at.round)
      (service (g.P.BookPort.port c.answer_of.new.book) c.in-Ok.field-0.calls) (g.C.Clock.readings c.answer_of.new.clock) (g.H.Handing.feeding c.answer_of.new.feeders).started c.in-Ok.ensures.replied at.no_turns at.served);
}

use Rattle.std.specs.Prelude.{MatchResult}
use Rattle.std.proofs.Common.{◌≡◌, List, inl, refl, sym, ap, ◌∙◌, subst}
use Rattle.base_kinds.specs.Schema.{SchemaNode}
use Rattle.request_desk.specs.Answers.{IsAnsweredBy}
use Rattle.request_desk.specs.Services.{task_of}
use Rattle.grpc_requests.specs.declared.request.Asked.{Asked}
use Rattle.grpc_requests.specs.declared.request.Asked.TheVariants as asks
use Rattle.session_core.specs.inner.Steps.{IsRepliedBeside, service}
use Rattle.session_core.proofs.Replies.{called, sent_away, turned_down}
use Rattle.session_core.proofs.Subscribing.{begun_or}
use Rattle.session_core.proofs.answering.answer_of.Goals as goal

pub returns-in-Call-clause-replied : goal.returns-in-Call-clause-replied
returns-in-Call-clause-replied g c = inl (
  called c.args.desk.now c.args.stream c.args.asked (g.P.BookPort.port c.args.book.now) (g.P.BookPort.port c.answer.new.port) c.args.calls (g.C.Clock.readings c.args.clock.now) (g.C.Clock.readings c.now-now.new.self)
      c.in-Call.method c.in-Call.body c.items.result.now c.now-now.result c.answer.result c.in-Call.is c.items.ensures
      (subst (λ (schema : List SchemaNode). IsAnsweredBy (task_of schema c.in-Call.method c.items.result.now) (g.P.BookPort.port c.args.book.now) c.now-now.result c.answer.result (g.P.BookPort.port c.answer.new.port)) c.requires c.answer.ensures.answer)
      c.now-now.ensures,
  refl,
)

pub returns-in-Http-clause-replied : goal.returns-in-Http-clause-replied
returns-in-Http-clause-replied g c = inl (
  sent_away c.args.desk.now c.args.stream c.args.asked (g.P.BookPort.port c.args.book.now) (g.P.BookPort.port c.args.book.now) c.args.calls (g.C.Clock.readings c.args.clock.now) (g.C.Clock.readings c.args.clock.now) c.in-Http.status c.in-Http.is refl refl,
  refl,
)

pub returns-in-Refused-clause-replied : goal.returns-in-Refused-clause-replied
returns-in-Refused-clause-replied g c = inl (
  turned_down c.args.desk.now c.args.stream c.args.asked (g.P.BookPort.port c.args.book.now) (g.P.BookPort.port c.args.book.now) c.args.calls (g.C.Clock.readings c.args.clock.now) (g.C.Clock.readings c.args.clock.now) c.in-Refused.refusal c.in-Refused.is refl refl,
  refl,
)

pub returns-in-Subscribe-clause-replied : goal.returns-in-Subscribe-clause-replied
returns-in-Subscribe-clause-replied g c =
    subst (λ (a : Asked). MatchResult c.answer_subscribe.result
    (λ done. IsRepliedBeside (g.W.Sending.history c.args.wire.now).name c.args.desk.now c.args.stream a done.reply (service (g.P.BookPort.port c.args.book.now) c.args.calls) (service (g.P.BookPort.port c.answer_subscribe.new.book) done.calls) (g.C.Clock.readings c.args.clock.now) (g.C.Clock.readings c.answer_subscribe.new.clock)
    (g.H.Handing.feeding c.args.feeders.now).started (g.H.Handing.feeding c.answer_subscribe.new.feeders).started)
    (λ fault. (g.P.BookPort.port c.answer_subscribe.new.book ≡ g.P.BookPort.port c.args.book.now) × (g.C.Clock.readings c.answer_subscribe.new.clock ≡ g.C.Clock.readings c.args.clock.now) × ((g.H.Handing.feeding c.answer_subscribe.new.feeders).started ≡ (g.H.Handing.feeding c.args.feeders.now).started)))
    (ap asks.Subscribe c.items-in-Subscribe.ensures ∙ sym c.in-Subscribe.is) c.answer_subscribe.ensures.replied

pub returns-in-Later-clause-replied : goal.returns-in-Later-clause-replied
returns-in-Later-clause-replied g c =
    subst (λ (a : Asked). MatchResult c.answer_later.result
    (λ done. IsRepliedBeside (g.W.Sending.history c.args.wire.now).name c.args.desk.now c.args.stream a done.reply (service (g.P.BookPort.port c.args.book.now) c.args.calls) (service (g.P.BookPort.port c.args.book.now) done.calls) (g.C.Clock.readings c.args.clock.now) (g.C.Clock.readings c.args.clock.now) (g.H.Handing.feeding c.args.feeders.now).started (g.H.Handing.feeding c.args.feeders.now).started)
    (λ fault. ((g.P.BookPort.port c.args.book.now) ≡ (g.P.BookPort.port c.args.book.now)) × ((g.C.Clock.readings c.args.clock.now) ≡ (g.C.Clock.readings c.args.clock.now)) × ((g.H.Handing.feeding c.args.feeders.now).started ≡ (g.H.Handing.feeding c.args.feeders.now).started)))
    (sym c.in-Later.is)
    (begun_or _ _ _ c.answer_later.result (λ done is. inl (is c.args.desk.now (g.P.BookPort.port c.args.book.now) (g.C.Clock.readings c.args.clock.now), refl)) (refl, refl, refl) c.answer_later.ensures)

use Rattle.std.proofs.Common.{sym}
use Rattle.h2_events.specs.declared.port.Ready.TheVariants as ready
use Rattle.stream_worker.proofs.Feeding.{asked_on, gone}
use Rattle.stream_worker.proofs.steps.Feeder.step.Goals as goal

pub returns-in-Free : goal.returns-in-Free
returns-in-Free g c = λ plan from fed.
    c.use_free.ensures plan from
    (asked_on c.args.schema.now c.args.stream plan from ready.Free c.args.self.now.call c.args.self.now.waiting (g.P.BookPort.port c.args.self.now.book) _ _ fed
    (record { connection = c.in-Free.ensures.connection; authors = c.in-Free.ensures.authors; counts = c.in-Free.ensures.counts; owns = c.in-Free.ensures.owns; given = c.in-Free.ensures.given; says = c.in-Free.ensures.own }))

pub returns-in-Busy : goal.returns-in-Busy
returns-in-Busy g c = λ plan from fed.
    asked_on c.args.schema.now c.args.stream plan from ready.Busy c.args.self.now.call c.args.self.now.waiting (g.P.BookPort.port c.args.self.now.book) _ _ fed
    (record { connection = c.in-Busy.ensures.connection; authors = c.in-Busy.ensures.authors; counts = c.in-Busy.ensures.counts; owns = c.in-Busy.ensures.owns; given = c.in-Busy.ensures.given; says = c.in-Busy.ensures.own })

pub returns-in-Gone : goal.returns-in-Gone
returns-in-Gone g c = λ plan from fed.
    gone c.args.schema.now c.args.stream plan from c.args.self.now.call c.args.self.now.waiting _
    (asked_on c.args.schema.now c.args.stream plan from ready.Gone c.args.self.now.call c.args.self.now.waiting (g.P.BookPort.port c.args.self.now.book) _ _ fed
    (record { connection = c.in-Gone.ensures.connection; authors = c.in-Gone.ensures.authors; counts = c.in-Gone.ensures.counts; owns = c.in-Gone.ensures.owns; given = c.in-Gone.ensures.given; says = c.in-Gone.ensures.own }))
    (sym c.in-Gone.ensures.asks.answers)

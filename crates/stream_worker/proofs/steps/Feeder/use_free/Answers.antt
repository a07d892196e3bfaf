use Rattle.std.proofs.Common.{List, [], ℕ, refl, subst, Option}
use Rattle.subscribe_calls.specs.Calls.{CallView}
use Rattle.stream_worker.specs.Feeds.{ports_of}
use Rattle.stream_worker.specs.inner.Steps.{HasFed}
use Rattle.stream_worker.proofs.Feeding.{turned_on}
use Rattle.stream_worker.proofs.steps.Feeder.use_free.Goals as goal

pub returns-then-is_empty : goal.returns-then-is_empty
returns-then-is_empty g c = λ plan from fed.
    turned_on c.args.schema.now c.args.stream plan from c.in-Some.field-0 c.take_turn.new.call c.take_turn.new.waiting (g.P.BookPort.port c.args.self.now.book) (g.P.BookPort.port c.take_turn.new.book) _
    (subst (λ (call : Option CallView). HasFed c.args.schema.now c.args.stream plan 1 from call []
    (ports_of (g.P.BookPort.port c.args.self.now.book) (g.W.WirePort.connection c.args.self.now.wire) (g.W.WirePort.counts c.args.self.now.wire) (g.W.WirePort.progress c.args.self.now.wire) (g.W.WirePort.owns c.args.self.now.wire) (g.W.WirePort.given c.args.self.now.wire) (g.W.WirePort.authors c.args.self.now.wire))) c.in-Some.is
    (subst (λ (waiting : List (List ℕ)). HasFed c.args.schema.now c.args.stream plan 1 from c.args.self.now.call waiting
    (ports_of (g.P.BookPort.port c.args.self.now.book) (g.W.WirePort.connection c.args.self.now.wire) (g.W.WirePort.counts c.args.self.now.wire) (g.W.WirePort.progress c.args.self.now.wire) (g.W.WirePort.owns c.args.self.now.wire) (g.W.WirePort.given c.args.self.now.wire) (g.W.WirePort.authors c.args.self.now.wire))) (c.if-is_empty.ensures.none refl) fed))
    (c.take_turn.ensures c.in-Some.field-0 c.in-Some.is)

pub returns-else-is_empty : goal.returns-else-is_empty
returns-else-is_empty g c = λ plan from fed.
    c.say_message.ensures c.args.schema.now plan from c.in-Some.field-0 (g.P.BookPort.port c.args.self.now.book) c.in-Some.is
    (subst (λ (call : Option CallView). HasFed c.args.schema.now c.args.stream plan 1 from call c.args.self.now.waiting
    (ports_of (g.P.BookPort.port c.args.self.now.book) (g.W.WirePort.connection c.args.self.now.wire) (g.W.WirePort.counts c.args.self.now.wire) (g.W.WirePort.progress c.args.self.now.wire) (g.W.WirePort.owns c.args.self.now.wire) (g.W.WirePort.given c.args.self.now.wire) (g.W.WirePort.authors c.args.self.now.wire))) c.in-Some.is fed)

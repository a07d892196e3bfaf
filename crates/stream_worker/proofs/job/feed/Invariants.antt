use Rattle.sub_plan.specs.declared.plan.Plan.{Plan as PlanValue}
use Rattle.stream_worker.specs.Feeds.{Ports, ports_of}
use Rattle.stream_worker.specs.inner.Steps.{HasFed}
use Rattle.stream_worker.proofs.job.feed.Given as goal

abbrev pub invariant-loop : goal.invariant-loop
invariant-loop g l =
    (goal.iterator-loop g).can_next l.iterator' × (goal.iterator-loop g).is_finite l.iterator'
    × ((plan : PlanValue) (from : Ports)
    → HasFed l.fn.schema l.fn.stream plan 0 from l.fn.feeder.call l.fn.feeder.waiting
    (ports_of (g.P.BookPort.port l.fn.feeder.book) (g.W.WirePort.connection l.fn.feeder.wire) (g.W.WirePort.counts l.fn.feeder.wire) (g.W.WirePort.progress l.fn.feeder.wire) (g.W.WirePort.owns l.fn.feeder.wire) (g.W.WirePort.given l.fn.feeder.wire) (g.W.WirePort.authors l.fn.feeder.wire))
    → HasFed l.fn.schema l.fn.stream plan 0 from l.feeder.call l.feeder.waiting
    (ports_of (g.P.BookPort.port l.feeder.book) (g.W.WirePort.connection l.feeder.wire) (g.W.WirePort.counts l.feeder.wire) (g.W.WirePort.progress l.feeder.wire) (g.W.WirePort.owns l.feeder.wire) (g.W.WirePort.given l.feeder.wire) (g.W.WirePort.authors l.feeder.wire)))

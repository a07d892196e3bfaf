use Rattle.std.proofs.Common.{sym, subst}
use Rattle.stream_workers.specs.Feeders.{AllEnd, AreOf, FeedersView}
use Rattle.stream_workers.proofs.feeders.Feeders.finish.Goals as goal

pub end_all-requires-clause-shared : goal.end_all-requires-clause-shared
end_all-requires-clause-shared g c = c.requires.shared

pub end_all-requires-clause-all : goal.end_all-requires-clause-all
end_all-requires-clause-all g c =
    subst (λ (f : FeedersView). AreOf (g.P.BookPort.port c.args.book.now).book c.args.wire.now.lock f.started) (sym c.self.view_is) c.requires.all

pub returns : goal.returns
returns g c =
    subst (λ (f : FeedersView). AllEnd f.schema f.started (g.P.BookPort.port c.args.book.now) c.args.wire.now (g.P.BookPort.port c.end_all.new.book) c.end_all.new.wire) c.self.view_is
    (c.end_all.ensures c.self.inside.schema c.self.invariant)

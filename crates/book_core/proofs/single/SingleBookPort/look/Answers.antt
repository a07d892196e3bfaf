use Rattle.std.proofs.Common.{◌≡◌, None, [], ◌∷◌, ◌++◌, refl, subst, sym}
use Rattle.book_port.specs.Answers.{look_stages}
use Rattle.book_port.specs.Chronicles.{Adds}
use Rattle.book_core.specs.Uses.{UsesDisk}
use Rattle.book_core.specs.Views.{history_in}
use Rattle.book_port.specs.Ports.{LooksOnce, TakesTurn}
use Rattle.book_core.specs.Singles.{SingleView, port_of}
use Rattle.book_core.proofs.SinglePorts.{its_turn, single_turn}
use Rattle.book_core.proofs.single.SingleBookPort.look.Goals as goal

pub returns-clause-once : goal.returns-clause-once
returns-clause-once g c =
    let old : SingleView g.row.D.Denot = record { book = c.self.inside.book; author = c.self.inside.author; start = c.self.inside.start.value; finds = c.self.inside.finds } in
    subst (λ (o : SingleView g.row.D.Denot). LooksOnce (port_of g.D.Disk.faults o) c.args.now c.args.patterns.now c.look.result (port_of g.D.Disk.faults (record old { book = c.look.new.self; finds = c.remember.new.self }))) c.self.view_is (record {
      turn = its_turn g.D.Disk.faults c.args.now old c.self.invariant c.look.result c.look.new.self c.look.ensures.run c.look.ensures.run_on c.look.ensures.opened c.look.ensures.adds;
      reading = refl;
      taken = subst (λ finds. TakesTurn (port_of g.D.Disk.faults old) (its_turn g.D.Disk.faults c.args.now old c.self.invariant c.look.result c.look.new.self c.look.ensures.run c.look.ensures.run_on c.look.ensures.opened c.look.ensures.adds) c.look.result (port_of g.D.Disk.faults (record old { book = c.look.new.self; finds = finds }))) (sym c.remember.ensures) (single_turn g.D.Disk.faults c.args.now old c.self.invariant c.look.result c.look.new.self c.look.ensures.run c.look.ensures.run_on c.look.ensures.opened c.look.ensures.adds c.look.ensures.fault c.look.ensures.quiet);
      answer = c.look.ensures.answer;
    })

pub returns-clause-kept : goal.returns-clause-kept
returns-clause-kept g c =
    let new : SingleView g.row.D.Denot = record { book = c.look.new.self; author = c.self.inside.author; start = c.self.inside.start.value; finds = c.remember.new.self } in
    subst (λ (o : SingleView g.row.D.Denot). new ≡ record o { book = c.look.new.self; finds = o.finds ++ o.book ∷ [] }) c.self.view_is (λ i. record { book = c.look.new.self; author = c.self.inside.author; start = c.self.inside.start.value; finds = c.remember.ensures i })

pub returns-clause-adds : goal.returns-clause-adds
returns-clause-adds g c = subst (λ (o : SingleView g.row.D.Denot). Adds o.author c.look.result o.book.chronicle c.look.new.self.chronicle) c.self.view_is c.look.ensures.adds

pub returns-clause-disk : goal.returns-clause-disk
returns-clause-disk g c =
    subst (λ (o : SingleView g.row.D.Denot). UsesDisk g.D.Disk.told g.D.Disk.faults g.D.Disk.fuse c.args.now (look_stages (history_in o.book) c.args.now) None c.look.result o.book c.look.new.self) c.self.view_is (record {
      settled = c.look.ensures.settled;
      doubt = c.look.ensures.doubt;
      any_moment = c.look.ensures.any_moment;
      images = c.look.ensures.images;
      fault = c.look.ensures.fault;
      quiet = c.look.ensures.quiet;
      calls = c.look.ensures.calls;
    })

use Rattle.std.proofs.Common.{◌≡◌, [], ◌∷◌, ◌++◌, refl, subst, sym}
use Rattle.base_kinds.specs.Step.{step}
use Rattle.book_port.specs.Answers.{set_stages}
use Rattle.book_port.specs.Chronicles.{Adds}
use Rattle.book_port.specs.Opened.{rules_in}
use Rattle.book_core.specs.Calls.{answer_entry}
use Rattle.book_core.specs.Uses.{UsesDisk}
use Rattle.book_core.specs.Views.{history_in}
use Rattle.book_port.specs.Ports.{SetsOnce, TakesTurn}
use Rattle.book_core.specs.Singles.{SingleView, port_of}
use Rattle.book_core.proofs.SinglePorts.{its_turn, single_turn}
use Rattle.book_core.proofs.single.SingleBookPort.set.Goals as goal

pub returns-clause-once : goal.returns-clause-once
returns-clause-once g c =
    let old : SingleView g.row.D.Denot = record { book = c.self.inside.book; author = c.self.inside.author; start = c.self.inside.start.value; finds = c.self.inside.finds } in
    subst (λ (o : SingleView g.row.D.Denot). SetsOnce (port_of g.D.Disk.faults o) c.args.now c.args.ask c.set.result (port_of g.D.Disk.faults (record old { book = c.set.new.self; finds = c.remember.new.self }))) c.self.view_is (record {
      turn = its_turn g.D.Disk.faults c.args.now old c.self.invariant c.set.result c.set.new.self c.set.ensures.run c.set.ensures.run_on c.set.ensures.opened c.set.ensures.adds;
      reading = refl;
      taken = subst (λ finds. TakesTurn (port_of g.D.Disk.faults old) (its_turn g.D.Disk.faults c.args.now old c.self.invariant c.set.result c.set.new.self c.set.ensures.run c.set.ensures.run_on c.set.ensures.opened c.set.ensures.adds) c.set.result (port_of g.D.Disk.faults (record old { book = c.set.new.self; finds = finds }))) (sym c.remember.ensures) (single_turn g.D.Disk.faults c.args.now old c.self.invariant c.set.result c.set.new.self c.set.ensures.run c.set.ensures.run_on c.set.ensures.opened c.set.ensures.adds c.set.ensures.fault c.set.ensures.quiet);
      answer = c.set.ensures.answer;
    })

pub returns-clause-kept : goal.returns-clause-kept
returns-clause-kept g c =
    let new : SingleView g.row.D.Denot = record { book = c.set.new.self; author = c.self.inside.author; start = c.self.inside.start.value; finds = c.remember.new.self } in
    subst (λ (o : SingleView g.row.D.Denot). new ≡ record o { book = c.set.new.self; finds = o.finds ++ o.book ∷ [] }) c.self.view_is (λ i. record { book = c.set.new.self; author = c.self.inside.author; start = c.self.inside.start.value; finds = c.remember.ensures i })

pub returns-clause-adds : goal.returns-clause-adds
returns-clause-adds g c = subst (λ (o : SingleView g.row.D.Denot). Adds o.author c.set.result o.book.chronicle c.set.new.self.chronicle) c.self.view_is c.set.ensures.adds

pub returns-clause-disk : goal.returns-clause-disk
returns-clause-disk g c =
    subst (λ (o : SingleView g.row.D.Denot). UsesDisk g.D.Disk.told g.D.Disk.faults g.D.Disk.fuse c.args.now (set_stages (rules_in o.book.opened) (history_in o.book) c.args.now o.author c.args.ask) (answer_entry (step (rules_in o.book.opened) (history_in o.book) c.args.now o.author c.args.ask)) c.set.result o.book c.set.new.self) c.self.view_is (record {
      settled = c.set.ensures.settled;
      doubt = c.set.ensures.doubt;
      any_moment = c.set.ensures.any_moment;
      images = c.set.ensures.images;
      fault = c.set.ensures.fault;
      quiet = c.set.ensures.quiet;
      calls = c.set.ensures.calls;
    })

use Rattle.std.proofs.Common.{subst}
use Rattle.book_port.specs.Ports.{PortView}
use Rattle.shared_book.specs.Visits.{GivesBack}
use Rattle.shared_book.proofs.Finding.{gives_back}
use Rattle.shared_book.proofs.visit.Visit.finish.Goals as goal

pub returns : goal.returns
returns g c =
    let pass = c.self.inside.pass.seat in let e = c.last.ensures in
    subst (λ (o : PortView). GivesBack o c.last.result.book) c.self.view_is (gives_back pass.table_id pass.me.0 e.0 c.last.result.book c.self.invariant.2 e.7 e.5 e.6 e.4 e.3 e.1 e.2 e.8)

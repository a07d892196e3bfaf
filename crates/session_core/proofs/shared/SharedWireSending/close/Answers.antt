use Rattle.std.proofs.Common.{subst}
use Rattle.shared_wire.specs.Records.{EndsOn}
use Rattle.shared_wire.specs.Visits.{DoesInTurn, VisitView}
use Rattle.session_core.proofs.SharedWires.{closes, closes_nothing, grown}
use Rattle.session_core.proofs.shared.SharedWireSending.close.Goals as goal

pub returns-clause-closes : goal.returns-clause-closes
returns-clause-closes g c = closes c.args.self.now c.close.new.self c.args.code c.close.result (subst (λ (v : VisitView). DoesInTurn (EndsOn c.args.code c.close.result) v c.close.new.self) c.self.view_is c.close.ensures)

pub returns-clause-grown : goal.returns-clause-grown
returns-clause-grown g c = grown c.args.self.now c.close.new.self (EndsOn c.args.code c.close.result) (subst (λ (v : VisitView). DoesInTurn (EndsOn c.args.code c.close.result) v c.close.new.self) c.self.view_is c.close.ensures)

pub returns-clause-silent : goal.returns-clause-silent
returns-clause-silent g c = closes_nothing c.args.self.now c.close.new.self c.args.code c.close.result (subst (λ (v : VisitView). DoesInTurn (EndsOn c.args.code c.close.result) v c.close.new.self) c.self.view_is c.close.ensures)

use Rattle.std.proofs.Common.{subst}
use Rattle.shared_wire.specs.Records.{ActsOrEnds}
use Rattle.shared_wire.specs.Visits.{DoesInTurn, VisitView}
use Rattle.session_core.proofs.SharedWires.{acts, acts_nothing, grown}
use Rattle.session_core.proofs.shared.SharedWireSending.act.Goals as goal

pub returns-clause-acts : goal.returns-clause-acts
returns-clause-acts g c = acts c.args.self.now c.act_or_close.new.self c.args.event.now c.act_or_close.result (subst (λ (v : VisitView). DoesInTurn (ActsOrEnds c.args.event.now c.act_or_close.result) v c.act_or_close.new.self) c.self.view_is c.act_or_close.ensures)

pub returns-clause-grown : goal.returns-clause-grown
returns-clause-grown g c = grown c.args.self.now c.act_or_close.new.self (ActsOrEnds c.args.event.now c.act_or_close.result) (subst (λ (v : VisitView). DoesInTurn (ActsOrEnds c.args.event.now c.act_or_close.result) v c.act_or_close.new.self) c.self.view_is c.act_or_close.ensures)

pub returns-clause-silent : goal.returns-clause-silent
returns-clause-silent g c = acts_nothing c.args.self.now c.act_or_close.new.self c.args.event.now c.act_or_close.result (subst (λ (v : VisitView). DoesInTurn (ActsOrEnds c.args.event.now c.act_or_close.result) v c.act_or_close.new.self) c.self.view_is c.act_or_close.ensures)

use Rattle.std.proofs.Common.{subst}
use Rattle.shared_wire.specs.Records.{ReadsOrTells}
use Rattle.shared_wire.specs.Visits.{DoesInTurn, VisitView}
use Rattle.session_core.proofs.SharedWires.{grown, reads, reads_nothing}
use Rattle.session_core.proofs.shared.SharedWireSending.readiness.Goals as goal

pub returns-clause-reads : goal.returns-clause-reads
returns-clause-reads g c = reads c.args.self.now c.readiness_or_fault.new.self c.args.stream c.readiness_or_fault.result (subst (λ (v : VisitView). DoesInTurn (ReadsOrTells c.args.stream c.readiness_or_fault.result) v c.readiness_or_fault.new.self) c.self.view_is c.readiness_or_fault.ensures)

pub returns-clause-grown : goal.returns-clause-grown
returns-clause-grown g c = grown c.args.self.now c.readiness_or_fault.new.self (ReadsOrTells c.args.stream c.readiness_or_fault.result) (subst (λ (v : VisitView). DoesInTurn (ReadsOrTells c.args.stream c.readiness_or_fault.result) v c.readiness_or_fault.new.self) c.self.view_is c.readiness_or_fault.ensures)

pub returns-clause-silent : goal.returns-clause-silent
returns-clause-silent g c = reads_nothing c.args.self.now c.readiness_or_fault.new.self c.args.stream c.readiness_or_fault.result (subst (λ (v : VisitView). DoesInTurn (ReadsOrTells c.args.stream c.readiness_or_fault.result) v c.readiness_or_fault.new.self) c.self.view_is c.readiness_or_fault.ensures)

use Rattle.std.proofs.Common.{subst}
use Rattle.shared_wire.specs.Records.{StatesOrTells}
use Rattle.shared_wire.specs.Visits.{DoesInTurn, VisitView}
use Rattle.session_core.proofs.SharedWires.{grown, states, states_there}
use Rattle.session_core.proofs.shared.SharedWireSending.http.Goals as goal

pub returns-clause-says : goal.returns-clause-says
returns-clause-says g c = states c.args.self.now c.http_or_fault.new.self c.args.stream c.http_or_fault.result c.took_in.result c.took_in.ensures c.args.status (subst (λ (v : VisitView). DoesInTurn (StatesOrTells c.args.stream c.args.status c.http_or_fault.result) v c.http_or_fault.new.self) c.self.view_is c.http_or_fault.ensures)

pub returns-clause-grown : goal.returns-clause-grown
returns-clause-grown g c = grown c.args.self.now c.http_or_fault.new.self (StatesOrTells c.args.stream c.args.status c.http_or_fault.result) (subst (λ (v : VisitView). DoesInTurn (StatesOrTells c.args.stream c.args.status c.http_or_fault.result) v c.http_or_fault.new.self) c.self.view_is c.http_or_fault.ensures)

pub returns-clause-silent : goal.returns-clause-silent
returns-clause-silent g c = states_there c.args.self.now c.http_or_fault.new.self c.args.stream c.http_or_fault.result c.args.status (subst (λ (v : VisitView). DoesInTurn (StatesOrTells c.args.stream c.args.status c.http_or_fault.result) v c.http_or_fault.new.self) c.self.view_is c.http_or_fault.ensures)

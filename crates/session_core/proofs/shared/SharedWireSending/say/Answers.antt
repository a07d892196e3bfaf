use Rattle.std.proofs.Common.{subst}
use Rattle.h2_events.specs.Items.{said_by}
use Rattle.shared_wire.specs.Records.{SaysOrTells}
use Rattle.shared_wire.specs.Visits.{DoesInTurn, VisitView}
use Rattle.session_core.proofs.SharedWires.{grown, says, says_there}
use Rattle.session_core.proofs.shared.SharedWireSending.say.Goals as goal

pub returns-clause-says : goal.returns-clause-says
returns-clause-says g c = says c.args.self.now c.say_or_fault.new.self c.args.stream c.say_or_fault.result c.took_in.result c.took_in.ensures (said_by c.args.piece.now) (subst (λ (v : VisitView). DoesInTurn (SaysOrTells c.args.stream (said_by c.args.piece.now) c.say_or_fault.result) v c.say_or_fault.new.self) c.self.view_is c.say_or_fault.ensures)

pub returns-clause-grown : goal.returns-clause-grown
returns-clause-grown g c = grown c.args.self.now c.say_or_fault.new.self (SaysOrTells c.args.stream (said_by c.args.piece.now) c.say_or_fault.result) (subst (λ (v : VisitView). DoesInTurn (SaysOrTells c.args.stream (said_by c.args.piece.now) c.say_or_fault.result) v c.say_or_fault.new.self) c.self.view_is c.say_or_fault.ensures)

pub returns-clause-silent : goal.returns-clause-silent
returns-clause-silent g c = says_there c.args.self.now c.say_or_fault.new.self c.args.stream c.say_or_fault.result (said_by c.args.piece.now) (subst (λ (v : VisitView). DoesInTurn (SaysOrTells c.args.stream (said_by c.args.piece.now) c.say_or_fault.result) v c.say_or_fault.new.self) c.self.view_is c.say_or_fault.ensures)

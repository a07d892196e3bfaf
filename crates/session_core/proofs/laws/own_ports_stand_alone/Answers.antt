use Rattle.session_core.proofs.AtOwnPorts.{answered_apart, turned_apart}
use Rattle.session_core.proofs.laws.own_ports_stand_alone.Goals as goal

pub returns-clause-answers : goal.returns-clause-answers
returns-clause-answers c = answered_apart

pub returns-clause-turns : goal.returns-clause-turns
returns-clause-turns c = turned_apart

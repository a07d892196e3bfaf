use Rattle.h2_send.proofs.Progress.{accepted_on, accepted_by_offer, faults_rise}
use Rattle.h2_send.proofs.laws.ports_go_on.Goals as goal

pub returns-clause-accepted : goal.returns-clause-accepted
returns-clause-accepted c old new are goes = accepted_on old new are goes

pub returns-clause-offered : goal.returns-clause-offered
returns-clause-offered c is_alone answer stream given old new fits are o = accepted_by_offer is_alone answer stream given old new fits are o

pub returns-clause-write_fault : goal.returns-clause-write_fault
returns-clause-write_fault c old new goes was is = faults_rise old new goes was is

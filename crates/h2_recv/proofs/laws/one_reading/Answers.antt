use Rattle.h2_recv.proofs.ExactLemmas.{one_read, one_fault, read_no_fault, read_not_astray, fault_not_astray}
use Rattle.h2_recv.proofs.laws.one_reading.Goals as goal

pub returns-clause-read : goal.returns-clause-read
returns-clause-read c = one_read

pub returns-clause-fault : goal.returns-clause-fault
returns-clause-fault c = one_fault

pub returns-clause-no_fault : goal.returns-clause-no_fault
returns-clause-no_fault c = read_no_fault

pub returns-clause-not_astray : goal.returns-clause-not_astray
returns-clause-not_astray c = read_not_astray

pub returns-clause-no_other_fault : goal.returns-clause-no_other_fault
returns-clause-no_other_fault c = fault_not_astray

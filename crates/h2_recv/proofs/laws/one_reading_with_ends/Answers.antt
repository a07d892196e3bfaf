use Rattle.h2_recv.proofs.ExactLemmas.{one_reading_with_ends, one_fault_with_ends, read_no_fault_with_ends}
use Rattle.h2_recv.proofs.laws.one_reading_with_ends.Goals as goal

pub returns-clause-read : goal.returns-clause-read
returns-clause-read c = one_reading_with_ends

pub returns-clause-fault : goal.returns-clause-fault
returns-clause-fault c = one_fault_with_ends

pub returns-clause-no_fault : goal.returns-clause-no_fault
returns-clause-no_fault c = read_no_fault_with_ends

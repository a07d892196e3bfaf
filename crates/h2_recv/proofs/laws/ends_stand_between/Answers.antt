use Rattle.h2_recv.proofs.ExactLemmas.{one_with_ends}
use Rattle.h2_recv.proofs.PieceLemmas.{read_with_ends, fault_with_ends, end_told, ends_read_on, ends_fault_on}
use Rattle.h2_recv.proofs.laws.ends_stand_between.Goals as goal

pub returns-clause-read : goal.returns-clause-read
returns-clause-read c = read_with_ends

pub returns-clause-fault : goal.returns-clause-fault
returns-clause-fault c = fault_with_ends

pub returns-clause-told : goal.returns-clause-told
returns-clause-told c = end_told

pub returns-clause-joined : goal.returns-clause-joined
returns-clause-joined c = ends_read_on

pub returns-clause-later_fault : goal.returns-clause-later_fault
returns-clause-later_fault c = ends_fault_on

pub returns-clause-one : goal.returns-clause-one
returns-clause-one c = one_with_ends

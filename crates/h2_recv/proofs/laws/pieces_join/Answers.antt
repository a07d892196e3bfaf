use Rattle.h2_recv.proofs.JoinLemmas.{astray_on, astray_grows, faults_grow}
use Rattle.h2_recv.proofs.PieceLemmas.{reads_on, faults_on, stops_on}
use Rattle.h2_recv.proofs.RunLemmas.{part_of_nothing}
use Rattle.h2_recv.proofs.laws.pieces_join.Goals as goal

pub returns-clause-read : goal.returns-clause-read
returns-clause-read c = reads_on

pub returns-clause-fault : goal.returns-clause-fault
returns-clause-fault c = faults_on

pub returns-clause-astray : goal.returns-clause-astray
returns-clause-astray c = astray_on

pub returns-clause-stops : goal.returns-clause-stops
returns-clause-stops c = stops_on

pub returns-clause-earlier_fault : goal.returns-clause-earlier_fault
returns-clause-earlier_fault c = faults_grow

pub returns-clause-earlier_astray : goal.returns-clause-earlier_astray
returns-clause-earlier_astray c = astray_grows

pub returns-clause-begins : goal.returns-clause-begins
returns-clause-begins c = part_of_nothing

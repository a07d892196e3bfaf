use Rattle.h2_send.proofs.Progress.{faults_rise}
use Rattle.shared_wire.specs.Records.{last_behind}
use Rattle.shared_wire.proofs.GoingOn.{goes_on}
use Rattle.shared_wire.proofs.laws.write_faults_of_records.Goals as goal

pub returns : goal.returns
returns c first more are fault = faults_rise first.left (last_behind first more).left (goes_on first more are.2) are.1 fault

use Rattle.json_rows.proofs.Faults.{faults_are_two}
use Rattle.json_rows.proofs.Meanings.{means_or_fails, means_one_list, means_or_fails_alone}
use Rattle.json_rows.proofs.laws.values_mean_rows_or_fail.Goals as goal

pub returns-clause-one : goal.returns-clause-one
returns-clause-one c = means_or_fails

pub returns-clause-same : goal.returns-clause-same
returns-clause-same c = means_one_list

pub returns-clause-alone : goal.returns-clause-alone
returns-clause-alone c = means_or_fails_alone

pub returns-clause-faults : goal.returns-clause-faults
returns-clause-faults c = faults_are_two

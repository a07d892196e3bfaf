use Rattle.script_run.proofs.Crashes.{stops_reopen, stops_end_trials, disks_run_on}
use Rattle.script_run.proofs.laws.stops_leave_the_history.Goals as goal

pub returns-clause-reopened : goal.returns-clause-reopened
returns-clause-reopened c = stops_reopen

pub returns-clause-no_trial : goal.returns-clause-no_trial
returns-clause-no_trial c = stops_end_trials

pub returns-clause-running : goal.returns-clause-running
returns-clause-running c = disks_run_on

use Rattle.script_run.proofs.Crashes.{acknowledged_stay, shown_stay, doubts_are_settled}
use Rattle.script_run.proofs.laws.what_was_answered_stays.Goals as goal

pub returns-clause-acknowledged : goal.returns-clause-acknowledged
returns-clause-acknowledged c = acknowledged_stay

pub returns-clause-shown : goal.returns-clause-shown
returns-clause-shown c = shown_stay

pub returns-clause-settled : goal.returns-clause-settled
returns-clause-settled c = doubts_are_settled

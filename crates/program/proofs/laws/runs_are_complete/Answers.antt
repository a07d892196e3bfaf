use Rattle.program.proofs.GoodScripts.{good_scripts_complete}
use Rattle.program.proofs.WordLaws.{help_completes, version_completes, refusals_complete}
use Rattle.program.proofs.RunLaws.{checks_complete, scripts_complete, inits_complete, logs_complete}
use Rattle.program.proofs.laws.runs_are_complete.Goals as goal

pub returns-clause-checks : goal.returns-clause-checks
returns-clause-checks c = checks_complete

pub returns-clause-scripts : goal.returns-clause-scripts
returns-clause-scripts c = scripts_complete

pub returns-clause-inits : goal.returns-clause-inits
returns-clause-inits c = inits_complete

pub returns-clause-logs : goal.returns-clause-logs
returns-clause-logs c = logs_complete

pub returns-clause-help : goal.returns-clause-help
returns-clause-help c = help_completes

pub returns-clause-version : goal.returns-clause-version
returns-clause-version c = version_completes

pub returns-clause-refusals : goal.returns-clause-refusals
returns-clause-refusals c = refusals_complete

pub returns-clause-good_scripts : goal.returns-clause-good_scripts
returns-clause-good_scripts c = good_scripts_complete

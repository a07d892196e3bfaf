use Rattle.std.proofs.Common.{Err, ap}
use Rattle.script_run.proofs.run.script_line.Goals as goal

pub returns-in-Err-NoLine-clause-no_line : goal.returns-in-Err-NoLine-clause-no_line
returns-in-Err-NoLine-clause-no_line c = c.in-Err-NoLine.ensures.no_line (ap Err c.in-Err-NoLine.field-0-is)

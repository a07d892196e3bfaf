use Rattle.script_run.proofs.Endings.{endings_are_answered, expiries_stand}
use Rattle.script_run.proofs.laws.endings_are_answered.Goals as goal

pub returns-clause-endings : goal.returns-clause-endings
returns-clause-endings c = endings_are_answered

pub returns-clause-expiries : goal.returns-clause-expiries
returns-clause-expiries c = expiries_stand

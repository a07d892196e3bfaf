use Rattle.book_core.proofs.Reopening.{set_stages_are_runs, look_stages_are_runs, doubt_is_run}
use Rattle.book_core.proofs.laws.doubts_may_stand.Goals as goal

pub returns-clause-set : goal.returns-clause-set
returns-clause-set c = set_stages_are_runs

pub returns-clause-look : goal.returns-clause-look
returns-clause-look c = look_stages_are_runs

pub returns-clause-doubt : goal.returns-clause-doubt
returns-clause-doubt c = doubt_is_run

use Rattle.journal_format.proofs.Following.{judged_may_follow, expiry_may_follow, restart_may_follow, given_may_follow, journals_hold_legal}
use Rattle.journal_format.proofs.laws.made_entries_may_follow.Goals as goal

pub returns-clause-judged : goal.returns-clause-judged
returns-clause-judged c = judged_may_follow

pub returns-clause-expiry : goal.returns-clause-expiry
returns-clause-expiry c = expiry_may_follow

pub returns-clause-restart : goal.returns-clause-restart
returns-clause-restart c = restart_may_follow

pub returns-clause-given : goal.returns-clause-given
returns-clause-given c = given_may_follow

pub returns-clause-legal : goal.returns-clause-legal
returns-clause-legal c = journals_hold_legal

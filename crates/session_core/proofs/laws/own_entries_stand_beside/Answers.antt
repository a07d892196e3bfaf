use Rattle.session_core.proofs.FeederRuns.{beside_follow, own_stand_beside}
use Rattle.session_core.proofs.laws.own_entries_stand_beside.Goals as goal

pub returns-clause-follow : goal.returns-clause-follow
returns-clause-follow c = beside_follow

pub returns-clause-last : goal.returns-clause-last
returns-clause-last c = own_stand_beside

use Rattle.set_request.proofs.Standing.{rows_may_stand, keys_have_leaves_at}
use Rattle.set_request.proofs.Causing.{refusals_have_causes, under_texts}
use Rattle.set_request.proofs.laws.refusals_have_causes.Goals as goal

pub returns-clause-stand : goal.returns-clause-stand
returns-clause-stand c = rows_may_stand

pub returns-clause-keys : goal.returns-clause-keys
returns-clause-keys c = keys_have_leaves_at

pub returns-clause-causes : goal.returns-clause-causes
returns-clause-causes c = refusals_have_causes

pub returns-clause-texts : goal.returns-clause-texts
returns-clause-texts c = under_texts

use Rattle.std.proofs.Common.{sym, ◌∙◌}
use Rattle.disk_model.proofs.Calls.{fails_within_then}
use Rattle.commit_journal.proofs.Openings.{created_by, created_leaves}
use Rattle.commit_journal.proofs.ledger.Ledger.create.Goals as goal

pub returns-in-Ok-put-clause-created : goal.returns-in-Ok-put-clause-created
returns-in-Ok-put-clause-created g c = created_by _ _ _ _ _ _ c.in_ok-len.ensures.keeps c.in_ok-len.ensures.length c.if-branch-ne0.false (c.items.ensures ∙ c.in-Ok.ensures) c.in-Ok-put.ensures.ok

pub returns-in-Ok-put-clause-images : goal.returns-in-Ok-put-clause-images
returns-in-Ok-put-clause-images g c = created_leaves _ _ _ c.requires (returns-in-Ok-put-clause-created g c)

pub returns-in-Err-put-clause-failed_call : goal.returns-in-Err-put-clause-failed_call
returns-in-Err-put-clause-failed_call g c = λ is. fails_within_then 1 2 _ _ _ c.in_ok-len.ensures.call c.in-Err-put.ensures.calls

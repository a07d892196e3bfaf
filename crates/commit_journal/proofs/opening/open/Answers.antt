use Rattle.std.proofs.Common.{refl, ◌∙◌}
use Rattle.commit_journal.proofs.Openings.{opened_is, opened_leaves, found_damage}
use Rattle.commit_journal.proofs.opening.open.Goals as goal

pub invariant_of-ledger : goal.invariant_of-ledger
invariant_of-ledger g c = opened_is _ _ _ _ _ _ c.requires c.in-Ok.ensures.found c.in-Ok.ensures.gate (c.remembered.ensures ∙ c.items.ensures)

pub returns-in-Ok-clause-opens : goal.returns-in-Ok-clause-opens
returns-in-Ok-clause-opens g c = record {
  disk_is = refl;
  history_is = c.remembered.ensures ∙ c.items.ensures;
  no_doubt = refl;
  journal = c.in-Ok.ensures.found;
  images = opened_leaves _ _ _ _ c.requires c.in-Ok.ensures.found;
}

pub returns-in-Err-Damaged-clause-finds : goal.returns-in-Err-Damaged-clause-finds
returns-in-Err-Damaged-clause-finds g c =
    let here = c.in-Err-Damaged in
    found_damage _ _ _ _ _ here.field-0-is here.place-is here.ensures.every_journal here.ensures.every_damage

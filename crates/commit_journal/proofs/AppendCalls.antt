-- Calls of the disk of a ledger, counted from the ledger that its caller sees.
use Rattle.std.proofs.Common.{◌≡◌, ◌⊎◌, inl, inr, ℕ, ◌+◌, ◌<◌, ◌≤◌, Option, Some, None, subst, arith}
use Rattle.base_kinds.specs.declared.entry.Entry.{Entry}
use Rattle.disk_model.specs.Calls.{Fuse, CallsPassed, FailsWithin}
use Rattle.disk_model.proofs.Calls.{failed_then}
use Rattle.commit_journal.specs.Ledgers.{LedgerView, FailsAppending}

module _ {D : Type 0} (fuse : D → Fuse) {view was : LedgerView D} (view_is : view ≡ was) (entry : Entry) (doubt : Option Entry) where
  -- one of the two calls for the record failed
  pub fails_at_record : (new : Fuse) → doubt ≡ None → FailsWithin 2 (fuse view.disk) new → FailsAppending entry doubt (fuse was.disk) new
  fails_at_record new is fails = subst (λ (v : LedgerView D). FailsAppending entry doubt (fuse v.disk) new) view_is (record {
    call = fails.made;
    within = omega (arith, fails.within);
    failed = fails.failed;
    doubt_is = inl (fails.within, is);
  })

  -- those passed, and one of the two for the gate failed
  pub fails_at_gate : (mid new : Fuse) → doubt ≡ Some entry → CallsPassed 2 (fuse view.disk) mid → FailsWithin 2 mid new → FailsAppending entry doubt (fuse was.disk) new
  fails_at_gate mid new is first fails = subst (λ (v : LedgerView D). FailsAppending entry doubt (fuse v.disk) new) view_is (record {
    call = 2 + fails.made;
    within = omega (arith, fails.within);
    failed = failed_then 2 fails.made (fuse view.disk) mid new first fails.failed;
    doubt_is = inr (omega arith, is);
  })

-- How many calls of the disk an opening makes.
use Rattle.std.proofs.Common.{◌≡◌, ℕ, ◌+◌, ◌≤◌, List, length, Option, Some, None, IfSome, option_map, Result, Ok, Err, refl, sym, subst, arith}
use Rattle.environment.specs.declared.reading.ReadFault.{ReadFault}
use Rattle.environment.specs.declared.reading.ReadFault.TheVariants as faults
use Rattle.disk_model.specs.Arming.{Arming, arming_after_calls}
use Rattle.disk_model.specs.Calls.{Fuse, CallsPassed, FailsWithin, PassesWithin, WhereArmed}
use Rattle.disk_model.specs.Content.{Content, WhereTold, Tells}
use Rattle.disk_model.specs.Reading.{ReadingEnds, reads_of}
use Rattle.disk_model.proofs.Calls.{passed_then, fails_within_then, passes_within_then, passes_within}
use Rattle.commit_journal.specs.Openings.{OpensBy, opening_calls}
use Rattle.commit_journal.specs.inner.Openings.{OpensOn}
use Rattle.commit_journal.specs.declared.opening.Opening.{Opening}
use Rattle.commit_journal.specs.declared.opening.Opening.TheVariants.{Ready, Damaged, DiskFault, NoMemory}

armed_still : (old new : Option Arming) (X : Type 0) → new ≡ option_map (arming_after_calls 1) old → IfSome new (λ _. X) → IfSome old (λ _. X)
armed_still None new X is has = tt
armed_still (Some arming) new X is has = subst (λ o. IfSome o (λ _. X)) is has

-- a fact of a disk's length after a sync, which leaves what a read gives, is one of it before
after_sync : (old mid : Fuse) (was now : Option Content) (F G : ℕ → Type 0) → CallsPassed 1 old mid → WhereTold was now (λ o n. n.seen ≡ o.seen) → ((n : ℕ) → F n → G n) → WhereArmed mid now (λ c. F (length c.seen)) → WhereArmed old was (λ c. G (length c.seen))
after_sync old mid was now F G passed moved step has = by_arming old.arming (armed_still old.arming mid.arming (Tells now (λ c. F (length c.seen))) passed.arming has)
  where
    by_told : (was now : Option Content) → WhereTold was now (λ o n. n.seen ≡ o.seen) → Tells now (λ c. F (length c.seen)) → Tells was (λ c. G (length c.seen))
    by_told None now moved has = tt
    by_told (Some o) None moved has = absurd moved
    by_told (Some o) (Some n) moved has = step (length o.seen) (subst (λ s. F (length s)) moved has)

    by_arming : (o : Option Arming) → IfSome o (λ _. Tells now (λ c. F (length c.seen))) → IfSome o (λ _. Tells was (λ c. G (length c.seen)))
    by_arming None has = tt
    by_arming (Some arming) has = by_told was now moved has

opens_by : {D : Type 0} (told : D → Option Content) (fuse : D → Fuse) (disk read : D) (octets : List ℕ) (calls : ℕ) (opening : Opening D) → OpensOn told read octets opening → CallsPassed calls (fuse disk) (fuse read) → OpensBy calls fuse disk opening
opens_by told fuse disk read octets calls (Ready ledger entries) on passed = subst (λ d. CallsPassed calls (fuse disk) (fuse d)) (sym on.disk_is) passed
opens_by told fuse disk read octets calls (Damaged place left) on passed = subst (λ d. CallsPassed calls (fuse disk) (fuse d)) (sym on.0) passed
opens_by told fuse disk read octets calls (DiskFault left) on passed = absurd on
opens_by told fuse disk read octets calls (NoMemory left) on passed = subst (λ d. PassesWithin calls (fuse disk) (fuse d)) (sym on) (passes_within calls calls (fuse disk) (fuse read) (omega arith) passed)

one_more : (n : ℕ) → 1 + (1 + n) ≡ 2 + n
one_more n = omega arith

calls_are : (octets : ℕ) → 1 + (1 + reads_of octets) ≡ opening_calls octets
calls_are octets = one_more (reads_of octets)

module _ {D : Type 0} (fuse : D → Fuse) (told : D → Option Content) (disk mask_after_sync read : D) (passed : CallsPassed 1 (fuse disk) (fuse mask_after_sync)) (moved : WhereTold (told disk) (told mask_after_sync) (λ o n. n.seen ≡ o.seen)) where
  pub opened_by : (octets : List ℕ) (opening : Opening D) → OpensOn told read octets opening → WhereArmed (fuse mask_after_sync) (told mask_after_sync) (λ c. CallsPassed (1 + reads_of (length c.seen)) (fuse mask_after_sync) (fuse read)) → WhereArmed (fuse disk) (told disk) (λ c. OpensBy (opening_calls (length c.seen)) fuse disk opening)
  opened_by octets opening on has =
      after_sync (fuse disk) (fuse mask_after_sync) (told disk) (told mask_after_sync) (λ n. CallsPassed (1 + reads_of n) (fuse mask_after_sync) (fuse read)) (λ n. OpensBy (opening_calls n) fuse disk opening) passed moved
      (λ n reads. opens_by told fuse disk read octets (opening_calls n) opening on (subst (λ k. CallsPassed k (fuse disk) (fuse read)) (calls_are n) (passed_then 1 (1 + reads_of n) (fuse disk) (fuse mask_after_sync) (fuse read) passed reads))) has

  pub failed_by : (T : Type 0) (fault : ReadFault) → fault ≡ faults.Failed → WhereArmed (fuse mask_after_sync) (told mask_after_sync) (λ c. ReadingEnds {T = T} (1 + reads_of (length c.seen)) (fuse mask_after_sync) (fuse read) (Err fault)) → WhereArmed (fuse disk) (told disk) (λ c. FailsWithin (opening_calls (length c.seen)) (fuse disk) (fuse read))
  failed_by T fault is has =
      after_sync (fuse disk) (fuse mask_after_sync) (told disk) (told mask_after_sync) (λ n. ReadingEnds {T = T} (1 + reads_of n) (fuse mask_after_sync) (fuse read) (Err fault)) (λ n. FailsWithin (opening_calls n) (fuse disk) (fuse read)) passed moved
      (λ n reads. subst (λ k. FailsWithin k (fuse disk) (fuse read)) (calls_are n) (fails_within_then 1 (1 + reads_of n) (fuse disk) (fuse mask_after_sync) (fuse read) passed (subst (λ f. ReadingEnds {T = T} (1 + reads_of n) (fuse mask_after_sync) (fuse read) (Err f)) is reads))) has

  pub starved_by : (T : Type 0) (fault : ReadFault) → fault ≡ faults.NoMemory → WhereArmed (fuse mask_after_sync) (told mask_after_sync) (λ c. ReadingEnds {T = T} (1 + reads_of (length c.seen)) (fuse mask_after_sync) (fuse read) (Err fault)) → WhereArmed (fuse disk) (told disk) (λ c. PassesWithin (opening_calls (length c.seen)) (fuse disk) (fuse read))
  starved_by T fault is has =
      after_sync (fuse disk) (fuse mask_after_sync) (told disk) (told mask_after_sync) (λ n. ReadingEnds {T = T} (1 + reads_of n) (fuse mask_after_sync) (fuse read) (Err fault)) (λ n. PassesWithin (opening_calls n) (fuse disk) (fuse read)) passed moved
      (λ n reads. subst (λ k. PassesWithin k (fuse disk) (fuse read)) (calls_are n) (passes_within_then 1 (1 + reads_of n) (fuse disk) (fuse mask_after_sync) (fuse read) passed (subst (λ f. ReadingEnds {T = T} (1 + reads_of n) (fuse mask_after_sync) (fuse read) (Err f)) is reads))) has

-- How many calls of the disk a call of a book makes, part by part.
use Rattle.std.proofs.Common.{◌≡◌, ◌≢◌, inl, inr, ℕ, ◌+◌, List, Option, Some, None, Result, Ok, Err, refl, sym, ap, subst, arith}
use Rattle.base_kinds.specs.declared.entry.Entry.{Entry}
use Rattle.base_kinds.specs.declared.refusal.Refusal.{Refusal}
use Rattle.base_kinds.specs.declared.refusal.Refusal.TheVariants as refusals
use Rattle.base_kinds.specs.Step.{after_expiry}
use Rattle.disk_model.specs.Calls.{Fuse, CallsPassed, CallsFailed, FailsWithin}
use Rattle.disk_model.proofs.Calls.{passed_none, passed_then, failed_then, passes_within}
use Rattle.commit_journal.specs.Ledgers.{FailsAppending}
use Rattle.book_core.specs.Calls.{CallsFor, FailsBehind, FailsAtEntry, repair_calls, append_calls, expiry_entry, expiry_calls, calls_before}
use Rattle.book_core.specs.inner.Parts.{CallsOfPart}
use Rattle.book_core.specs.Views.{BookView, history_in}

-- any other refusal than that of the disk: no call
pub none_made : (T : Type 0) (appended : Option Entry) (h left : List Entry) (doubt : Option Entry) (fuse : Fuse) (refusal : Refusal) → refusal ≢ refusals.DiskFault → CallsOfPart {T = T} appended h left doubt fuse fuse (Err refusal)
none_made T appended h left doubt fuse refusals.DiskFault other = absurd (other refl)
none_made T appended h left doubt fuse refusal other = passed_none fuse

pub none_made_by : {T : Type 0} (appended : Option Entry) (h left : List Entry) (doubt : Option Entry) (fuse : Fuse) (result : Result T Refusal) (refusal : Refusal) → result ≡ Err refusal → refusal ≢ refusals.DiskFault → CallsOfPart appended h left doubt fuse fuse result
none_made_by {T} appended h left doubt fuse result refusal is other = subst (λ (r : Result T Refusal). CallsOfPart appended h left doubt fuse fuse r) (sym is) (none_made T appended h left doubt fuse refusal other)

-- no call, and a call that may make none
pub none_for : (T : Type 0) (doubt : Option Entry) (h : List Entry) (now : ℕ) (asked : Option Entry) (left : List Entry) (doubt_left : Option Entry) (fuse : Fuse) → CallsFor {T = T} doubt h now asked left doubt_left fuse fuse (Err refusals.NoMemory)
none_for T doubt h now asked left doubt_left fuse = passes_within 0 (calls_before doubt h now) fuse fuse (omega arith) (passed_none fuse)

-- ---- an append that fails

failed_from_none : (call : ℕ) (old new : Fuse) → CallsFailed call old new → CallsFailed (0 + call) old new
failed_from_none call old new failed = let same : call ≡ 0 + call = omega arith in subst (λ n. CallsFailed n old new) same failed

-- it is the first that is done
pub behind_none : (entry : Entry) (doubt : Option Entry) (old new : Fuse) → FailsAppending entry doubt old new → FailsBehind 0 4 old new
behind_none entry doubt old new fails = record { call = fails.call; within = fails.within; failed = failed_from_none fails.call old new fails.failed }

pub fails_first : (entry : Entry) (appended : Option Entry) (h left : List Entry) (doubt : Option Entry) (old new : Fuse) → appended ≡ Some entry → left ≡ h → FailsAppending entry doubt old new → FailsAtEntry 0 appended h left doubt old new
unfolding behind_none
fails_first entry appended h left doubt old new is same fails = record {
  entry = entry;
  appended_is = is;
  behind = behind_none entry doubt old new fails;
  left_is = same;
  doubt_is = fails.doubt_is;
}

-- it comes behind calls that passed
pub fails_behind : (before calls : ℕ) (old mid new : Fuse) → CallsPassed before old mid → FailsBehind 0 calls mid new → FailsBehind before calls old new
fails_behind before calls old mid new first fails = let same : 0 + fails.call ≡ fails.call = omega arith in record {
  call = fails.call;
  within = fails.within;
  failed = failed_then before fails.call old mid new first (subst (λ n. CallsFailed n mid new) same fails.failed);
}

pub entry_behind : (before : ℕ) (appended : Option Entry) (h left : List Entry) (doubt : Option Entry) (old mid new : Fuse) → CallsPassed before old mid → FailsAtEntry 0 appended h left doubt mid new → FailsAtEntry before appended h left doubt old new
unfolding fails_behind
entry_behind before appended h left doubt old mid new first fails = record {
  entry = fails.entry;
  appended_is = fails.appended_is;
  behind = fails_behind before 4 old mid new first fails.behind;
  left_is = fails.left_is;
  doubt_is = fails.doubt_is;
}

-- ---- the parts of a call

module _ (doubt : Option Entry) (h : List Entry) (now : ℕ) (asked : Option Entry) (left : List Entry) (doubt_left : Option Entry) where
  -- a repair that fails
  pub repair_failed : (T : Type 0) (old new : Fuse) → FailsWithin (repair_calls doubt) old new → left ≡ h → doubt_left ≡ doubt → CallsFor {T = T} doubt h now asked left doubt_left old new (Err refusals.DiskFault)
  repair_failed T old new failed same kept = inl (record { failed = failed; left_is = same; doubt_is = kept })

  -- what is asked, behind the repair and the event of the clock
  pub asked_then : {T : Type 0} (old mid new : Fuse) (result : Result T Refusal) → CallsPassed (calls_before doubt h now) old mid → CallsOfPart asked (after_expiry h now) left doubt_left mid new result → CallsFor doubt h now asked left doubt_left old new result
  asked_then old mid new (Ok value) first second = passed_then (calls_before doubt h now) (append_calls asked) old mid new first second
  asked_then old mid new (Err refusals.DiskFault) first second = inr (inr (entry_behind (calls_before doubt h now) asked (after_expiry h now) left doubt_left old mid new first second))
  asked_then old mid new (Err refusals.NoMemory) first second =
      let before : ℕ = calls_before doubt h now in
      let same : before + 0 ≡ before = omega arith in
      passes_within before before old new (omega arith) (subst (λ n. CallsPassed n old new) same (passed_then before 0 old mid new first second))
  asked_then old mid new (Err refusal) first second =
      let before : ℕ = calls_before doubt h now in
      let same : before + 0 ≡ before = omega arith in
      subst (λ n. CallsPassed n old new) same (passed_then before 0 old mid new first second)

  pub looked_starved : (T : Type 0) (old new : Fuse) → CallsPassed (calls_before doubt h now) old new → CallsFor {T = T} doubt h now asked left doubt_left old new (Err refusals.NoMemory)
  looked_starved T old new passed = passes_within (calls_before doubt h now) (calls_before doubt h now) old new (omega arith) passed

-- a look makes no call of its own
pub looked : (before : ℕ) (old new : Fuse) → CallsPassed before old new → CallsPassed (before + 0) old new
looked before old new passed = let same : before ≡ before + 0 = omega arith in subst (λ n. CallsPassed n old new) same passed

-- the parts of a call, in the words of the book as it was found
module _ {D : Type 0} (fuse : D → Fuse) (start mid : BookView D) (now : ℕ) (is : mid ≡ record start { disk = mid.disk; doubt = None }) (settled : CallsPassed (repair_calls start.doubt) (fuse start.disk) (fuse mid.disk)) where
  same_history : history_in mid ≡ history_in start
  same_history = ap (λ (b : BookView D). history_in b) is

  pub expiry_fails : (S T : Type 0) (asked : Option Entry) (left : List Entry) (doubt_left : Option Entry) (new : Fuse) (refusal : Refusal) → refusal ≡ refusals.DiskFault → CallsOfPart {T = S} (expiry_entry (history_in mid) now) (history_in mid) left doubt_left (fuse mid.disk) new (Err refusal)
      → CallsFor {T = T} start.doubt (history_in start) now asked left doubt_left (fuse start.disk) new (Err refusals.DiskFault)
  expiry_fails S T asked left doubt_left new refusal failed made =
      inr (inl (entry_behind (repair_calls start.doubt) (expiry_entry (history_in start) now) (history_in start) left doubt_left (fuse start.disk) (fuse mid.disk) new settled
      (subst (λ h. FailsAtEntry 0 (expiry_entry h now) h left doubt_left (fuse mid.disk) new) same_history
      (subst (λ (r : Refusal). CallsOfPart {T = S} (expiry_entry (history_in mid) now) (history_in mid) left doubt_left (fuse mid.disk) new (Err r)) failed made))))

  pub before_asked : (new : Fuse) → CallsPassed (expiry_calls (history_in mid) now) (fuse mid.disk) new → CallsPassed (calls_before start.doubt (history_in start) now) (fuse start.disk) new
  before_asked new made =
      passed_then (repair_calls start.doubt) (expiry_calls (history_in start) now) (fuse start.disk) (fuse mid.disk) new settled (subst (λ h. CallsPassed (expiry_calls h now) (fuse mid.disk) new) same_history made)

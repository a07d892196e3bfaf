-- Stretches of calls behind one another.
use Rattle.std.proofs.Common.{◌≡◌, ℕ, zero, suc, ◌+◌, ◌<◌, ◌≤◌, Bool, true, Option, Some, None, option_map, IfSome, refl, sym, ap, subst, ◌∙◌, arith}
use Rattle.disk_model.specs.Arming.{Arming, AllPass, outcome_of, arming_after, arming_after_calls}
use Rattle.disk_model.specs.Calls.{Fuse, CallsPassed, CallFailed, CallsFailed, FailsWithin, PassesWithin}
use Rattle.disk_model.specs.declared.outcome.Outcome.TheVariants.{Passes}

after_add : (n m : ℕ) (arming : Arming) → arming_after_calls (n + m) arming ≡ arming_after_calls m (arming_after_calls n arming)
after_add zero m arming = let e : 0 + m ≡ m = omega arith in ap (λ k. arming_after_calls k arming) e
after_add (suc n) m arming =
    let e : suc n + m ≡ suc (n + m) = omega arith in
    ap (λ k. arming_after_calls k arming) e ∙ after_add n m (arming_after arming)

all_pass_add : (n m : ℕ) (arming : Arming) → AllPass n arming → AllPass m (arming_after_calls n arming) → AllPass (n + m) arming
all_pass_add zero m arming first second = let e : m ≡ 0 + m = omega arith in subst (λ k. AllPass k arming) e second
all_pass_add (suc n) m arming first second =
    let e : suc (n + m) ≡ suc n + m = omega arith in
    subst (λ k. AllPass k arming) e (first.0, all_pass_add n m (arming_after arming) first.1 second)

after_then : (n m : ℕ) (old mid new : Option Arming) → mid ≡ option_map (arming_after_calls n) old → new ≡ option_map (arming_after_calls m) mid → new ≡ option_map (arming_after_calls (n + m)) old
after_then n m None mid new first second = second ∙ ap (λ o. option_map (arming_after_calls m) o) first
after_then n m (Some arming) mid new first second = second ∙ ap (λ o. option_map (arming_after_calls m) o) first ∙ ap (λ a. Some a) (sym (after_add n m arming))

pass_then : (n m : ℕ) (old mid : Option Arming) → mid ≡ option_map (arming_after_calls n) old → IfSome old (AllPass n) → IfSome mid (AllPass m) → IfSome old (AllPass (n + m))
pass_then n m None mid is first second = tt
pass_then n m (Some arming) mid is first second = all_pass_add n m arming first (subst (λ o. IfSome o (AllPass m)) is second)

all_pass : (old : Option Arming) → IfSome old (AllPass 0)
all_pass None = tt
all_pass (Some arming) = tt

same_after : (old : Option Arming) → old ≡ option_map (arming_after_calls 0) old
same_after None = refl
same_after (Some arming) = refl

-- no call was made
pub passed_none : (fuse : Fuse) → CallsPassed 0 fuse fuse
passed_none fuse = record { arming = same_after fuse.arming; passed = all_pass fuse.arming; fed = refl }

pub passed_then : (n m : ℕ) (old mid new : Fuse) → CallsPassed n old mid → CallsPassed m mid new → CallsPassed (n + m) old new
passed_then n m old mid new first second = record {
  arming = after_then n m old.arming mid.arming new.arming first.arming second.arming;
  passed = pass_then n m old.arming mid.arming first.arming first.passed second.passed;
  fed = second.fed ∙ first.fed;
}

pub failed_then : (n m : ℕ) (old mid new : Fuse) → CallsPassed n old mid → CallsFailed m mid new → CallsFailed (n + m) old new
failed_then n m old mid new first second = record {
  last = second.last;
  passed = passed_then n m old mid second.last first second.passed;
  failed = second.failed;
}

-- the call behind these failed
pub failed_next : (n : ℕ) (old mid new : Fuse) → CallsPassed n old mid → CallFailed mid new → CallsFailed n old new
failed_next n old mid new first failed = record { last = mid; passed = first; failed = failed }

pub fails_within_then : (n m : ℕ) (old mid new : Fuse) → CallsPassed n old mid → FailsWithin m mid new → FailsWithin (n + m) old new
fails_within_then n m old mid new first second = record {
  made = n + second.made;
  within = omega (arith, second.within);
  failed = failed_then n second.made old mid new first second.failed;
}

pub fails_within_more : (n m : ℕ) (old new : Fuse) → n ≤ m → FailsWithin n old new → FailsWithin m old new
fails_within_more n m old new more fails = record { made = fails.made; within = omega (arith, more, fails.within); failed = fails.failed }

-- one call, and it failed
pub fails_within_one : (old new : Fuse) → CallFailed old new → FailsWithin 1 old new
fails_within_one old new failed = record { made = 0; within = omega arith; failed = failed_next 0 old old new (passed_none old) failed }

pub passes_within_then : (n m : ℕ) (old mid new : Fuse) → CallsPassed n old mid → PassesWithin m mid new → PassesWithin (n + m) old new
passes_within_then n m old mid new first second = record {
  made = n + second.made;
  within = omega (arith, second.within);
  passed = passed_then n second.made old mid new first second.passed;
}

pub passes_within : (n m : ℕ) (old new : Fuse) → n ≤ m → CallsPassed n old new → PassesWithin m old new
passes_within n m old new within passed = record { made = n; within = within; passed = passed }

-- What a turn leaves, by the calls of the disk that pass and the first that fails.
use Rattle.std.proofs.Common.{◌≡◌, ◌≢◌, ℕ, zero, suc, ◌+◌, ◌<◌, nat_lt, List, [], ◌∷◌, ◌++◌, Bool, true, false, Option, Some, None, option_map, IfSome, refl, sym, ap, ◌∙◌, subst, inl, inr, arith, if◌then◌else◌}
use Rattle.std.proofs.lemmas.Bool.Decides.{nat_tests}
use Rattle.base_kinds.specs.declared.entry.Entry.{Entry}
use Rattle.base_kinds.specs.declared.entry.Kind.TheVariants as kinds
use Rattle.base_kinds.specs.Step.{is_due, after_expiry, next_entry, new_stamp}
use Rattle.disk_model.specs.Arming.{Arming, AllPass, unarmed, outcome_of, arming_after, arming_after_calls}
use Rattle.disk_model.specs.Calls.{Fuse, CallsPassed, CallsFailed}
use Rattle.disk_model.specs.declared.outcome.Outcome.{Outcome}
use Rattle.disk_model.specs.declared.outcome.Outcome.TheVariants.{Passes, Fails, Stops}
use Rattle.commit_journal.specs.Ledgers.{IsDoubtAt}
use Rattle.book_core.specs.Calls.{FailsInTurn, repair_calls, append_calls, expiry_entry, expiry_calls, calls_before}
use Rattle.script_run.specs.Turns.{BookState, failed_first, failed_call, settled_by, settled, doubt_at, entered_by, entered, turn}

-- ---- calls that pass, and the first that fails

pub none_fails : (calls : ℕ) (arming : Arming) → AllPass calls arming → failed_call calls arming ≡ None
none_fails zero arming pass = refl
none_fails (suc calls) arming pass =
    ap (λ outcome. failed_first outcome (failed_call calls (arming_after arming))) pass.0
    ∙ ap (λ later. option_map (λ call. suc call) later) (none_fails calls (arming_after arming) pass.1)

first_fails : (outcome : Outcome) (later : Option ℕ) → outcome ≢ Passes → failed_first outcome later ≡ Some 0
first_fails Passes later other = absurd (other refl)
first_fails Fails later other = refl
first_fails (Stops fill) later other = refl

pub this_fails : (calls call : ℕ) (arming : Arming) → call < calls → AllPass call arming → outcome_of (arming_after_calls call arming) ≢ Passes → failed_call calls arming ≡ Some call
this_fails zero call arming within pass other = absurd (omega (arith, within))
this_fails (suc calls) zero arming within pass other = first_fails (outcome_of arming) (failed_call calls (arming_after arming)) other
this_fails (suc calls) (suc call) arming within pass other =
    ap (λ outcome. failed_first outcome (failed_call calls (arming_after arming))) pass.0
    ∙ ap (λ later. option_map (λ n. suc n) later) (this_fails calls call (arming_after arming) (omega (arith, within)) pass.1 other)

after_both : (n m : ℕ) (arming : Arming) → arming_after_calls (n + m) arming ≡ arming_after_calls m (arming_after_calls n arming)
after_both zero m arming = let e : 0 + m ≡ m = omega arith in ap (λ k. arming_after_calls k arming) e
after_both (suc n) m arming =
    let e : suc n + m ≡ suc (n + m) = omega arith in
    ap (λ k. arming_after_calls k arming) e ∙ after_both n m (arming_after arming)

pass_both : (n m : ℕ) (arming : Arming) → AllPass (n + m) arming → AllPass n arming × AllPass m (arming_after_calls n arming)
pass_both zero m arming pass = let e : 0 + m ≡ m = omega arith in (tt, subst (λ k. AllPass k arming) e pass)
pass_both (suc n) m arming pass =
    let e : suc n + m ≡ suc (n + m) = omega arith in
    let here : AllPass (suc (n + m)) arming = subst (λ k. AllPass k arming) e pass in
    let rest = pass_both n m (arming_after arming) here.1 in
    ((here.0, rest.0), rest.1)

-- ---- on a disk that is armed, and not starved then

abbrev pub fuse : Arming → Bool → Fuse
fuse arming starved = record { arming = Some arming; starved = starved }

pub record Passed (calls : ℕ) (old new : Arming) : Type 0 where
  pub pass : AllPass calls old
  pub left : new ≡ arming_after_calls calls old

some_inj : {T : Type 0} (x y : T) → Some x ≡ Some y → x ≡ y
some_inj x y is = cc is

pub passed_of : (calls : ℕ) (old new : Arming) (before after : Bool) → CallsPassed calls (fuse old before) (fuse new after) → Passed calls old new
passed_of calls old new before after calls_passed = record { pass = calls_passed.passed; left = some_inj new (arming_after_calls calls old) calls_passed.arming }

-- the call behind so many fails
pub record Failed (call : ℕ) (old new : Arming) : Type 0 where
  pub pass : AllPass call old
  pub fails : outcome_of (arming_after_calls call old) ≢ Passes
  pub left : new ≡ arming_after_calls (suc call) old

one_more : (n : ℕ) (arming : Arming) → arming_after (arming_after_calls n arming) ≡ arming_after_calls (suc n) arming
one_more zero arming = refl
one_more (suc n) arming = one_more n (arming_after arming)

pub not_both : (b : Bool) → b ≡ true → b ≡ false → ⊥
not_both true is not = cc not
not_both false is not = cc is

pub failed_of : (call : ℕ) (old new : Arming) (before after : Bool) → after ≡ false → CallsFailed call (fuse old before) (fuse new after) → Failed call old new
failed_of call old new before after fed failed =
    let at : failed.last.arming ≡ Some (arming_after_calls call old) = failed.passed.arming in
    let cause : outcome_of (arming_after_calls call old) ≡ Passes → after ≡ true = subst (λ (o : Option Arming). IfSome o (λ arming. outcome_of arming ≡ Passes → after ≡ true)) at failed.failed.cause in
    record {
      pass = failed.passed.passed;
      fails = λ passes. not_both after (cause passes) fed;
      left = some_inj new (arming_after (arming_after_calls call old)) (failed.failed.arming ∙ ap (λ o. option_map arming_after o) at) ∙ one_more call old;
    }

-- ---- the parts of a turn

abbrev pub book : List Entry → Option Entry → Arming → Bool → BookState
book h doubt arming failed = record { history = h; doubt = doubt; arming = arming; failed = failed }

-- the history with the entry, where there is one
abbrev pub with_entry : List Entry → Option Entry → List Entry
with_entry h None = h
with_entry h (Some entry) = h ++ entry ∷ []

settles : (h : List Entry) (doubt : Option Entry) (arming : Arming) → AllPass (repair_calls doubt) arming → settled (book h doubt arming false) ≡ book h None (arming_after_calls (repair_calls doubt) arming) false
settles h doubt arming pass = ap (λ call. settled_by call (book h doubt arming false)) (none_fails (repair_calls doubt) arming pass)

enters : (h : List Entry) (asked : Option Entry) (arming : Arming) → AllPass (append_calls asked) arming → entered asked (book h None arming false) ≡ book (with_entry h asked) None (arming_after_calls (append_calls asked) arming) false
enters h None arming pass = refl
enters h (Some entry) arming pass = ap (λ call. entered_by call entry (book h None arming false)) (none_fails 4 arming pass)

-- behind a call that failed nothing is done
ended : (asked : Option Entry) (h : List Entry) (doubt : Option Entry) (arming : Arming) → entered asked (book h doubt arming true) ≡ book h doubt arming true
ended None h doubt arming = refl
ended (Some entry) h doubt arming = refl

pub expiry_is : (h : List Entry) (now : ℕ) → with_entry h (expiry_entry h now) ≡ after_expiry h now
expiry_is h now = by (is_due h now)
  where
    by : (due : Bool) → with_entry h (if due then Some (next_entry h (new_stamp h now) 0 kinds.Expire) else None) ≡ (if due then h ++ next_entry h (new_stamp h now) 0 kinds.Expire ∷ [] else h)
    by true = refl
    by false = refl

-- behind the repair and the event of the clock
before_asked : (h : List Entry) (doubt : Option Entry) (now : ℕ) (old : Arming) → AllPass (calls_before doubt h now) old → entered (expiry_entry h now) (settled (book h doubt old false)) ≡ book (after_expiry h now) None (arming_after_calls (calls_before doubt h now) old) false
before_asked h doubt now old pass =
    let parts = pass_both (repair_calls doubt) (expiry_calls h now) old pass in
    let mid : Arming = arming_after_calls (repair_calls doubt) old in
    ap (λ b. entered (expiry_entry h now) b) (settles h doubt old parts.0)
    ∙ enters h (expiry_entry h now) mid parts.1
    ∙ ap (λ left. book left None (arming_after_calls (expiry_calls h now) mid) false) (expiry_is h now)
    ∙ ap (λ arming. book (after_expiry h now) None arming false) (sym (after_both (repair_calls doubt) (expiry_calls h now) old))

-- ---- whole turns

pub passes : (h : List Entry) (doubt : Option Entry) (now : ℕ) (asked : Option Entry) (old new : Arming) → Passed (calls_before doubt h now + append_calls asked) old new → turn now asked (book h doubt old false) ≡ book (with_entry (after_expiry h now) asked) None new false
unfolding turn
passes h doubt now asked old new passed =
    let before : ℕ = calls_before doubt h now in
    let parts = pass_both before (append_calls asked) old passed.pass in
    let mid : Arming = arming_after_calls before old in
    ap (λ b. entered asked b) (before_asked h doubt now old parts.0)
    ∙ enters (after_expiry h now) asked mid parts.1
    ∙ ap (λ arming. book (with_entry (after_expiry h now) asked) None arming false) (sym (after_both before (append_calls asked) old) ∙ sym passed.left)

fails_settling : (h : List Entry) (doubt : Option Entry) (old new : Arming) (call : ℕ) → call < repair_calls doubt → Failed call old new → settled (book h doubt old false) ≡ book h doubt new true
fails_settling h doubt old new call within failed =
    ap (λ first. settled_by first (book h doubt old false)) (this_fails (repair_calls doubt) call old within failed.pass failed.fails)
    ∙ ap (λ arming. book h doubt arming true) (sym failed.left)

doubt_is : (call : ℕ) (entry : Entry) (doubt : Option Entry) → IsDoubtAt call entry doubt → doubt_at call entry ≡ doubt
doubt_is call entry doubt (inl is) = let first : nat_lt call 2 ≡ true = grind (arith, nat_tests, is.0) in ap (λ b. if b then None else Some entry) first ∙ sym is.1
doubt_is call entry doubt (inr is) = let last : nat_lt call 2 ≡ false = grind (arith, nat_tests, is.0) in ap (λ b. if b then None else Some entry) last ∙ sym is.1

fails_entering : (h : List Entry) (entry : Entry) (doubt : Option Entry) (old new : Arming) (call : ℕ) → call < 4 → Failed call old new → IsDoubtAt call entry doubt → entered (Some entry) (book h None old false) ≡ book h doubt new true
fails_entering h entry doubt old new call within failed is =
    ap (λ first. entered_by first entry (book h None old false)) (this_fails 4 call old within failed.pass failed.fails)
    ∙ ap (λ left. book h left (arming_after_calls (suc call) old) true) (doubt_is call entry doubt is)
    ∙ ap (λ arming. book h doubt arming true) (sym failed.left)

-- the calls before those that one fails behind
behind : (before call : ℕ) (old new : Arming) → Failed (before + call) old new → AllPass before old × Failed call (arming_after_calls before old) new
behind before call old new failed =
    let parts = pass_both before call old failed.pass in
    let e : suc (before + call) ≡ before + suc call = omega arith in (
      parts.0,
      record {
        pass = parts.1;
        fails = λ passes. failed.fails (ap outcome_of (after_both before call old) ∙ passes);
        left = failed.left ∙ ap (λ n. arming_after_calls n old) e ∙ after_both before (suc call) old;
      },
    )

pub fails : (h : List Entry) (doubt : Option Entry) (now : ℕ) (asked : Option Entry) (left : List Entry) (doubt_left : Option Entry) (old new : Arming) (before after : Bool) → after ≡ false → FailsInTurn doubt h now asked left doubt_left (fuse old before) (fuse new after) → turn now asked (book h doubt old false) ≡ book left doubt_left new true
unfolding turn
fails h doubt now asked left doubt_left old new before after fed (inl repair) =
    let failed = failed_of repair.failed.made old new before after fed repair.failed.failed in
    ap (λ b. entered asked (entered (expiry_entry h now) b)) (fails_settling h doubt old new repair.failed.made repair.failed.within failed)
    ∙ ap (λ b. entered asked b) (ended (expiry_entry h now) h doubt new)
    ∙ ended asked h doubt new
    ∙ ap (λ l. book l doubt new true) (sym repair.left_is)
    ∙ ap (λ d. book left d new true) (sym repair.doubt_is)
fails h doubt now asked left doubt_left old new before after fed (inr (inl expiry)) =
    let failed = failed_of (repair_calls doubt + expiry.behind.call) old new before after fed expiry.behind.failed in
    let parts = behind (repair_calls doubt) expiry.behind.call old new failed in
    let mid : Arming = arming_after_calls (repair_calls doubt) old in
    ap (λ b. entered asked (entered (expiry_entry h now) b)) (settles h doubt old parts.0)
    ∙ ap (λ e. entered asked (entered e (book h None mid false))) expiry.appended_is
    ∙ ap (λ b. entered asked b) (fails_entering h expiry.entry doubt_left mid new expiry.behind.call expiry.behind.within parts.1 expiry.doubt_is)
    ∙ ended asked h doubt_left new
    ∙ ap (λ l. book l doubt_left new true) (sym expiry.left_is)
fails h doubt now asked left doubt_left old new before after fed (inr (inr entry)) =
    let first : ℕ = calls_before doubt h now in
    let failed = failed_of (first + entry.behind.call) old new before after fed entry.behind.failed in
    let parts = behind first entry.behind.call old new failed in
    let mid : Arming = arming_after_calls first old in
    ap (λ b. entered asked b) (before_asked h doubt now old parts.0)
    ∙ ap (λ e. entered e (book (after_expiry h now) None mid false)) entry.appended_is
    ∙ fails_entering (after_expiry h now) entry.entry doubt_left mid new entry.behind.call entry.behind.within parts.1 entry.doubt_is
    ∙ ap (λ l. book l doubt_left new true) (sym entry.left_is)

-- ---- a disk for which nothing waits

pub stays_unarmed : (calls : ℕ) → arming_after_calls calls unarmed ≡ unarmed
stays_unarmed zero = refl
stays_unarmed (suc calls) = stays_unarmed calls

pub all_pass_unarmed : (calls : ℕ) → AllPass calls unarmed
all_pass_unarmed zero = tt
all_pass_unarmed (suc calls) = (refl, all_pass_unarmed calls)

pub unarmed_turn : (h : List Entry) (now : ℕ) (asked : Option Entry) → turn now asked (book h None unarmed false) ≡ book (with_entry (after_expiry h now) asked) None unarmed false
unarmed_turn h now asked =
    let calls : ℕ = calls_before None h now + append_calls asked in
    passes h None now asked unarmed unarmed (record { pass = all_pass_unarmed calls; left = sym (stays_unarmed calls) })

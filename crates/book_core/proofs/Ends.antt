-- The event of the clock and the answer to an ask, over the parts of a book.
use Rattle.std.proofs.Common.{◌≡◌, ◌≢◌, ◌⊎◌, inl, inr, ℕ, ◌+◌, ◌≤◌, List, [], ◌∷◌, ◌++◌, Bool, true, false, Option, Some, None, Result, Ok, Err, IsErrOf, IsTrue, ◌↔◌, true≢false, refl, sym, ap, ◌∙◌, subst, arith}
use Rattle.base_kinds.specs.declared.entry.Entry.{Entry}
use Rattle.base_kinds.specs.declared.entry.Ask.{Ask}
use Rattle.base_kinds.specs.declared.entry.Ask.TheVariants as asks
use Rattle.base_kinds.specs.declared.entry.Kind.TheVariants as kinds
use Rattle.base_kinds.specs.declared.refusal.Refusal.{Refusal}
use Rattle.base_kinds.specs.declared.refusal.Refusal.TheVariants as refusals
use Rattle.base_kinds.specs.Legal.{Gives}
use Rattle.base_kinds.specs.Records.{record_octets}
use Rattle.base_kinds.specs.Rules.{rules_of}
use Rattle.base_kinds.specs.Step.{is_due, after_expiry, step, judge, next_entry, new_stamp, kind_of_ask, with_answer}
use Rattle.disk_model.specs.Content.{Content}
use Rattle.commit_journal.specs.Images.{IsJournalOr, IsJournalOfAny}
use Rattle.commit_journal.specs.Ledgers.{LedgerView}
use Rattle.disk_model.specs.Moments.{LeavesOnly}
use Rattle.disk_model.proofs.Moving.{leaves_weaker, leaves_then}
use Rattle.history_laws.proofs.Given.{expiry_is_given, quiet_after_clock}
use Rattle.history_laws.proofs.Judged.{asked, accepted_is_next}
use Rattle.book_port.specs.declared.happening.Happening.{Happening}
use Rattle.book_port.specs.declared.happening.Happening.TheVariants.{Entered}
use Rattle.book_core.specs.inner.Books.{IsBook}
use Rattle.book_port.specs.Chronicles.{history_of, IsBy}
use Rattle.book_port.specs.Opened.{Opened, rules_in}
use Rattle.book_port.proofs.Answering.{quiet_expiry, expires_once, step_again, set_behind}
use Rattle.commit_core.specs.CoreView.{CoreView, EndsTrial}
use Rattle.book_core.specs.Moments.{IsAttempted, GoesThrough}
use Rattle.book_port.specs.Answers.{look_stages, set_stages, AnswersSet}
use Rattle.disk_model.specs.Calls.{Fuse}
use Rattle.book_core.specs.Calls.{append_calls, expiry_entry, expiry_calls, answer_entry}
use Rattle.book_core.specs.inner.Parts.{CallsOfPart}
use Rattle.book_core.specs.Views.{BookView, history_in}
use Rattle.book_core.proofs.Answering.{with_entry, accepted_now, attempted_behind, last_again}
use Rattle.book_core.proofs.Exits.{history_entered}
use Rattle.book_core.proofs.Passing.{append_through, append_through_last, look_in_set, behind_in_set, behind_repair}

-- a ledger that has memory enough fails for its disk alone
pub only_fault : (refusal : Refusal) → (refusal ≡ refusals.DiskFault) ⊎ (refusal ≡ refusals.NoMemory) → (IsErrOf (let r : Result (Unit {0}) Refusal = Err refusal in r) refusals.NoMemory → ⊥) → refusal ≡ refusals.DiskFault
only_fault refusal (inl is) never = is
only_fault refusal (inr is) never = absurd (never (ap Err is))

module _ {D : Type 0} (told : D → Option Content) (faults : D → ℕ) (opened : Opened) (chronicle : List Happening) (core : CoreView) (ledger : LedgerView D) (marks : ℕ) (kept : IsBook told faults opened chronicle core ledger marks) where
  pub rules_are : rules_of core.schema core.limits ≡ rules_in opened
  rules_are = λ i. rules_of (kept.schema_is i) (kept.limits_are i)

  entries_are : core.entries ≡ history_of chronicle
  entries_are = kept.entries_are

  -- ---- the event of the clock

  module _ (now : ℕ) (entry : Entry) (due : is_due core.entries now ≡ true) (entry_is : entry ≡ next_entry core.entries (new_stamp core.entries now) 0 kinds.Expire) where
    due_here : is_due (history_of chronicle) now ≡ true
    due_here = subst (λ h. is_due h now ≡ true) entries_are due

    here : entry ≡ next_entry (history_of chronicle) (new_stamp (history_of chronicle) now) 0 kinds.Expire
    here = entry_is ∙ ap (λ h. next_entry h (new_stamp h now) 0 kinds.Expire) entries_are

    pub expiry_given : Gives (rules_in opened) (history_of chronicle) entry
    expiry_given = subst (Gives (rules_in opened) (history_of chronicle)) (sym here) (expiry_is_given (rules_in opened) (history_of chronicle) now due_here)

    pub clock_here : after_expiry (history_of chronicle) now ≡ history_of chronicle ++ entry ∷ []
    clock_here = rw due_here (ap (λ e. history_of chronicle ++ e ∷ []) (sym here))

    pub expiry_by : (author : ℕ) → IsBy author entry
    expiry_by author = inr (ap (λ (e : Entry). e.author) entry_is)

    pub expiry_short : record_octets entry + 1 ≤ ledger.room
    expiry_short = let short : record_octets entry ≡ 13 = ap record_octets entry_is in omega (arith, short, kept.room)

    pub expiry_through : (octets : List ℕ) → IsJournalOr opened.limits (history_of chronicle) (Some entry) octets → IsJournalOfAny opened.limits (look_stages (history_of chronicle) now) octets
    expiry_through octets journal = append_through opened.limits (history_of chronicle) (after_expiry (history_of chronicle) now) entry [] octets clock_here journal

    pub expiry_attempted : IsAttempted (look_stages (history_of chronicle) now) (history_of chronicle) (Some entry)
    expiry_attempted = inr (inl (sym clock_here))

    pub expiry_appended : expiry_entry (history_of chronicle) now ≡ Some entry
    expiry_appended = rw due_here (ap (λ e. Some e) (sym here))

    pub expiry_four : 4 ≡ expiry_calls (history_of chronicle) now
    expiry_four = rw due_here refl

    pub expired : (start : BookView D) → (let b : BookView D = record { disk = ledger.disk; opened = opened; chronicle = chronicle; doubt = ledger.doubt } in b) ≡ start → (later : List Happening) → later ≡ chronicle ++ Entered entry ∷ [] → history_of later ≡ after_expiry (history_in start) now
    expired start is later later_is = ap history_of later_is ∙ history_entered chronicle entry ∙ sym clock_here ∙ ap (λ (b : BookView D). after_expiry (history_in b) now) is

  -- ---- what is asked

  module _ (now author : ℕ) (ask : Ask) (quiet : is_due (history_of chronicle) now ≡ false) (entry : Entry) (judged : judge (rules_of core.schema core.limits) core.entries now author ask ≡ Ok entry) (given : Gives (rules_of core.schema core.limits) core.entries entry) where
    pub judged_here : judge (rules_in opened) (history_of chronicle) now author ask ≡ Ok entry
    judged_here = subst (λ rules. judge rules (history_of chronicle) now author ask ≡ Ok entry) rules_are (subst (λ h. judge (rules_of core.schema core.limits) h now author ask ≡ Ok entry) entries_are judged)

    stepped : step (rules_in opened) (history_of chronicle) now author ask ≡ Ok entry
    stepped = ap (λ es. judge (rules_in opened) es now author ask) (quiet_expiry (history_of chronicle) now quiet) ∙ judged_here

    pub ask_appended : answer_entry (step (rules_in opened) (history_of chronicle) now author ask) ≡ Some entry
    ask_appended = ap (λ r. answer_entry r) stepped

    pub ask_four : 4 ≡ append_calls (answer_entry (step (rules_in opened) (history_of chronicle) now author ask))
    ask_four = ap (λ e. append_calls e) (sym ask_appended)

    pub ask_given : Gives (rules_in opened) (history_of chronicle) entry
    ask_given = subst (λ rules. Gives rules (history_of chronicle) entry) rules_are (subst (λ h. Gives (rules_of core.schema core.limits) h entry) entries_are given)

    pub ask_by : IsBy author entry
    ask_by = inl (ap (λ (e : Entry). e.author) (accepted_is_next (rules_in opened) (history_of chronicle) now author ask entry judged_here))

    pub ask_through : (octets : List ℕ) → IsJournalOr opened.limits (history_of chronicle) (Some entry) octets → IsJournalOfAny opened.limits (set_stages (rules_in opened) (history_of chronicle) now author ask) octets
    ask_through octets journal = append_through_last opened.limits (history_of chronicle) (after_expiry (history_of chronicle) now) _ entry octets (with_entry (rules_in opened) (history_of chronicle) now author ask entry quiet judged_here) journal

    pub ask_attempted : IsAttempted (set_stages (rules_in opened) (history_of chronicle) now author ask) (history_of chronicle) (Some entry)
    ask_attempted = inr (inr (inl (sym (with_entry (rules_in opened) (history_of chronicle) now author ask entry quiet judged_here))))

    pub ask_accepted : (later : List Happening) → later ≡ chronicle ++ Entered entry ∷ [] → AnswersSet (rules_in opened) (history_of chronicle) now author ask (Ok entry.stamp) (history_of later)
    ask_accepted later later_is = accepted_now (rules_in opened) (history_of chronicle) now author ask entry (history_of later) quiet judged_here (ap history_of later_is ∙ history_entered chronicle entry)

    -- what ends a trial is short
    pub ending_short : EndsTrial ask → record_octets entry + 1 ≤ ledger.room
    ending_short ends = let short : record_octets entry ≡ 13 = ap record_octets (accepted_is_next (rules_in opened) (history_of chronicle) now author ask entry judged_here) ∙ ending_record ask (asked (history_of chronicle) now author ask) ends refl in omega (arith, short, kept.room)
      where
        ending_record : (one : Ask) (e : Entry) → EndsTrial one → e.kind ≡ kind_of_ask e.stamp one → record_octets e ≡ 13
        ending_record (asks.Confirm id) e ends is = rw is refl
        ending_record (asks.Cancel id) e ends is = rw is refl
        ending_record (asks.Apply ops) e ends is = absurd ends
        ending_record (asks.Trial id ops duration) e ends is = absurd ends
        ending_record (asks.Extend id duration) e ends is = absurd ends

-- what isn't want of memory is a fault of the disk
pub not_memory : (refusal : Refusal) (flag : Bool) → (refusal ≡ refusals.DiskFault) ⊎ (refusal ≡ refusals.NoMemory) → (IsTrue flag ↔ (refusal ≡ refusals.NoMemory)) → flag ≡ false → refusal ≡ refusals.DiskFault
not_memory refusal flag (inl is) tells unset = is
not_memory refusal flag (inr is) tells unset = absurd (true≢false (sym (tells.1 is) ∙ unset))

pub memory_only : (refusal : Refusal) → refusal ≡ refusals.NoMemory → refusal ≢ refusals.DiskFault
memory_only refusal is other = no_both (sym is ∙ other)
  where
    no_both : refusals.NoMemory ≡ refusals.DiskFault → ⊥
    no_both same = cc same

-- ---- a Set from its three parts: the repair, the event of the clock, the answer
module _ {D : Type 0} (told : D → Option Content) (start mid at : BookView D) (now author : ℕ) (ask : Ask) (repaired : mid ≡ record start { disk = mid.disk; doubt = None }) (opened : at.opened ≡ mid.opened) (clocked : history_in at ≡ after_expiry (history_in mid) now) where
  abbrev stages : BookView D → List (List Entry)
  stages b = set_stages (rules_in b.opened) (history_in b) now author ask

  pub at_clock_of : history_in at ≡ after_expiry (history_in start) now
  at_clock_of = clocked ∙ ap (λ (b : BookView D). after_expiry (history_in b) now) repaired

  pub opened_as : at.opened ≡ start.opened
  opened_as = opened ∙ ap (λ (b : BookView D). b.opened) repaired

  pub quiet_now : is_due (history_in at) now ≡ false
  quiet_now = subst (λ h. is_due h now ≡ false) (sym at_clock_of) (quiet_after_clock (history_in start) now)

  pub set_answers : (result : Result ℕ Refusal) (left : List Entry) → AnswersSet (rules_in at.opened) (history_in at) now author ask result left → AnswersSet (rules_in start.opened) (history_in start) now author ask result left
  set_answers result left answer = set_behind (rules_in start.opened) (history_in start) now author ask result left
      (subst (λ (o : Opened). AnswersSet (rules_in o) (after_expiry (history_in start) now) now author ask result left) opened_as (subst (λ h. AnswersSet (rules_in at.opened) h now author ask result left) at_clock_of answer))

  pub set_attempted : (left : List Entry) (doubt : Option Entry) → IsAttempted (stages at) left doubt → IsAttempted (stages start) left doubt
  set_attempted left doubt attempted = attempted_behind (rules_in start.opened) (history_in start) now author ask left doubt
      (subst (λ (o : Opened). IsAttempted (set_stages (rules_in o) (after_expiry (history_in start) now) now author ask) left doubt) opened_as (subst (λ h. IsAttempted (set_stages (rules_in at.opened) h now author ask) left doubt) at_clock_of attempted))

  asked_same : answer_entry (step (rules_in at.opened) (history_in at) now author ask) ≡ answer_entry (step (rules_in start.opened) (history_in start) now author ask)
  asked_same =
      ap (λ (o : Opened). answer_entry (step (rules_in o) (history_in at) now author ask)) opened_as
      ∙ ap (λ h. answer_entry (step (rules_in start.opened) h now author ask)) at_clock_of
      ∙ ap (λ r. answer_entry r) (step_again (rules_in start.opened) (history_in start) now author ask)

  pub set_made : (result : Result ℕ Refusal) (left : List Entry) (doubt : Option Entry) (old new : Fuse) → CallsOfPart (answer_entry (step (rules_in at.opened) (history_in at) now author ask)) (history_in at) left doubt old new result
      → CallsOfPart (answer_entry (step (rules_in start.opened) (history_in start) now author ask)) (after_expiry (history_in start) now) left doubt old new result
  set_made result left doubt old new made =
      subst (λ h. CallsOfPart (answer_entry (step (rules_in start.opened) (history_in start) now author ask)) h left doubt old new result) at_clock_of
      (subst (λ e. CallsOfPart e (history_in at) left doubt old new result) asked_same made)

  pub clock_moments : LeavesOnly (IsJournalOfAny mid.opened.limits (look_stages (history_in mid) now)) (told mid.disk) (told at.disk) → LeavesOnly (IsJournalOfAny mid.opened.limits (stages mid)) (told mid.disk) (told at.disk)
  clock_moments moments = leaves_weaker _ _ (told mid.disk) (told at.disk) (look_in_set mid.opened.limits (history_in mid) (after_expiry (history_in mid) now) _) moments

  third_at_clock : (new : Option Content) → LeavesOnly (IsJournalOfAny at.opened.limits (stages at)) (told at.disk) new → LeavesOnly (IsJournalOfAny mid.opened.limits (after_expiry (history_in mid) now ∷ after_expiry (after_expiry (history_in mid) now) now ∷ with_answer (after_expiry (history_in mid) now) (step (rules_in mid.opened) (history_in mid) now author ask) ∷ [])) (told at.disk) new
  third_at_clock new third =
      subst (λ last. LeavesOnly (IsJournalOfAny mid.opened.limits (after_expiry (history_in mid) now ∷ after_expiry (after_expiry (history_in mid) now) now ∷ last ∷ [])) (told at.disk) new) (last_again (rules_in mid.opened) (history_in mid) now author ask)
      (subst (λ h. LeavesOnly (IsJournalOfAny mid.opened.limits (set_stages (rules_in mid.opened) h now author ask)) (told at.disk) new) clocked
      (subst (λ (o : Opened). LeavesOnly (IsJournalOfAny o.limits (set_stages (rules_in o) (history_in at) now author ask)) (told at.disk) new) opened third))

  pub set_moments : (left : Option Entry) (new : Option Content) → LeavesOnly (IsJournalOr start.opened.limits (history_in start) start.doubt) (told start.disk) (told mid.disk)
      → LeavesOnly (IsJournalOfAny mid.opened.limits (look_stages (history_in mid) now)) (told mid.disk) (told at.disk)
      → LeavesOnly (IsJournalOfAny at.opened.limits (stages at)) (told at.disk) new
      → GoesThrough start.opened.limits (history_in start) start.doubt (stages start) left (told start.disk) new
  set_moments left new first second third =
      behind_repair told start mid repaired stages (λ d e. refl) left new first
      (leaves_then _ (told mid.disk) (told at.disk) new (clock_moments second)
      (leaves_weaker _ _ (told at.disk) new (λ octets journal. behind_in_set mid.opened.limits (history_in mid) (after_expiry (history_in mid) now) _ _ octets (expires_once (history_in mid) now) journal) (third_at_clock new third)))

  pub set_closes : (result : Result ℕ Refusal) (left : List Entry) (doubt : Option Entry) → AnswersSet (rules_in at.opened) (history_in at) now author ask result left → ((IsErrOf result refusals.DiskFault → ⊥) → doubt ≡ None) → (IsErrOf result refusals.NoMemory → EndsTrial ask → ⊥)
      → IsErrOf result refusals.NoMemory → (left ≡ after_expiry (history_in start) now) × (doubt ≡ None) × (EndsTrial ask → ⊥)
  set_closes result left doubt answer settled closes is =
      (by_place (subst (λ (r : Result ℕ Refusal). AnswersSet (rules_in at.opened) (history_in at) now author ask r left) is answer), settled (λ other. neither (sym is ∙ other)), closes is)
    where
      by_place : (left ≡ history_in at) ⊎ (left ≡ after_expiry (history_in at) now) → left ≡ after_expiry (history_in start) now
      by_place (inl e) = e ∙ at_clock_of
      by_place (inr e) = e ∙ quiet_expiry (history_in at) now quiet_now ∙ at_clock_of

      neither : (let r : Result ℕ Refusal = Err refusals.NoMemory in r) ≡ Err refusals.DiskFault → ⊥
      neither same = cc same

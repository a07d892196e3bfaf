-- What a book keeps at the end of each part of a call.
use Rattle.std.proofs.Common.{◌≡◌, ◌⊎◌, inl, inr, ℕ, ◌+◌, ◌<◌, ◌≤◌, List, [], ◌∷◌, ◌++◌, Option, Some, None, Result, Ok, Err, length, refl, sym, ap, ◌∙◌, subst, arith, length-append, append-nil}
use Rattle.base_kinds.specs.declared.entry.Entry.{Entry}
use Rattle.base_kinds.specs.declared.refusal.Refusal.{Refusal}
use Rattle.base_kinds.specs.declared.refusal.Refusal.TheVariants as refusals
use Rattle.base_kinds.specs.Legal.{Gives}
use Rattle.disk_model.specs.Calls.{Fuse, CallsPassed}
use Rattle.disk_model.specs.Content.{Content}
use Rattle.disk_model.specs.Moments.{LeavesNow, LeavesOnly}
use Rattle.disk_model.proofs.Moving.{leaves_weaker, leaves_same}
use Rattle.environment.specs.Faults.{Rose}
use Rattle.commit_journal.specs.Images.{IsJournalOr, IsJournalOfAny}
use Rattle.commit_journal.specs.Ledgers.{LedgerView, FailsAppending}
use Rattle.journal_format.specs.Histories.{MayFollow, IsJournalHistory}
use Rattle.journal_format.proofs.Following.{given_may_follow}
use Rattle.journal_format.proofs.Histories.{legal_more}
use Rattle.book_port.specs.declared.happening.Happening.{Happening}
use Rattle.book_port.specs.declared.happening.Happening.TheVariants.{Entered, Marked}
use Rattle.book_port.specs.Chronicles.{history_of, marks_of, mark_after, IsBy}
use Rattle.book_port.specs.Opened.{Opened, rules_in, IsRun}
use Rattle.book_port.proofs.Chronicled.{history_of_more, marks_of_more}
use Rattle.book_port.proofs.Runs.{run_on}
use Rattle.book_core.specs.inner.Books.{IsBook, KeepsRules}
use Rattle.book_core.specs.inner.Parts.{GoesOn, CallsOfPart}
use Rattle.commit_core.specs.CoreView.{CoreView}
use Rattle.book_core.specs.Calls.{append_calls}
use Rattle.book_core.specs.Moments.{IsAttempted}
use Rattle.book_core.proofs.Calling.{fails_first}
use Rattle.book_core.specs.Views.{BookView, history_in, most_marks}

now_weaker : (P Q : List ℕ → Type 0) (told : Option Content) → ((octets : List ℕ) → P octets → Q octets) → LeavesNow P told → LeavesNow Q told
now_weaker P Q None weaker now = tt
now_weaker P Q (Some c) weaker now = λ octets image. weaker octets (now octets image)

pub history_entered : (chronicle : List Happening) (entry : Entry) → history_of (chronicle ++ Entered entry ∷ []) ≡ history_of chronicle ++ entry ∷ []
history_entered chronicle entry = history_of_more chronicle (Entered entry ∷ [])

pub history_marked : (chronicle : List Happening) (author : ℕ) → history_of (chronicle ++ Marked author ∷ []) ≡ history_of chronicle
history_marked chronicle author = history_of_more chronicle (Marked author ∷ []) ∙ append-nil (history_of chronicle)

module _ {D : Type 0} (told : D → Option Content) (faults : D → ℕ) (opened : Opened) (chronicle : List Happening) (core : CoreView) (ledger : LedgerView D) (marks : ℕ) (kept : IsBook told faults opened chronicle core ledger marks) where
  pub here_follows : (entry : Entry) → Gives (rules_in opened) (history_of chronicle) entry → MayFollow opened.limits (history_of chronicle) entry
  here_follows entry given = given_may_follow opened.schema opened.limits (history_of chronicle) entry kept.journal given

  -- the entry may be appended
  pub may_append : (entry : Entry) → Gives (rules_in opened) (history_of chronicle) entry → MayFollow ledger.limits ledger.history entry
  may_append entry given =
      subst (λ h. MayFollow ledger.limits h entry) (sym kept.ledger_history) (subst (λ limits. MayFollow limits (history_of chronicle) entry) (sym kept.ledger_limits) (here_follows entry given))

  images_here : (left : LedgerView D) (h : List Entry) → left.limits ≡ opened.limits → left.history ≡ h → LeavesNow (IsJournalOr left.limits left.history left.doubt) (told left.disk) → LeavesNow (IsJournalOr opened.limits h left.doubt) (told left.disk)
  images_here left h limits history images = subst (λ l. LeavesNow (IsJournalOr l h left.doubt) (told left.disk)) limits (subst (λ es. LeavesNow (IsJournalOr left.limits es left.doubt) (told left.disk)) history images)

  pub kept_entered : (entry : Entry) → Gives (rules_in opened) (history_of chronicle) entry → (after : CoreView) (later : List Happening) (left : LedgerView D)
      → KeepsRules core after → after.entries ≡ core.entries ++ entry ∷ [] → later ≡ chronicle ++ Entered entry ∷ [] → left.limits ≡ ledger.limits → left.history ≡ ledger.history ++ entry ∷ []
      → LeavesNow (IsJournalOr left.limits left.history left.doubt) (told left.disk) → faults left.disk ≡ faults ledger.disk → ledger.room ≤ left.room
      → IsBook told faults opened later after left marks
  kept_entered entry given after later left rules entries_is later_is limits_are history_is images quiet room =
      let h : List Entry = history_of chronicle in
      let h_is : history_of later ≡ h ++ entry ∷ [] = ap history_of later_is ∙ history_entered chronicle entry in
      let limits : left.limits ≡ opened.limits = limits_are ∙ kept.ledger_limits in
      let history : left.history ≡ history_of later = history_is ∙ ap (λ es. es ++ entry ∷ []) kept.ledger_history ∙ sym h_is in
      record {
        schema_is = rules.schema ∙ kept.schema_is;
        limits_are = rules.limits ∙ kept.limits_are;
        entries_are = entries_is ∙ ap (λ es. es ++ entry ∷ []) kept.entries_are ∙ sym h_is;
        ledger_limits = limits;
        ledger_history = history;
        run = subst (IsRun opened) (sym h_is) (run_on opened h entry kept.run given);
        journal = subst (IsJournalHistory opened.limits) (sym h_is) (legal_more opened.limits h entry kept.journal (here_follows entry given));
        images = images_here left (history_of later) limits history images;
        counted = kept.counted ∙ ap length (sym (ap marks_of later_is ∙ marks_of_more chronicle (Entered entry ∷ []) ∙ append-nil (marks_of chronicle)));
        few = kept.few;
        risen = omega (arith, kept.risen, quiet);
        room = omega (arith, kept.room, room);
      }

  pub kept_marked : (author : ℕ) (after : CoreView) (later : List Happening) (left : LedgerView D) (more : ℕ)
      → marks < most_marks → KeepsRules core after → after.entries ≡ core.entries → later ≡ chronicle ++ Marked author ∷ [] → more ≡ marks + 1 → left.limits ≡ ledger.limits → left.history ≡ ledger.history
      → LeavesNow (IsJournalOr left.limits left.history left.doubt) (told left.disk) → Rose (faults ledger.disk) (faults left.disk) → ledger.room ≤ left.room
      → IsBook told faults opened later after left more
  kept_marked author after later left more few rules entries_is later_is more_is limits_are history_is images rose room =
      let h_is : history_of later ≡ history_of chronicle = ap history_of later_is ∙ history_marked chronicle author in
      let limits : left.limits ≡ opened.limits = limits_are ∙ kept.ledger_limits in
      let history : left.history ≡ history_of later = history_is ∙ kept.ledger_history ∙ sym h_is in
      let marked : length (marks_of later) ≡ length (marks_of chronicle) + 1 = ap length (ap marks_of later_is ∙ marks_of_more chronicle (Marked author ∷ [])) ∙ length-append (marks_of chronicle) (author ∷ []) in
      record {
        schema_is = rules.schema ∙ kept.schema_is;
        limits_are = rules.limits ∙ kept.limits_are;
        entries_are = entries_is ∙ kept.entries_are ∙ sym h_is;
        ledger_limits = limits;
        ledger_history = history;
        run = subst (IsRun opened) (sym h_is) kept.run;
        journal = subst (IsJournalHistory opened.limits) (sym h_is) kept.journal;
        images = images_here left (history_of later) limits history images;
        counted = omega (arith, more_is, kept.counted, marked);
        few = omega (arith, more_is, few);
        risen = omega (arith, more_is, kept.risen, rose);
        room = omega (arith, kept.room, room);
      }

  -- ---- what is told of the ledger, in the words of the book

  in_book : (doubt : Option Entry) (old new : Option Content) → LeavesOnly (IsJournalOr ledger.limits ledger.history doubt) old new → LeavesOnly (IsJournalOr opened.limits (history_of chronicle) doubt) old new
  in_book doubt old new moments =
      subst (λ es. LeavesOnly (IsJournalOr opened.limits es doubt) old new) kept.ledger_history (subst (λ limits. LeavesOnly (IsJournalOr limits ledger.history doubt) old new) kept.ledger_limits moments)

  abbrev shown : BookView D
  shown = record { disk = ledger.disk; opened = opened; chronicle = chronicle; doubt = ledger.doubt }

  abbrev left_as : List Happening → LedgerView D → BookView D
  left_as later left = record { disk = left.disk; opened = opened; chronicle = later; doubt = left.doubt }

  pub repaired : (start : BookView D) → shown ≡ start → (new : Option Content) → LeavesOnly (IsJournalOr ledger.limits ledger.history ledger.doubt) (told ledger.disk) new → LeavesOnly (IsJournalOr start.opened.limits (history_in start) start.doubt) (told start.disk) new
  repaired start is new moments = subst (λ (b : BookView D). LeavesOnly (IsJournalOr b.opened.limits (history_in b) b.doubt) (told b.disk) new) is (in_book ledger.doubt (told ledger.disk) new moments)

  pub few_marks : (start : BookView D) → shown ≡ start → length (marks_of start.chronicle) < most_marks → marks < most_marks
  few_marks start is few = let here : length (marks_of chronicle) < most_marks = subst (λ (b : BookView D). length (marks_of b.chronicle) < most_marks) (sym is) few in omega (arith, kept.counted, here)

  pub settled_here : (start : BookView D) → shown ≡ start → start.doubt ≡ None → ledger.doubt ≡ None
  settled_here start is settled = subst (λ (b : BookView D). b.doubt ≡ None) (sym is) settled

  -- ---- the ends of an append

  module _ {T : Type 0} (fuse : D → Fuse) (author : ℕ) (stages : BookView D → List (List Entry)) (appended : BookView D → Option Entry) (start : BookView D) (is : shown ≡ start) where
    pub part_entered : (value : T) (entry : Entry) (later : List Happening) (left : LedgerView D) (after : CoreView)
        → IsBy author entry → ((octets : List ℕ) → IsJournalOr opened.limits (history_of chronicle) (Some entry) octets → IsJournalOfAny opened.limits (stages shown) octets)
        → later ≡ chronicle ++ Entered entry ∷ [] → left.doubt ≡ None → LeavesOnly (IsJournalOr ledger.limits ledger.history (Some entry)) (told ledger.disk) (told left.disk)
        → CallsPassed (append_calls (appended shown)) (fuse ledger.disk) (fuse left.disk)
        → IsBook told faults opened later after left marks → GoesOn {T = T} told fuse author (stages start) (appended start) (Ok value) start (left_as later left)
    part_entered value entry later left after by through later_is settled moments passed book =
        subst (λ (b : BookView D). GoesOn {T = T} told fuse author (stages b) (appended b) (Ok value) b (left_as later left)) is (record {
          opened = refl;
          adds = record { entries = entry ∷ []; by = (by, tt); whole = later_is };
          moments = leaves_weaker _ _ (told ledger.disk) (told left.disk) through (in_book (Some entry) (told ledger.disk) (told left.disk) moments);
          images = book.images;
          doubt = subst (λ d. IsAttempted (stages shown) (history_of later) d) (sym settled) tt;
          run = book.run;
          made = passed;
        })

    pub part_failed : (entry : Entry) (later : List Happening) (left : LedgerView D) (after : CoreView) (more : ℕ)
        → ((octets : List ℕ) → IsJournalOr opened.limits (history_of chronicle) (Some entry) octets → IsJournalOfAny opened.limits (stages shown) octets)
        → IsAttempted (stages shown) (history_of chronicle) (Some entry)
        → later ≡ chronicle ++ Marked author ∷ [] → (left.doubt ≡ None) ⊎ (left.doubt ≡ Some entry) → LeavesOnly (IsJournalOr ledger.limits ledger.history (Some entry)) (told ledger.disk) (told left.disk)
        → appended shown ≡ Some entry → FailsAppending entry left.doubt (fuse ledger.disk) (fuse left.disk)
        → IsBook told faults opened later after left more → GoesOn {T = T} told fuse author (stages start) (appended start) (Err refusals.DiskFault) start (left_as later left)
    part_failed entry later left after more through attempted later_is doubt moments is_appended failed book =
        let h_is : history_of later ≡ history_of chronicle = ap history_of later_is ∙ history_marked chronicle author in
        subst (λ (b : BookView D). GoesOn {T = T} told fuse author (stages b) (appended b) (Err refusals.DiskFault) b (left_as later left)) is (record {
          opened = refl;
          adds = record { entries = []; by = tt; whole = later_is };
          moments = leaves_weaker _ _ (told ledger.disk) (told left.disk) through (in_book (Some entry) (told ledger.disk) (told left.disk) moments);
          images = book.images;
          doubt = subst (λ h. IsAttempted (stages shown) h left.doubt) (sym h_is) (elim doubt [ inl none ↦ subst (λ d. IsAttempted (stages shown) (history_of chronicle) d) (sym none) tt | inr some ↦ subst (λ d. IsAttempted (stages shown) (history_of chronicle) d) (sym some) attempted ]);
          run = book.run;
          made = fails_first entry (appended shown) (history_of chronicle) (history_of later) left.doubt (fuse ledger.disk) (fuse left.disk) is_appended h_is failed;
        })

    -- nothing was written
    pub part_idle : (result : Result T Refusal) → mark_after author result ≡ [] → ledger.doubt ≡ None → (others : List (List Entry)) → stages shown ≡ history_of chronicle ∷ others → CallsOfPart (appended shown) (history_of chronicle) (history_of chronicle) ledger.doubt (fuse ledger.disk) (fuse ledger.disk) result → GoesOn told fuse author (stages start) (appended start) result start shown
    part_idle result unmarked settled others stages_are made =
        subst (λ (b : BookView D). GoesOn told fuse author (stages b) (appended b) result b shown) is (record {
          opened = refl;
          adds = record { entries = []; by = tt; whole = sym (ap (λ ms. chronicle ++ ms) unmarked ∙ append-nil chronicle) };
          moments = leaves_same _ (told ledger.disk) (idle_images settled others stages_are);
          images = kept.images;
          doubt = subst (λ d. IsAttempted (stages shown) (history_of chronicle) d) (sym settled) tt;
          run = kept.run;
          made = made;
        })
      where
        idle_images : ledger.doubt ≡ None → (others : List (List Entry)) → stages shown ≡ history_of chronicle ∷ others → LeavesNow (IsJournalOfAny opened.limits (stages shown)) (told ledger.disk)
        idle_images settled others stages_are =
            subst (λ s. LeavesNow (IsJournalOfAny opened.limits s) (told ledger.disk)) (sym stages_are)
            (now_weaker _ _ (told ledger.disk) (λ octets journal. inl journal) (subst (λ d. LeavesNow (IsJournalOr opened.limits (history_of chronicle) d) (told ledger.disk)) settled kept.images))

    -- the disk failed, whatever the refusal is called
    pub part_failed_as : (refusal : Refusal) → refusal ≡ refusals.DiskFault → (entry : Entry) (later : List Happening) (left : LedgerView D) (after : CoreView) (more : ℕ)
        → ((octets : List ℕ) → IsJournalOr opened.limits (history_of chronicle) (Some entry) octets → IsJournalOfAny opened.limits (stages shown) octets)
        → IsAttempted (stages shown) (history_of chronicle) (Some entry)
        → later ≡ chronicle ++ Marked author ∷ [] → (left.doubt ≡ None) ⊎ (left.doubt ≡ Some entry) → LeavesOnly (IsJournalOr ledger.limits ledger.history (Some entry)) (told ledger.disk) (told left.disk)
        → appended shown ≡ Some entry → FailsAppending entry left.doubt (fuse ledger.disk) (fuse left.disk)
        → IsBook told faults opened later after left more → GoesOn {T = T} told fuse author (stages start) (appended start) (Err refusal) start (left_as later left)
    part_failed_as refusal fault entry later left after more through attempted later_is doubt moments is_appended failed book =
        subst (λ (r : Refusal). GoesOn {T = T} told fuse author (stages start) (appended start) (Err r) start (left_as later left)) (sym fault) (part_failed entry later left after more through attempted later_is doubt moments is_appended failed book)

    -- memory was wanting, and nothing was written
    pub part_starved : (result : Result T Refusal) → mark_after author result ≡ [] → (later : List Happening) (left : LedgerView D) → later ≡ chronicle → left.disk ≡ ledger.disk → left.doubt ≡ ledger.doubt → ledger.doubt ≡ None → (others : List (List Entry)) → stages shown ≡ history_of chronicle ∷ others → CallsOfPart (appended shown) (history_of chronicle) (history_of chronicle) ledger.doubt (fuse ledger.disk) (fuse ledger.disk) result → GoesOn told fuse author (stages start) (appended start) result start (left_as later left)
    part_starved result unmarked later left later_is disk_is doubt_is settled others stages_are made =
        subst (λ (b : BookView D). GoesOn told fuse author (stages start) (appended start) result start b) same (part_idle result unmarked settled others stages_are made)
      where
        same : shown ≡ left_as later left
        same = λ i. record { disk = sym disk_is i; opened = opened; chronicle = sym later_is i; doubt = sym doubt_is i }

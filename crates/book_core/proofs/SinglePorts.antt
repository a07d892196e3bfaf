-- A turn of a port that nobody else has.
use Rattle.std.proofs.Common.{◌≡◌, ℕ, ◌+◌, ◌-◌, ◌≤◌, [], ◌∷◌, ◌++◌, true, length, drop, Some, Result, Ok, Err, IsErrOf, refl, ap, ◌∙◌, subst, arith, length-append, append_assoc}
use Rattle.std.proofs.lemmas.List.{drop-append-le, map-append}
use Rattle.base_kinds.specs.declared.refusal.Refusal.{Refusal}
use Rattle.base_kinds.specs.declared.refusal.Refusal.TheVariants as refusals
use Rattle.environment.specs.Faults.{Rose}
use Rattle.book_port.specs.Chronicles.{history_of, marks_of, entered, mark_after, entries_by, Adds}
use Rattle.book_port.specs.Ports.{TakesTurn, marks_after, HasFaultCause}
use Rattle.book_port.specs.Follows.{Turn}
use Rattle.book_port.specs.Opened.{Opened, IsRun}
use Rattle.book_core.specs.Singles.{SingleView, IsSingle, port_of}
use Rattle.book_core.specs.Views.{BookView, history_in}
use Rattle.book_port.proofs.Chronicled.{history_of_more, marks_of_more, history_added, marks_added, entries_by_more}
use Rattle.book_port.proofs.Following.{nobody_went_on}

marks_more : (T : Type 0) (author before first : ℕ) (result : Result T Refusal) → first ≤ before → (before + length (marks_of (mark_after author result))) - first ≡ marks_after (before - first) result
marks_more T author before first (Ok value) le = omega (arith, le)
marks_more T author before first (Err refusals.DiskFault) le = omega (arith, le)
marks_more T author before first (Err refusal) le = omega (arith, le)

-- a fault of the disk is the cause of its answer, and no other
fault_cause : (T : Type 0) (before now : ℕ) (result : Result T Refusal) → (IsErrOf result refusals.DiskFault → Rose before now) → ((IsErrOf result refusals.DiskFault → ⊥) → now ≡ before) → HasFaultCause (Some before) result (Some now)
fault_cause T before now (Ok v) rises stays = stays (λ is. absurd (cc is))
fault_cause T before now (Err refusals.DiskFault) rises stays = rises refl
fault_cause T before now (Err refusal) rises stays = stays (λ is. absurd (cc is))

module _ {D T : Type 0} (faults : D → ℕ) (now : ℕ) (old : SingleView D) (kept : IsSingle old.book old.author old.start) (result : Result T Refusal) (book : BookView D) (run : IsRun old.book.opened (history_in old.book)) (run_on : IsRun book.opened (history_in book)) (opened : book.opened ≡ old.book.opened) (adds : Adds old.author result old.book.chronicle book.chronicle) where
  abbrev new : SingleView D
  new = record old { book = book; finds = old.finds ++ old.book ∷ [] }

  abbrev pub its_turn : Turn
  its_turn = record { reading = now; found = history_in old.book; left = history_in book }

  start_within : length (history_in old.start) ≤ length (history_in old.book)
  start_within = let long = ap (λ c. length (history_of c)) kept.goes_on ∙ ap length (history_of_more old.start.chronicle kept.since) ∙ length-append (history_in old.start) (history_of kept.since) in omega (arith, long)

  marks_within : length (marks_of old.start.chronicle) ≤ length (marks_of old.book.chronicle)
  marks_within = let long = ap (λ c. length (marks_of c)) kept.goes_on ∙ ap length (marks_of_more old.start.chronicle kept.since) ∙ length-append (marks_of old.start.chronicle) (marks_of kept.since) in omega (arith, long)

  left_is : history_in book ≡ history_in old.book ++ adds.entries
  left_is = history_added T old.author result old.book.chronicle book.chronicle adds

  made_is : (port_of faults new).made ≡ (port_of faults old).made ++ entries_by old.author adds.entries
  made_is = ap (λ h. entries_by old.author (drop (length (history_in old.start)) h)) left_is
      ∙ ap (entries_by old.author) (drop-append-le (length (history_in old.start)) (history_in old.book) adds.entries start_within)
      ∙ entries_by_more old.author (drop (length (history_in old.start)) (history_in old.book)) adds.entries

  marks_left : length (marks_of book.chronicle) ≡ length (marks_of old.book.chronicle) + length (marks_of (mark_after old.author result))
  marks_left = ap length (marks_added T old.author result old.book.chronicle book.chronicle adds) ∙ length-append (marks_of old.book.chronicle) (marks_of (mark_after old.author result))

  marks_are : (port_of faults new).marks ≡ marks_after (port_of faults old).marks result
  marks_are = ap (λ n. n - length (marks_of old.start.chronicle)) marks_left
      ∙ marks_more T old.author (length (marks_of old.book.chronicle)) (length (marks_of old.start.chronicle)) result marks_within

  finds_are : (port_of faults new).finds ≡ (port_of faults old).finds ++ history_in old.book ∷ []
  finds_are = map-append history_in old.finds (old.book ∷ [])

  pub single_turn : (IsErrOf result refusals.DiskFault → Rose (faults old.book.disk) (faults book.disk)) → ((IsErrOf result refusals.DiskFault → ⊥) → faults book.disk ≡ faults old.book.disk) → TakesTurn (port_of faults old) its_turn result (port_of faults new)
  single_turn rises stays = record {
    own = kept.some;
    begins = nobody_went_on old.author (history_in old.book) (history_in old.book) refl;
    has_made = (refl, tt);
    alone = λ yes. refl;
    found_run = run;
    left_run = subst (λ (o : Opened). IsRun o (history_in book)) opened run_on;
    more = adds.entries;
    goes_on = left_is;
    fault = fault_cause T (faults old.book.disk) (faults book.disk) result rises stays;
    new_is = λ i. record { opened = opened i; book = []; author = old.author; is_alone = true; start = history_in old.start; seen = history_in book; finds = finds_are i; made = made_is i; marks = marks_are i; met = []; known = 0; faults = Some (faults book.disk) };
  }

  -- and the chronicle still goes on with the start's
  pub single_kept : IsSingle book old.author old.start
  single_kept = record {
    some = kept.some;
    since = kept.since ++ (entered adds.entries ++ mark_after old.author result);
    goes_on = adds.whole ∙ ap (λ c. c ++ (entered adds.entries ++ mark_after old.author result)) kept.goes_on ∙ append_assoc old.start.chronicle kept.since (entered adds.entries ++ mark_after old.author result);
  }

-- One turn at the lock, as what its port shows.
use Rattle.std.proofs.Common.{◌≡◌, inl, ℕ, ◌+◌, ◌<◌, List, [], ◌∷◌, ◌++◌, false, map, Result, Ok, Err, None, refl, sym, ap, ◌∙◌, subst, arith, append-nil}
use Rattle.std.proofs.Math.Seq.{drop-append_seam}
use Rattle.std.proofs.lemmas.List.{map-append}
use Rattle.std.proofs.lemmas.Bool.{both_ways}
use Rattle.std.specs.List.{AllByRecursion}
use mathlib.Core.List.{IsPrefix}
use Rattle.atomic_table.specs.Seated.{TableId}
use Rattle.base_kinds.specs.declared.entry.Entry.{Entry}
use Rattle.base_kinds.specs.declared.refusal.Refusal.{Refusal}
use Rattle.base_kinds.specs.declared.refusal.Refusal.TheVariants as refusals
use Rattle.book_port.specs.declared.happening.Happening.{Happening}
use Rattle.book_port.specs.Chronicles.{history_of, marks_of, entered, mark_after, Adds, IsBy}
use Rattle.book_port.specs.Chronicles as chronicles
use Rattle.book_port.specs.Follows.{Turn}
use Rattle.book_port.specs.Opened.{Opened, IsRun}
use Rattle.book_port.specs.Ports.{TakesTurn, marks_after}
use Rattle.book_port.proofs.Chronicled.{history_added, history_of_more, history_of_entered, marks_of_more, marks_of_entered}
use Rattle.book_core.specs.Views.{BookView, history_in}
use Rattle.turn_lock.specs.Chronicles.{entries_by, entries_past, AreBy}
use Rattle.turn_lock.specs.Passes.{OwnsItsEntries, occurrences}
use Rattle.turn_lock.specs.declared.view.View.{View}
use Rattle.turn_lock.proofs.Counts.{times_hit}
use Rattle.shared_book.specs.declared.item.SharedItem.{SharedItem}
use Rattle.shared_book.specs.Items.{opened_item, happened_items, items_of, item_author, history_shared, marks_shared, opened_in}
use Rattle.shared_book.specs.Visits.{book_name, ended_port, port_of}
use Rattle.shared_book.specs.inner.Keeping.{KeepsBook}
use Rattle.shared_book.proofs.Lists.{happenings_all, history_more, marks_more, history_items, history_by, marks_by}
use Rattle.shared_book.proofs.Finding.{shown, found_opened, went_on_so, has_made}

module _ {D T : Type 0} (author : ℕ) (result : Result T Refusal) (old new : BookView D) (opened : new.opened ≡ old.opened) (adds : Adds author result old.chronicle new.chronicle) where
  abbrev pub added : List SharedItem
  added = happened_items (entered adds.entries ++ mark_after author result)

  pub items_added : items_of new ≡ items_of old ++ added
  items_added = (λ i. opened_item (opened i) ∷ happened_items (adds.whole i)) ∙ ap (λ l. opened_item old.opened ∷ l) (map-append Rattle.shared_book.specs.declared.item.SharedItem.TheVariants.Happened old.chronicle (entered adds.entries ++ mark_after author result))

  pub grows : IsPrefix (items_of old) (items_of new)
  grows = (added, sym items_added)

  pub past_is : entries_past (items_of old) (items_of new) ≡ added
  past_is = ap (entries_past (items_of old)) items_added ∙ drop-append_seam (items_of old) added

  are_by : (entries : List Entry) (marks : List Happening) → AllByRecursion (IsBy author) entries → AreBy item_author author (happened_items marks) → AreBy item_author author (happened_items (entered entries ++ marks))
  are_by [] marks all rest = rest
  are_by (e ∷ entries) marks all rest = (all.0, are_by entries marks all.1 rest)

  mark_by : (r : Result T Refusal) → AreBy item_author author (happened_items (mark_after author r))
  mark_by (Ok v) = tt
  mark_by (Err refusals.DiskFault) = (inl refl, tt)
  mark_by (Err refusal) = tt

  pub added_by : AreBy item_author author (entries_past (items_of old) (items_of new))
  added_by = subst (AreBy item_author author) (sym past_is) (are_by adds.entries (mark_after author result) adds.by (mark_by result))

  no_entry : (r : Result T Refusal) → history_of (mark_after author r) ≡ []
  no_entry (Ok value) = refl
  no_entry (Err refusals.DiskFault) = refl
  no_entry (Err refusal) = refl

  -- the author's entries among them
  pub history_made : 0 < author → history_shared (entries_by item_author author added) ≡ chronicles.entries_by author adds.entries
  history_made pos = history_by author added pos
      ∙ ap (λ hs. chronicles.entries_by author (history_of hs)) (happenings_all (entered adds.entries ++ mark_after author result))
      ∙ ap (chronicles.entries_by author) (history_of_more (entered adds.entries) (mark_after author result) ∙ (λ i. history_of_entered adds.entries i ++ no_entry result i) ∙ append-nil adds.entries)

  one_mark : (r : Result T Refusal) (before : ℕ) → before + occurrences author (marks_of (mark_after author r)) ≡ marks_after before r
  one_mark (Ok value) before = omega arith
  one_mark (Err refusals.DiskFault) before = let h = times_hit author author [] refl in omega (arith, h)
  one_mark (Err refusal) before = omega arith

  -- and its marks
  pub marks_made : 0 < author → (before : ℕ) → before + marks_shared (entries_by item_author author added) ≡ marks_after before result
  marks_made pos before = ap (λ n. before + n) (marks_by author added pos
      ∙ ap (λ hs. occurrences author (marks_of hs)) (happenings_all (entered adds.entries ++ mark_after author result))
      ∙ ap (occurrences author) (marks_of_more (entered adds.entries) (mark_after author result) ∙ ap (λ ms. ms ++ marks_of (mark_after author result)) (marks_of_entered adds.entries)))
      ∙ one_mark result before

-- The pass before a turn, as it is when the book is found, and after it; the book that was found, and the one left.
module _ {D T : Type 0} (table left_table : TableId) (now : ℕ) (before found_by after : View SharedItem) (result : Result T Refusal) (found left : BookView D)
    (kept : KeepsBook before) (number : found_by.turn.number ≡ before.turn.number) (first : found_by.first ≡ before.first) (start : found_by.start ≡ before.start) (ended : found_by.ended ≡ before.ended) (made : found_by.made ≡ before.made)
    (found_is : items_of found ≡ found_by.seen) (begins : IsPrefix before.seen found_by.seen) (owner : OwnsItsEntries item_author found_by)
    (run : IsRun found.opened (history_in found)) (run_on : IsRun left.opened (history_in left)) (opened : left.opened ≡ found.opened) (adds : Adds before.turn.number result found.chronicle left.chronicle) where
  abbrev pub its_turn : Turn
  its_turn = record { reading = now; found = history_in found; left = history_in left }

  was_opened : found.opened ≡ opened_in before.first
  was_opened = found_opened table before found_by found kept number first start ended made found_is begins owner

  module _ (number_then : after.turn.number ≡ found_by.turn.number) (first_then : after.first ≡ found_by.first) (start_then : after.start ≡ found_by.start) (ended_then : after.ended ≡ found_by.ended) (known_then : after.known ≡ before.known)
      (table_then : left_table ≡ table) (seen_then : after.seen ≡ items_of left) (finds_then : after.finds ≡ before.finds ++ found_by.seen ∷ []) (made_then : after.made ≡ before.made ++ entries_by item_author before.turn.number (entries_past (items_of found) (items_of left))) where
    made_is : history_shared after.made ≡ history_shared before.made ++ chronicles.entries_by before.turn.number adds.entries
    made_is = ap history_shared (made_then ∙ ap (λ l. before.made ++ entries_by item_author before.turn.number l) (past_is before.turn.number result found left opened adds))
        ∙ history_more before.made (entries_by item_author before.turn.number (added before.turn.number result found left opened adds))
        ∙ ap (λ h. history_shared before.made ++ h) (history_made before.turn.number result found left opened adds kept.some)

    marks_are : marks_shared after.made ≡ marks_after (marks_shared before.made) result
    marks_are = ap marks_shared (made_then ∙ ap (λ l. before.made ++ entries_by item_author before.turn.number l) (past_is before.turn.number result found left opened adds))
        ∙ marks_more before.made (entries_by item_author before.turn.number (added before.turn.number result found left opened adds))
        ∙ marks_made before.turn.number result found left opened adds kept.some (marks_shared before.made)

    finds_are : map history_shared after.finds ≡ map history_shared before.finds ++ history_in found ∷ []
    finds_are = ap (map history_shared) finds_then ∙ map-append history_shared before.finds (found_by.seen ∷ []) ∙ ap (λ h. map history_shared before.finds ++ h ∷ []) (shown table before found_by found kept number first start ended made found_is begins owner)

    pub takes_turn : TakesTurn (port_of table before) its_turn result (port_of left_table after)
    takes_turn = record {
      own = kept.some;
      begins = went_on_so table before found_by found kept number first start ended made found_is begins owner;
      has_made = has_made table before found_by found kept number first start ended made found_is begins owner;
      alone = λ yes. absurd (both_ways false refl yes);
      found_run = subst (λ (o : Opened). IsRun o (history_in found)) was_opened run;
      left_run = subst (λ (o : Opened). IsRun o (history_in left)) (opened ∙ was_opened) run_on;
      more = adds.entries;
      goes_on = history_added T before.turn.number result found.chronicle left.chronicle adds;
      fault = tt;
      new_is = λ i. record {
        opened = opened_in ((first_then ∙ first) i);
        book = book_name (table_then i);
        author = (number_then ∙ number) i;
        is_alone = false;
        start = history_shared ((start_then ∙ start) i);
        seen = (ap history_shared seen_then ∙ history_items left) i;
        finds = finds_are i;
        made = made_is i;
        marks = marks_are i;
        met = map ended_port ((ended_then ∙ ended) i);
        known = known_then i;
        faults = None;
      };
    }

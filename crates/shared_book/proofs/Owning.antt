-- What a pass knows of its entries, and of those of the passes that were joined into it, as what its port shows.
use Rattle.std.proofs.Common.{◌≡◌, ◌≢◌, ℕ, zero, suc, ◌<◌, ◌≤◌, List, [], ◌∷◌, ◌++◌, length, map, refl, sym, ap, ◌∙◌, subst, arith, length-append}
use Rattle.std.specs.List.{AllByRecursion}
use mathlib.Core.Option.{some, some-injective}
use mathlib.Core.List.{IsPrefix}
use lib.ListN.{get_elem?}
use Rattle.book_port.specs.Chronicles.{marks_of}
use Rattle.book_port.specs.Follows.{OthersWentOn}
use Rattle.book_port.specs.Ports.{PortEnd, HasJustMade, AuthorsDiffer}
use Rattle.book_core.specs.Views.{BookView}
use Rattle.turn_lock.specs.Chronicles.{entries_by, entries_past}
use Rattle.turn_lock.specs.Passes.{HasJust, occurrences, ended_number}
use Rattle.turn_lock.specs.declared.view.Ended.{Ended}
use Rattle.turn_lock.proofs.Counts.{times_hit, times_miss, times_append, by_append}
use Rattle.turn_lock.proofs.Prefixes.{past_longer, past_prefix}
use Rattle.shared_book.specs.declared.item.SharedItem.{SharedItem}
use Rattle.shared_book.specs.Items.{item_author, items_of, history_shared, marks_shared, happenings_in}
use Rattle.shared_book.specs.Visits.{ended_port, HasMarks}
use Rattle.shared_book.proofs.Lists.{history_past, history_grows, history_by, marks_by, marks_items, happenings_more}
use Rattle.book_port.proofs.Chronicled.{marks_of_more}
use mathlib.Core.Logic.{dite}
use native.Mathlib.Decide.{ℕ_discrete}

module _ {E : Type 0} (author : E → ℕ) where
  -- what is past one front is what is past a shorter one between the two, and what is past the longer
  parts_past : (xs ys zs : List E) → IsPrefix xs ys → IsPrefix ys zs → entries_past xs zs ≡ entries_past xs ys ++ entries_past ys zs
  parts_past xs ys zs p q = ap (entries_past xs) (sym (past_prefix ys zs q)) ∙ past_longer xs ys (entries_past ys zs) p

  -- past the start just those that were made
  pub since : (first start seen : List E) (n : ℕ) (made : List E) → HasJust author first start seen n made → entries_by author n (entries_past start seen) ≡ made
  since first start seen n made k =
      sym (ap (λ l. l ++ entries_by author n (entries_past start seen)) k.none_before)
      ∙ sym (by_append author n (entries_past first start) (entries_past start seen))
      ∙ ap (entries_by author n) (sym (parts_past first start seen k.from_first k.since_start))
      ∙ k.just

  none_behind : (xs ys : List E) → xs ++ ys ≡ xs → ys ≡ []
  none_behind xs [] is = refl
  none_behind xs (y ∷ ys) is = let long = length-append xs (y ∷ ys) in let same = ap length is in absurd (omega (arith, long, same))

  -- where as much was made, nothing was added between
  pub none_since : (first other start seen later : List E) (n : ℕ) (made : List E) → HasJust author first start seen n made → HasJust author other start later n made → IsPrefix seen later → entries_by author n (entries_past seen later) ≡ []
  none_since first other start seen later n made k l p =
      none_behind made (entries_by author n (entries_past seen later))
      (sym (ap (λ m. m ++ entries_by author n (entries_past seen later)) (since first start seen n made k))
      ∙ sym (by_append author n (entries_past start seen) (entries_past seen later))
      ∙ ap (entries_by author n) (sym (parts_past start seen later k.since_start p))
      ∙ since other start later n made l)

-- its history then shows so
pub shows_made : (first : List SharedItem) (port : Ended SharedItem) (seen : List SharedItem) → 0 < port.number → HasJust item_author first port.start seen port.number port.made → HasJustMade (history_shared seen) (ended_port port)
shows_made first port seen pos k =
    ap (Rattle.book_port.specs.Chronicles.entries_by port.number) (sym (history_past port.start seen k.since_start))
    ∙ sym (history_by port.number (entries_past port.start seen) pos)
    ∙ ap history_shared (since item_author first port.start seen port.number port.made k)

pub went_on : (first other start seen later : List SharedItem) (n : ℕ) (made : List SharedItem) → 0 < n → HasJust item_author first start seen n made → HasJust item_author other start later n made → IsPrefix seen later → OthersWentOn n (history_shared seen) (history_shared later)
went_on first other start seen later n made pos k l p = record {
  others = history_shared (entries_past seen later);
  whole = history_grows seen later p;
  none = sym (history_by n (entries_past seen later) pos) ∙ ap history_shared (none_since item_author first other start seen later n made k l p);
}

-- a fact of each pass that was joined, as a fact of each port that was met
pub each_met : (P : PortEnd → Type 0) (ended : List (Ended SharedItem)) → ((i : ℕ) (e : Ended SharedItem) → get_elem? ended i ≡ some e → P (ended_port e)) → AllByRecursion P (map ended_port ended)
each_met P [] all = tt
each_met P (e ∷ ended) all = (all zero e refl, each_met P ended (λ i x h. all (suc i) x h))

-- ---- different numbers

none_of : (n : ℕ) (ended : List (Ended SharedItem)) → occurrences n (map ended_number ended) ≡ 0 → AllByRecursion (λ (other : PortEnd). other.author ≢ n) (map ended_port ended)
none_of n [] none = tt
none_of n (e ∷ ended) none = dite (ℕ_discrete e.number n)
    (λ is. let h = times_hit n e.number (map ended_number ended) is in absurd (omega (arith, h, none)))
    (λ ne. (ne, none_of n ended (sym (times_miss n e.number (map ended_number ended) ne) ∙ none)))

fewer : (n m : ℕ) (ended : List (Ended SharedItem)) → occurrences n (map ended_number ended) ≤ occurrences n (m ∷ map ended_number ended)
fewer n m ended = dite (ℕ_discrete m n) (λ is. let h = times_hit n m (map ended_number ended) is in omega (arith, h)) (λ ne. let h = times_miss n m (map ended_number ended) ne in omega (arith, h))

ended_differ : (ended : List (Ended SharedItem)) → ((i : ℕ) (e : Ended SharedItem) → get_elem? ended i ≡ some e → 0 < e.number) → ((n : ℕ) → 0 < n → occurrences n (map ended_number ended) ≤ 1) → AuthorsDiffer (map ended_port ended)
ended_differ [] all few = tt
ended_differ (e ∷ ended) all few =
    let pos = all zero e refl in
    let none : occurrences e.number (map ended_number ended) ≡ 0 = (let h = times_hit e.number e.number (map ended_number ended) refl in let most = few e.number pos in omega (arith, h, most)) in (
      none_of e.number ended none,
      ended_differ ended (λ i x h. all (suc i) x h) (λ n some. let most = few n some in let less = fewer n e.number ended in omega (arith, most, less)),
    )

pub authors_differ : (port : Ended SharedItem) (ended : List (Ended SharedItem)) → 0 < port.number → ((i : ℕ) (e : Ended SharedItem) → get_elem? ended i ≡ some e → 0 < e.number) → ((n : ℕ) → 0 < n → occurrences n (port.number ∷ map ended_number ended) ≤ 1) → AuthorsDiffer (ended_port port ∷ map ended_port ended)
authors_differ port ended pos all differ = ended_differ (port ∷ ended) (λ i e h. each i e h) differ
  where
    each : (i : ℕ) (e : Ended SharedItem) → get_elem? (port ∷ ended) i ≡ some e → 0 < e.number
    each zero e h = subst (λ (x : Ended SharedItem). 0 < x.number) (some-injective port e h) pos
    each (suc i) e h = all i e h

-- ---- marks

few_marks : (n : ℕ) (xs ys : List ℕ) → occurrences n ys ≤ occurrences n (xs ++ ys)
few_marks n xs ys = let h = times_append n xs ys in omega (arith, h)

-- the marks that were made stand in the book
pub shows_marks : {D : Type 0} (book : BookView D) (first : List SharedItem) (port : Ended SharedItem) → 0 < port.number → HasJust item_author first port.start (items_of book) port.number port.made → HasMarks book (ended_port port)
shows_marks book first port pos k =
    let past : List SharedItem = entries_past port.start (items_of book) in
    let made : occurrences port.number (marks_of (happenings_in past)) ≡ marks_shared port.made = sym (marks_by port.number past pos) ∙ ap marks_shared (since item_author first port.start (items_of book) port.number port.made k) in
    let all : marks_of (happenings_in port.start) ++ marks_of (happenings_in past) ≡ marks_of book.chronicle = sym (marks_of_more (happenings_in port.start) (happenings_in past)) ∙ ap marks_of (sym (happenings_more port.start past) ∙ ap happenings_in (past_prefix port.start (items_of book) k.since_start)) ∙ marks_items book in
    let some = few_marks port.number (marks_of (happenings_in port.start)) (marks_of (happenings_in past)) in
    subst (λ (m : ℕ). m ≤ occurrences port.number (marks_of book.chronicle)) made (subst (λ l. occurrences port.number (marks_of (happenings_in past)) ≤ occurrences port.number l) all some)

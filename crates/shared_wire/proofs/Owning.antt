-- What a pass knows of its records, and of those of the passes that were joined into it, as what its port shows.
use Rattle.std.proofs.Common.{◌≡◌, ◌≢◌, ◌⊎◌, inl, inr, ⊎_elim, ℕ, zero, suc, ◌<◌, ◌≤◌, List, [], ◌∷◌, ◌++◌, drop, length, map, refl, sym, ap, ◌∙◌, subst, arith, length-append}
use Rattle.std.specs.List.{AllByRecursion}
use mathlib.Core.Option.{some, some-injective}
use mathlib.Core.List.{IsPrefix}
use mathlib.Core.Logic.{dite}
use native.Mathlib.Decide.{ℕ_discrete}
use lib.ListN.{get_elem?}
use Rattle.turn_lock.specs.Chronicles.{AreUpTo, entries_by, entries_past}
use Rattle.turn_lock.specs.Passes.{AreByOneOf, HasJust, OwnsItsEntries, occurrences, ended_number}
use Rattle.turn_lock.specs.declared.view.Ended.{Ended}
use Rattle.turn_lock.specs.declared.view.View.{View}
use Rattle.turn_lock.proofs.Counts.{times_hit, times_miss, by_append, by_hit, by_miss}
use Rattle.turn_lock.proofs.Prefixes.{past_longer, past_prefix}
use Rattle.shared_wire.specs.Records.{WireRecord, Began, AreRecords, Follow, record_author}
use Rattle.shared_wire.specs.Visits.{VisitEnd, AreOfPorts, AreOfThese, IsOfOne, HasJustMade, AuthorsDiffer, OthersWentOn, ended_visit}
use Rattle.shared_wire.specs.inner.Keeping.{KeepsWire}

-- what is past one front is what is past a shorter one between the two, and what is past the longer
parts_past : (xs ys zs : List WireRecord) → IsPrefix xs ys → IsPrefix ys zs → entries_past xs zs ≡ entries_past xs ys ++ entries_past ys zs
parts_past xs ys zs p q = ap (entries_past xs) (sym (past_prefix ys zs q)) ∙ past_longer xs ys (entries_past ys zs) p

-- past the start just those that were made
since : (first start seen : List WireRecord) (n : ℕ) (made : List WireRecord) → HasJust record_author first start seen n made → entries_by record_author n (entries_past start seen) ≡ made
since first start seen n made k =
    sym (ap (λ l. l ++ entries_by record_author n (entries_past start seen)) k.none_before)
    ∙ sym (by_append record_author n (entries_past first start) (entries_past start seen))
    ∙ ap (entries_by record_author n) (sym (parts_past first start seen k.from_first k.since_start))
    ∙ k.just

none_behind : (xs ys : List WireRecord) → xs ++ ys ≡ xs → ys ≡ []
none_behind xs [] is = refl
none_behind xs (y ∷ ys) is = let long = length-append xs (y ∷ ys) in let same = ap length is in absurd (omega (arith, long, same))

-- where as much was made, nothing was added between
none_since : (first other start seen later : List WireRecord) (n : ℕ) (made : List WireRecord) → HasJust record_author first start seen n made → HasJust record_author other start later n made → IsPrefix seen later → entries_by record_author n (entries_past seen later) ≡ []
none_since first other start seen later n made k l p =
    none_behind made (entries_by record_author n (entries_past seen later))
    (sym (ap (λ m. m ++ entries_by record_author n (entries_past seen later)) (since first start seen n made k))
    ∙ sym (by_append record_author n (entries_past start seen) (entries_past seen later))
    ∙ ap (entries_by record_author n) (sym (parts_past start seen later k.since_start p))
    ∙ since other start later n made l)

-- the record with which the lock began is no port's
pub none_first : (v : View WireRecord) → KeepsWire v → (n : ℕ) → 0 < n → entries_by record_author n v.first ≡ []
none_first v k n pos = ap (entries_by record_author n) k.began ∙ by_miss record_author n (record { author = 0; deed = Began; left = k.began_at }) [] (λ e. omega (arith, e, pos))

pub shows_made : (first : List WireRecord) (pass : Ended WireRecord) (seen : List WireRecord) → entries_by record_author pass.number first ≡ [] → HasJust record_author first pass.start seen pass.number pass.made → HasJustMade seen (ended_visit pass)
shows_made first pass seen none k = record {
  since = entries_past pass.start seen;
  whole = sym (past_prefix pass.start seen k.since_start);
  none_before = ap (entries_by record_author pass.number) (sym (past_prefix first pass.start k.from_first))
      ∙ by_append record_author pass.number first (entries_past first pass.start)
      ∙ ap (λ l. l ++ entries_by record_author pass.number (entries_past first pass.start)) none
      ∙ k.none_before;
  just = since first pass.start seen pass.number pass.made k;
}

-- so that is all that its author did
pub all_of : (rs : List WireRecord) (visit : VisitEnd) → HasJustMade rs visit → entries_by record_author visit.author rs ≡ visit.made
all_of rs visit k =
    ap (entries_by record_author visit.author) k.whole
    ∙ by_append record_author visit.author visit.start k.since
    ∙ ap (λ l. l ++ entries_by record_author visit.author k.since) k.none_before
    ∙ k.just

pub went_on : (first other start seen later : List WireRecord) (n : ℕ) (made : List WireRecord) → HasJust record_author first start seen n made → HasJust record_author other start later n made → IsPrefix seen later → OthersWentOn n seen later
went_on first other start seen later n made k l p = record {
  others = entries_past seen later;
  whole = sym (past_prefix seen later p);
  none = none_since first other start seen later n made k l p;
}

-- a fact of each pass that was joined, as a fact of each port that was met
pub each_met : (P : VisitEnd → Type 0) (ended : List (Ended WireRecord)) → ((i : ℕ) (e : Ended WireRecord) → get_elem? ended i ≡ some e → P (ended_visit e)) → AllByRecursion P (map ended_visit ended)
each_met P [] all = tt
each_met P (e ∷ ended) all = (all zero e refl, each_met P ended (λ i x h. all (suc i) x h))

-- what is known of a pass is known of one that shows the same
pub same_owner : (p q : View WireRecord) → q.turn.number ≡ p.turn.number → q.first ≡ p.first → q.start ≡ p.start → q.seen ≡ p.seen → q.made ≡ p.made → q.ended ≡ p.ended → OwnsItsEntries record_author p → OwnsItsEntries record_author q
same_owner p q number first start seen made ended k =
    let is : OwnsItsEntries record_author (record q { turn = record q.turn { number = p.turn.number }; first = p.first; start = p.start; seen = p.seen; made = p.made; ended = p.ended }) = record { own = k.own; others = k.others; differ = k.differ } in
    subst (λ (v : View WireRecord). OwnsItsEntries record_author v) (λ i. record q { turn = record q.turn { number = sym number i }; first = sym first i; start = sym start i; seen = sym seen i; made = sym made i; ended = sym ended i }) is

-- ---- one author's records

pub all_by : (n : ℕ) (rs : List WireRecord) → AllByRecursion (λ (r : WireRecord). r.author ≡ n) rs → entries_by record_author n rs ≡ rs
all_by n [] all = refl
all_by n (r ∷ rs) all = by_hit record_author n r rs all.0 ∙ ap (λ l. r ∷ l) (all_by n rs all.1)

-- ---- different numbers

none_of : (n : ℕ) (ended : List (Ended WireRecord)) → occurrences n (map ended_number ended) ≡ 0 → AllByRecursion (λ (other : VisitEnd). other.author ≢ n) (map ended_visit ended)
none_of n [] none = tt
none_of n (e ∷ ended) none = dite (ℕ_discrete e.number n)
    (λ is. let h = times_hit n e.number (map ended_number ended) is in absurd (omega (arith, h, none)))
    (λ ne. (ne, none_of n ended (sym (times_miss n e.number (map ended_number ended) ne) ∙ none)))

fewer : (n m : ℕ) (ended : List (Ended WireRecord)) → occurrences n (map ended_number ended) ≤ occurrences n (m ∷ map ended_number ended)
fewer n m ended = dite (ℕ_discrete m n) (λ is. let h = times_hit n m (map ended_number ended) is in omega (arith, h)) (λ ne. let h = times_miss n m (map ended_number ended) ne in omega (arith, h))

ended_differ : (ended : List (Ended WireRecord)) → ((i : ℕ) (e : Ended WireRecord) → get_elem? ended i ≡ some e → 0 < e.number) → ((n : ℕ) → 0 < n → occurrences n (map ended_number ended) ≤ 1) → AuthorsDiffer (map ended_visit ended)
ended_differ [] all few = tt
ended_differ (e ∷ ended) all few =
    let pos = all zero e refl in
    let none : occurrences e.number (map ended_number ended) ≡ 0 = (let h = times_hit e.number e.number (map ended_number ended) refl in let most = few e.number pos in omega (arith, h, most)) in (
      none_of e.number ended none,
      ended_differ ended (λ i x h. all (suc i) x h) (λ n some. let most = few n some in let less = fewer n e.number ended in omega (arith, most, less)),
    )

pub authors_differ : (pass : Ended WireRecord) (ended : List (Ended WireRecord)) → 0 < pass.number → ((i : ℕ) (e : Ended WireRecord) → get_elem? ended i ≡ some e → 0 < e.number) → ((n : ℕ) → 0 < n → occurrences n (pass.number ∷ map ended_number ended) ≤ 1) → AuthorsDiffer (ended_visit pass ∷ map ended_visit ended)
authors_differ pass ended pos all differ = ended_differ (pass ∷ ended) (λ i e h. each i e h) differ
  where
    each : (i : ℕ) (e : Ended WireRecord) → get_elem? (pass ∷ ended) i ≡ some e → 0 < e.number
    each zero e h = subst (λ (x : Ended WireRecord). 0 < x.number) (some-injective pass e h) pos
    each (suc i) e h = all i e h

each_of_port : (most : ℕ) (before : WireRecord) (rs : List WireRecord) → Follow before rs → AreUpTo record_author most rs → AllByRecursion (λ (r : WireRecord). (0 < r.author) × (r.author ≤ most)) rs
each_of_port most before [] follow up = tt
each_of_port most before (r ∷ rs) follow up = ((follow.2.0, up.0), each_of_port most r rs follow.3 up.1)

-- ---- whose they are

of_one : (r : WireRecord) (ended : List (Ended WireRecord)) → 1 ≤ occurrences r.author (map ended_number ended) → IsOfOne (map ended_visit ended) r
of_one r [] some_are = absurd (omega (arith, some_are))
of_one r (e ∷ ended) some_are = dite (ℕ_discrete e.number r.author)
    (λ is. inl (sym is))
    (λ ne. let m = times_miss r.author e.number (map ended_number ended) ne in inr (of_one r ended (omega (arith, some_are, m))))

each_of_these : (ended : List (Ended WireRecord)) (before : WireRecord) (rs : List WireRecord) → Follow before rs → AreByOneOf record_author (map ended_number ended) rs → AllByRecursion (IsOfOne (map ended_visit ended)) rs
each_of_these ended before [] follow by = tt
each_of_these ended before (r ∷ rs) follow by = (
  ⊎_elim (λ (none : r.author ≡ 0). let some = follow.2.0 in absurd (omega (arith, none, some))) (λ (some_are : 1 ≤ occurrences r.author (map ended_number ended)). of_one r ended some_are) by.0,
  each_of_these ended r rs follow.3 by.1,
)

pub of_these : (first all : List WireRecord) (pass : Ended WireRecord) (ended : List (Ended WireRecord)) → length first ≡ 1 → AreRecords all → AreByOneOf record_author (pass.number ∷ map ended_number ended) (entries_past first all) → AreOfThese (ended_visit pass ∷ map ended_visit ended) all
of_these first [] pass ended one are by = absurd are
of_these first (r ∷ rs) pass ended one are by = each_of_these (pass ∷ ended) r rs are.2 (subst (λ n. AreByOneOf record_author (pass.number ∷ map ended_number ended) (drop n (r ∷ rs))) one by)

-- whose the records are of a lock that began with one
pub of_ports : (first all : List WireRecord) (most : ℕ) → length first ≡ 1 → AreRecords all → AreUpTo record_author most (entries_past first all) → AreOfPorts most all
of_ports first [] most one are up = absurd are
of_ports first (r ∷ rs) most one are up = each_of_port most r rs are.2 (subst (λ n. AreUpTo record_author most (drop n (r ∷ rs))) one up)

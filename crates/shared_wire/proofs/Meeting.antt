-- Two passes that are joined, a new one, and the first, as what their ports show.
use Rattle.std.proofs.Common.{◌≡◌, ◌⊎◌, inl, inr, ℕ, ◌+◌, ◌<◌, ◌≤◌, List, [], ◌∷◌, ◌++◌, Bool, false, true, length, map, leb, refl, sym, ap, ◌∙◌, subst, arith, if◌then◌else◌, length-append, ne_eqb}
use Rattle.std.proofs.lemmas.List.{map-append}
use mathlib.Core.Option.{some}
use lib.ListN.{get_elem?}
use Rattle.atomic_table.specs.Seated.{TableId}
use Rattle.h2_send.specs.Port.{PortView, Progress, unused_port}
use Rattle.turn_lock.specs.Passes.{HasEnded, OwnsItsEntries, ended_number, ended_pass, joined_passes, joined_view, longer, numbers_of, occurrences}
use Rattle.turn_lock.specs.declared.view.Ended.{Ended}
use Rattle.turn_lock.specs.declared.view.View.{View}
use Rattle.turn_lock.proofs.Counts.{times_append, times_miss}
use Rattle.turn_lock.proofs.Covering.{at_most, none_of_zero}
use Rattle.shared_wire.specs.Records.{WireRecord, record_author}
use Rattle.shared_wire.specs.Visits.{HasJustMade, IsFirstVisit, IsTwin, Meets, ended_visit, first_records, lock_name, most_authors, visit_of}
use Rattle.shared_wire.specs.inner.Keeping.{KeepsWire}
use Rattle.shared_wire.proofs.Owning.{authors_differ, each_met, none_first, shows_made, went_on}

at_seam : {A : Type 0} (xs ys : List A) (y : A) → get_elem? (xs ++ y ∷ ys) (length xs) ≡ some y
at_seam [] ys y = refl
at_seam (x ∷ xs) ys y = at_seam xs ys y

module _ (table other_table : TableId) (counts other_counts : PortView) (v u : View WireRecord) (kv : KeepsWire v) (ku : KeepsWire u) (owner : OwnsItsEntries record_author (joined_view v u)) where
  brought : joined_passes v u ≡ ended_pass v u ∷ u.ended
  brought = ap (λ b. if b then u.ended else ended_pass v u ∷ u.ended) (ne_eqb u.turn.number 0 (λ is. let pos = ku.some in omega (arith, pos, is)))

  abbrev both : List WireRecord
  both = longer v.seen u.seen

  other : HasEnded record_author v.first both (ended_pass v u)
  other = owner.others (length v.ended) (ended_pass v u) (ap (λ l. get_elem? (v.ended ++ l) (length v.ended)) brought ∙ at_seam v.ended u.ended (ended_pass v u))

  one_of_both : (b : Bool) → ((if b then u.seen else v.seen) ≡ v.seen) ⊎ ((if b then u.seen else v.seen) ≡ u.seen)
  one_of_both true = inr refl
  one_of_both false = inl refl

  abbrev self : Ended WireRecord
  self = record { number = v.turn.number; start = v.start; seen = both; finds = v.finds; made = v.made; host_seen = [] }

  pub meets : Meets (visit_of table v counts) (visit_of other_table u other_counts) (visit_of table (joined_view v u) counts)
  meets = record {
    seen = one_of_both (leb (length v.seen) (length u.seen));
    has_own = went_on v.first v.first v.start v.seen both v.turn.number v.made kv.owner.own owner.own other.host_within;
    has_other = went_on u.first v.first u.start u.seen both u.turn.number u.made ku.owner.own other.its other.within;
    has_made = (
      shows_made v.first self both (none_first v kv v.turn.number kv.some) owner.own,
      each_met (HasJustMade both) (v.ended ++ joined_passes v u) (λ i e h. let k = owner.others i e h in shows_made v.first e both (none_first v kv e.number k.some) k.its),
    );
    differ = authors_differ self (v.ended ++ joined_passes v u) kv.some (λ i e h. (owner.others i e h).some) owner.differ;
    new_is = λ i. record (visit_of table (joined_view v u) counts) { met = (map-append ended_visit v.ended (joined_passes v u) ∙ ap (λ l. map ended_visit v.ended ++ map ended_visit l) brought) i };
  }

-- ---- the numbers of a pass

pub same_numbers : (p q : View WireRecord) → q.turn.number ≡ p.turn.number → q.ended ≡ p.ended → numbers_of q ≡ numbers_of p
same_numbers p q number ended i = number i ∷ map ended_number (ended i)

-- of both, where the other pass has a number
joined_numbers : (v u : View WireRecord) → 0 < u.turn.number → numbers_of (joined_view v u) ≡ numbers_of v ++ numbers_of u
joined_numbers v u pos =
    ap (λ es. v.turn.number ∷ map ended_number (v.ended ++ es)) (ap (λ b. if b then u.ended else ended_pass v u ∷ u.ended) (ne_eqb u.turn.number 0 (λ is. omega (arith, pos, is))))
    ∙ ap (λ ns. v.turn.number ∷ ns) (map-append ended_number v.ended (ended_pass v u ∷ u.ended))

joined_times : (v u : View WireRecord) → 0 < u.turn.number → (n : ℕ) → occurrences n (numbers_of (joined_view v u)) ≡ occurrences n (numbers_of v) + occurrences n (numbers_of u)
joined_times v u pos n = ap (λ ns. occurrences n ns) (joined_numbers v u pos) ∙ times_append n (numbers_of v) (numbers_of u)

pub same_many : (p q : View WireRecord) (passes : ℕ) → q.turn.number ≡ p.turn.number → q.ended ≡ p.ended → length (numbers_of p) ≡ passes → length (numbers_of q) ≡ passes
same_many p q passes number ended many = ap length (same_numbers p q number ended) ∙ many

pub one_pass : (q : View WireRecord) → q.ended ≡ [] → length (numbers_of q) ≡ 1
one_pass q ended = ap (λ es. length (q.turn.number ∷ map ended_number es)) ended

pub both_passes : (v u : View WireRecord) (passes more : ℕ) → 0 < u.turn.number → length (numbers_of v) ≡ passes → length (numbers_of u) ≡ more → length (numbers_of (joined_view v u)) ≡ passes + more
both_passes v u passes more pos one two =
    let all = ap length (joined_numbers v u pos) in let parts = length-append (numbers_of v) (numbers_of u) in omega (arith, all, parts, one, two)

-- there are no more passes than numbers
pub few_passes : (v : View WireRecord) → KeepsWire v → length (numbers_of v) ≤ most_authors
few_passes v k = at_most most_authors (numbers_of v) k.owner.differ (none_of_zero v.turn.number v.ended k.some (λ i e at. (k.owner.others i e at).some)) k.small

-- ---- what holds of them

-- a pass that learns of more numbers still keeps the wire
pub still_kept : (v : View WireRecord) (known : ℕ) → v.turn.number ≤ known → KeepsWire v → KeepsWire (record v { known = known })
still_kept v known counted k = record { some = k.some; counted = counted; began_at = k.began_at; began = k.began; small = k.small; owner = record { own = k.owner.own; others = k.owner.others; differ = k.owner.differ } }

-- so does one that was joined into
pub joined_kept : (v u : View WireRecord) → KeepsWire v → KeepsWire u → OwnsItsEntries record_author (joined_view v u) → KeepsWire (joined_view v u)
joined_kept v u k ku owner = let counted = k.counted in record {
  some = k.some;
  counted = omega (arith, counted);
  began_at = k.began_at;
  began = k.began;
  small = λ n more. let one = k.small n more in let two = ku.small n more in let all = joined_times v u ku.some n in omega (arith, one, two, all);
  owner = owner;
}

-- and one that took a turn
pub turned_kept : (before after : View WireRecord) → KeepsWire before → after.turn.number ≡ before.turn.number → after.first ≡ before.first → after.ended ≡ before.ended → after.known ≡ before.known → OwnsItsEntries record_author after → KeepsWire after
turned_kept before after k number first ended known owner = let some = k.some in let counted = k.counted in record {
  some = omega (arith, number, some);
  counted = omega (arith, number, known, counted);
  began_at = k.began_at;
  began = first ∙ k.began;
  small = λ n more. ap (λ ns. occurrences n ns) (same_numbers before after number ended) ∙ k.small n more;
  owner = owner;
}

-- a new pass
pub new_kept : (v q : View WireRecord) → KeepsWire v → 0 < q.turn.number → q.turn.number ≤ most_authors → q.first ≡ v.first → q.ended ≡ [] → q.known ≡ q.turn.number → OwnsItsEntries record_author q → KeepsWire q
new_kept v q k pos less first ended known owner = record {
  some = pos;
  counted = omega (arith, known);
  began_at = k.began_at;
  began = first ∙ k.began;
  small = λ n more. ap (λ es. occurrences n (q.turn.number ∷ map ended_number es)) ended ∙ times_miss n q.turn.number [] (λ is. omega (arith, is, less, more));
  owner = owner;
}

pub is_twin : (table twin_table : TableId) (counts : PortView) (v q : View WireRecord) (known : ℕ) → KeepsWire v → twin_table ≡ table → 0 < q.turn.number → q.start ≡ v.seen → q.seen ≡ v.seen → q.finds ≡ [] → q.made ≡ [] → q.ended ≡ [] → q.known ≡ q.turn.number → v.known < q.known → q.known ≤ known → IsTwin (visit_of table v counts) (visit_of table (record v { known = known }) counts) (visit_of twin_table q unused_port)
is_twin table twin_table counts v q known k same pos start seen finds made ended is later given = let counted = k.counted in record {
  new_is = refl;
  other = λ e. omega (arith, e, counted, later, is);
  later = omega (arith, later, is);
  given_out = omega (arith, given, is);
  own = k.some;
  some = pos;
  twin_is = λ i. record {
    lock = lock_name (same i);
    author = q.turn.number;
    start = start i;
    seen = seen i;
    finds = finds i;
    made = made i;
    met = map ended_visit (ended i);
    known = is i;
    counts = unused_port;
  };
}

-- the pass of the lock's first port
pub first_kept : (after : View WireRecord) (at : Progress) → after.first ≡ first_records at → after.turn.number ≡ 1 → after.ended ≡ [] → after.known ≡ 1 → OwnsItsEntries record_author after → KeepsWire after
first_kept after at first number ended known owner = record {
  some = omega (arith, number);
  counted = omega (arith, number, known);
  began_at = at;
  began = first;
  small = λ n more. ap (λ es. occurrences n (after.turn.number ∷ map ended_number es)) ended ∙ times_miss n after.turn.number [] (λ is. omega (arith, is, number, more));
  owner = owner;
}

pub first_visit : (table : TableId) (after : View WireRecord) (at : Progress) → after.start ≡ first_records at → after.seen ≡ first_records at → after.turn.number ≡ 1 → after.finds ≡ [] → after.made ≡ [] → after.ended ≡ [] → after.known ≡ 1 → IsFirstVisit at (visit_of table after unused_port)
first_visit table after at start seen number finds made ended known i = record {
  lock = lock_name table;
  author = number i;
  start = start i;
  seen = seen i;
  finds = finds i;
  made = made i;
  met = map ended_visit (ended i);
  known = known i;
  counts = unused_port;
}

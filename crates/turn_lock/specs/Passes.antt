-- What a pass knows: its number, what it has seen and made, and what it took over from the passes that were joined into it.
use Rattle.std.specs.Prelude.{◌≡◌, ◌⊎◌, ℕ, ◌+◌, ◌<◌, ◌≤◌, ◌==◌, max, leb, true, false, List, [], ◌∷◌, ◌++◌, map, length, Option, None, if◌then◌else◌}
use mathlib.Core.Option.{some}
use mathlib.Core.List.{IsPrefix}
use lib.ListN.{get_elem?}
use Rattle.atomic_table.specs.declared.shared.Seat.{Seat}
use Rattle.turn_lock.specs.Chronicles.{entries_by, entries_past}
use Rattle.turn_lock.specs.declared.view.Ended.{Ended}
use Rattle.turn_lock.specs.declared.view.View.{View}
use Rattle.turn_lock.specs.inner.Turns.{turn_outside, opening_turn}

-- how often a number stands in a list
abbrev pub occurrences : ℕ → List ℕ → ℕ
occurrences n [] = 0
occurrences n (x ∷ xs) = (if x == n then 1 else 0) + occurrences n xs

abbrev pub ended_number : {E : Type 0} → Ended E → ℕ
ended_number e = e.number

-- the author of each entry is one of these, or the value itself, which is author 0
abbrev pub AreByOneOf : {E : Type 0} → (E → ℕ) → List ℕ → List E → Type 0
AreByOneOf author numbers [] = Unit {0}
AreByOneOf author numbers (e ∷ es) =
    ((author e ≡ 0) ⊎ (1 ≤ occurrences (author e) numbers)) × AreByOneOf author numbers es

-- the number of a view, and those of the passes that were joined into it
abbrev pub numbers_of : {E : Type 0} → View E → List ℕ
numbers_of v = v.turn.number ∷ map ended_number v.ended

-- a pass that is joined into another, as that one keeps it
abbrev pub ended_pass : {E : Type 0} → View E → View E → Ended E
ended_pass v u = record {
  number = u.turn.number;
  start = u.start;
  seen = u.seen;
  finds = u.finds;
  made = u.made;
  host_seen = v.seen;
}

-- what it brings: itself, where it has a number, and those that it kept
abbrev pub joined_passes : {E : Type 0} → View E → View E → List (Ended E)
joined_passes v u = if u.turn.number == 0 then u.ended else ended_pass v u ∷ u.ended

-- Past the list with which the lock was made, what was seen has of the entries with this number just those that were made, and
-- none of them stands in what was seen at the start.
pub record HasJust {E : Type 0} (author : E → ℕ) (first start seen : List E) (number : ℕ)
    (made : List E) : Type 0 where
  pub from_first : IsPrefix first start
  pub since_start : IsPrefix start seen
  pub none_before : entries_by author number (entries_past first start) ≡ []
  pub just : entries_by author number (entries_past first seen) ≡ made

-- so for a pass that was joined into another, and all that either had seen then was seen
pub record HasEnded {E : Type 0} (author : E → ℕ) (first seen : List E) (e : Ended E) : Type 0 where
  pub some : 0 < e.number
  pub its : HasJust author first e.start seen e.number e.made
  pub within : IsPrefix e.seen seen
  pub host_within : IsPrefix e.host_seen seen

-- The entries with the pass's number are just those that it made, and those with the number of a pass that was joined into it
-- just those that that pass made. All these numbers differ.
pub record OwnsItsEntries {E : Type 0} (author : E → ℕ) (v : View E) : Type 0 where
  pub own : HasJust author v.first v.start v.seen v.turn.number v.made
  pub others : (i : ℕ) (e : Ended E) → get_elem? v.ended i ≡ some e
      → HasEnded author v.first v.seen e
  pub differ : (n : ℕ) → 0 < n → occurrences n (numbers_of v) ≤ 1

-- the view of the pass that opens a lock, and has seen the list that the lock begins with
abbrev pub opening_view : {E : Type 0} → List E → View E
opening_view l = record {
  turn = opening_turn;
  live = true;
  first = l;
  start = l;
  seen = l;
  finds = [];
  made = [];
  ended = [];
  known = 1;
}

-- the view that a new pass begins with: it has seen and knows what the old one does, and has no number yet
abbrev pub split_view : {E : Type 0} → View E → View E
split_view v = record {
  turn = turn_outside 0;
  live = true;
  first = v.first;
  start = v.seen;
  seen = v.seen;
  finds = [];
  made = [];
  ended = [];
  known = v.known;
}

abbrev pub longer : {E : Type 0} → List E → List E → List E
longer xs ys = if leb (length xs) (length ys) then ys else xs

-- the first view once the second pass was joined into it: it has seen what either has seen
abbrev pub joined_view : {E : Type 0} → View E → View E → View E
joined_view v u = record v {
  seen = longer v.seen u.seen;
  ended = v.ended ++ joined_passes v u;
  known = max v.known u.known;
}

module _ {V E : Type 0} where
  -- the pass holds no turn and waits for none
  abbrev pub IsOutside : Seat (Option V) (View E) → Type 0
  IsOutside p =
      (p.me.0.live ≡ true) × (p.me.0.turn.ticket ≡ None) × (p.me.0.turn.own ≡ false)
      × (p.me.0.turn.found ≡ false) × (p.me.1 ≡ [])

  -- the pass has the turn, and the value is out with it
  abbrev pub IsInside : Seat (Option V) (View E) → Type 0
  IsInside p =
      (p.me.0.live ≡ true) × (0 < p.me.0.turn.number) × (p.me.0.turn.own ≡ true)
      × (p.me.0.turn.found ≡ true) × (p.me.1 ≡ (0, None) ∷ [])

  -- the first pass of a lock whose value began with this list
  abbrev pub IsFirst : List E → Seat (Option V) (View E) → Type 0
  IsFirst l q =
      IsOutside q × (q.me.0.turn.number ≡ 1) × (q.me.0.first ≡ l) × (q.me.0.start ≡ l)
      × (q.me.0.seen ≡ l) × (q.me.0.finds ≡ []) × (q.me.0.made ≡ []) × (q.me.0.ended ≡ [])
      × (q.me.0.known ≡ 1)

  -- a new pass has a number, has seen what the old one has seen, and made nothing
  abbrev pub IsNew : Seat (Option V) (View E) → Seat (Option V) (View E) → Type 0
  IsNew p q =
      IsOutside q × (0 < q.me.0.turn.number) × (q.me.0.first ≡ p.me.0.first)
      × (q.me.0.start ≡ p.me.0.seen) × (q.me.0.seen ≡ p.me.0.seen) × (q.me.0.finds ≡ [])
      × (q.me.0.made ≡ []) × (q.me.0.ended ≡ []) × (q.me.0.known ≡ q.me.0.turn.number)

  -- the pass is the same one: its lock, its number, the lists that the lock and it began with, the passes joined into it, and what it knows of numbers
  abbrev pub IsSamePass : Seat (Option V) (View E) → Seat (Option V) (View E) → Type 0
  IsSamePass p q =
      (q.table_id ≡ p.table_id) × (q.id ≡ p.id) × (q.me.0.turn.number ≡ p.me.0.turn.number)
      × (q.me.0.first ≡ p.me.0.first) × (q.me.0.start ≡ p.me.0.start)
      × (q.me.0.ended ≡ p.me.0.ended) × (q.me.0.known ≡ p.me.0.known)

-- The rule of the lock's table: four words, one slot, and what each seat knows. Word 0 is the next ticket and word 1 the one
-- that is served, both modulo 2 to the 64; word 2 is the length of the value's list, and word 3 the last number given out.
use Rattle.std.specs.Prelude.{◌≡◌, ℕ, ◌+◌, ◌<◌, ◌≤◌, true, List, [], ◌∷◌, map, length, slice_index, Option}
use mathlib.Core.Option.{some}
use mathlib.Core.List.{IsPrefix}
use lib.ListN.{get_elem?}
use Rattle.atomic_table.specs.Table.{State}
use Rattle.turn_lock.specs.declared.view.View.{View}
use Rattle.turn_lock.specs.declared.view.Ended.{Ended}
use Rattle.turn_lock.specs.declared.view.Turn.{Turn}
use Rattle.turn_lock.specs.Chronicles.{entries_by, entries_past}
use Rattle.turn_lock.specs.Passes.{occurrences, numbers_of, HasJust, HasEnded}
use Rattle.turn_lock.specs.inner.Turns.{KeepsTurns}

-- how often a number stands among all views
abbrev pub occurrences_in_views : {E : Type 0} → ℕ → List (View E) → ℕ
occurrences_in_views n [] = 0
occurrences_in_views n (v ∷ vs) = occurrences n (numbers_of v) + occurrences_in_views n vs

-- what a view knows of the list
pub record HasSeen {E : Type 0} (first log : List E) (v : View E) : Type 0 where
  pub first_is : v.first ≡ first
  pub from_first : IsPrefix first v.seen
  pub from_start : IsPrefix first v.start
  pub since_start : IsPrefix v.start v.seen
  pub so_far : IsPrefix v.seen log
  pub each_find : (i : ℕ) (f : List E) → get_elem? v.finds i ≡ some f → IsPrefix f v.seen
  pub rising : (i k : ℕ) (f g : List E) → i ≤ k → get_elem? v.finds i ≡ some f
      → get_elem? v.finds k ≡ some g → IsPrefix f g
  pub whole : v.turn.found ≡ true → v.seen ≡ log

pub record KeepsLists {E : Type 0} (first log : List E) (count : ℕ) (views : List (View E))
    : Type 0 where
  pub counted : count ≡ length log
  pub grows : IsPrefix first log
  pub each : (j : ℕ) (v : View E) → get_elem? views j ≡ some v → v.live ≡ true → HasSeen first log v

-- the entries entries_past the first list with a view's numbers are its own
pub record OwnsEntries {E : Type 0} (author : E → ℕ) (later : List E) (authors : ℕ) (v : View E)
    : Type 0 where
  pub mine : 0 < v.turn.number → entries_by author v.turn.number later ≡ v.made
  pub none_made : v.turn.number ≡ 0 → v.made ≡ []
  pub others : (i : ℕ) (e : Ended E) → get_elem? v.ended i ≡ some e
      → (0 < e.number) × (entries_by author e.number later ≡ e.made)
  pub known : v.known ≤ authors

pub record KeepsNumbers {E : Type 0} (author : E → ℕ) (later : List E) (authors : ℕ)
    (views : List (View E)) : Type 0 where
  pub limit : authors ≤ 4294967295
  pub once : (n : ℕ) → 0 < n → occurrences_in_views n views ≤ 1
  pub none_above : (n : ℕ) → authors < n → occurrences_in_views n views ≡ 0
  pub unwritten : (n : ℕ) → authors < n → entries_by author n later ≡ []
  pub each : (j : ℕ) (v : View E) → get_elem? views j ≡ some v → OwnsEntries author later authors v

-- what a view has seen has, of each of its numbers, just the entries that it keeps
pub record SeesItsEntries {E : Type 0} (author : E → ℕ) (first : List E) (v : View E) : Type 0 where
  pub own : 0 < v.turn.number → HasJust author first v.start v.seen v.turn.number v.made
  pub others : (i : ℕ) (e : Ended E) → get_elem? v.ended i ≡ some e → HasEnded author first v.seen e

abbrev pub EachSeesItsEntries : {E : Type 0} → (E → ℕ) → List E → List (View E) → Type 0
EachSeesItsEntries {E} author first views =
    (j : ℕ) (v : View E) → get_elem? views j ≡ some v → v.live ≡ true
    → SeesItsEntries author first v

abbrev pub turn_of : {E : Type 0} → View E → Turn
turn_of v = v.turn

-- the rule as a whole, in four parts: the tickets, the lists, the numbers, and what was seen of their entries
pub record KeepsRule {V E : Type 0} (entries : V → List E) (author : E → ℕ) (first : List E)
    (s : State (Option V) (View E)) : Type 0 where
  pub log : List E
  pub turns : KeepsTurns (λ x. entries x ≡ log) s.words s.homes (map turn_of s.views)
  pub lists : KeepsLists first log (slice_index s.words 2) s.views
  pub numbers : KeepsNumbers author (entries_past first log) (slice_index s.words 3) s.views
  pub sees : EachSeesItsEntries author first s.views

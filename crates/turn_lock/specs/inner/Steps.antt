-- What each step on the lock's table tells the seat that makes it.
use Rattle.std.specs.Prelude.{◌≡◌, ◌≢◌, ℕ, ◌%◌, ◌<◌, ◌≤◌, ◌+◌, true, false, List, [], ◌∷◌, ◌++◌, Option, Some, None}
use mathlib.Core.List.{IsPrefix}
use Rattle.atomic_table.specs.Table.{Me, Step, rest}
use Rattle.turn_lock.specs.declared.view.View.{View}
use Rattle.turn_lock.specs.Chronicles.{AreUpTo, entries_by, entries_past}
use Rattle.turn_lock.specs.Passes.{OwnsItsEntries, numbers_of, occurrences}
use Rattle.turn_lock.specs.inner.Turns.{ticket_modulus, turn_outside}

-- what a seat knows and holds
abbrev pub SeatState : Type 0 → Type 0 → Type 0
SeatState V E = Me (Option V) (View E)

-- the view of a seat whose pass was joined into another
abbrev pub spent_view : {E : Type 0} → View E
spent_view = record {
  turn = turn_outside 0;
  live = false;
  first = [];
  start = [];
  seen = [];
  finds = [];
  made = [];
  ended = [];
  known = 0;
}

module _ {V E : Type 0} where
  abbrev pub AfterDraw : Step (Option V) → SeatState V E → ℕ → SeatState V E → Type 0
  AfterDraw st m r m' = (t : ℕ) × (r ≡ t % ticket_modulus)
      × (m' ≡ (record m.0 { turn = record m.0.turn { ticket = Some t } }, m.1))

  abbrev pub AfterLook : Step (Option V) → SeatState V E → ℕ → SeatState V E → Type 0
  AfterLook st m r m' = (t : ℕ) → m.0.turn.ticket ≡ Some t
      → (r ≡ t % ticket_modulus
      → m' ≡ (record m.0 { turn = record m.0.turn { own = true } }, m.1))
      × (r ≢ t % ticket_modulus → m' ≡ m)

  abbrev pub AfterFind : (V → List E) → (E → ℕ) → Step (Option V) → SeatState V E → ℕ
      → SeatState V E → Type 0
  AfterFind entries author st m r m' = (x : V)
      × (m' ≡ (
        record m.0 {
          turn = record m.0.turn { found = true };
          seen = entries x;
          finds = m.0.finds ++ entries x ∷ [];
        },
        (0, Some x) ∷ m.1,
      ))
      × IsPrefix m.0.seen m'.0.seen × OwnsItsEntries author m'.0

  abbrev pub AfterNote : (V → List E) → (E → ℕ) → Step (Option V) → SeatState V E → ℕ
      → SeatState V E → Type 0
  AfterNote entries author st m r m' = (x : V) → m.1 ≡ (0, Some x) ∷ []
      → m' ≡ (
        record m.0 {
          seen = entries x;
          made = m.0.made
              ++ entries_by author m.0.turn.number (entries_past m.0.seen (entries x));
        },
        m.1,
      )

  abbrev pub AfterServe : (E → ℕ) → Step (Option V) → SeatState V E → ℕ → SeatState V E → Type 0
  AfterServe author st m r m' =
      (m' ≡ (record m.0 { turn = turn_outside m.0.turn.number }, rest m.1))
      × OwnsItsEntries author m'.0

  abbrev pub AfterKnow : (E → ℕ) → Step (Option V) → SeatState V E → ℕ → SeatState V E → Type 0
  AfterKnow author st m r m' = (m' ≡ m) × OwnsItsEntries author m'.0

  abbrev pub AfterTake : Step (Option V) → SeatState V E → ℕ → SeatState V E → Type 0
  AfterTake st m r m' =
      m' ≡ (record m.0 { turn = record m.0.turn { hollow = false } }, (0, None) ∷ m.1)

  abbrev pub AfterCount : (E → ℕ) → Step (Option V) → SeatState V E → ℕ → SeatState V E → Type 0
  AfterCount author st m r m' =
      (m' ≡ (record m.0 { known = r }, m.1)) × (m.0.known ≤ r) × (r ≤ 4294967295)
      × (m.0.live ≡ true → AreUpTo author r (entries_past m.0.first m.0.seen))

  -- and none of the seat's numbers is above that
  abbrev pub AfterCensus : (E → ℕ) → Step (Option V) → SeatState V E → ℕ → SeatState V E → Type 0
  AfterCensus author st m r m' = AfterCount author st m r m'
      × ((n : ℕ) → r < n → occurrences n (numbers_of m.0) ≡ 0)

  abbrev pub AfterEnrol : (E → ℕ) → Step (Option V) → SeatState V E → ℕ → SeatState V E → Type 0
  AfterEnrol author st m r m' =
      (r ≡ st.first → (m' ≡ (
        record m.0 {
          turn = turn_outside (st.first + 1);
          known = st.first + 1;
        },
        m.1,
      )) × OwnsItsEntries author m'.0)
      × (r ≢ st.first → (m' ≡ (record m.0 { known = r }, m.1)) × (m.0.known ≤ r)
      × (r ≤ 4294967295))

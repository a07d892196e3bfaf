-- The rule of the tickets, over plain lists: the words, the slot, and of each view the part about tickets.
use Rattle.std.specs.Prelude.{◌≡◌, ℕ, ◌%◌, ◌<◌, ◌≤◌, true, false, List, [], ◌∷◌, length, slice_index, Option, Some, None}
use mathlib.Core.Option.{some}
use mathlib.Core.Option as maybe
use lib.ListN.{get_elem?}
use Rattle.turn_lock.specs.declared.view.Turn.{Turn}

abbrev pub ticket_modulus : ℕ
ticket_modulus = 18446744073709551616

-- what the seat j may know where the tickets from `served` to before `drawn` are out, each with its owner
pub record SeatKnows (served drawn : ℕ) (owner : ℕ → ℕ) (j : ℕ) (v : Turn) : Type 0 where
  pub ticket : (t : ℕ) → v.ticket ≡ Some t → (served ≤ t) × (t < drawn) × (owner t ≡ j)
  pub turn : v.own ≡ true → v.ticket ≡ Some served
  pub inside : v.found ≡ true → v.own ≡ true
  pub unnumbered : v.number ≡ 0 → v.ticket ≡ None

-- numbers other than 0 differ, and are small
abbrev pub NumbersDiffer : List Turn → Type 0
NumbersDiffer vs =
    (j k : ℕ) (v w : Turn) → get_elem? vs j ≡ some v → get_elem? vs k ≡ some w
    → v.number ≡ w.number → 0 < v.number → j ≡ k

abbrev pub NumbersAreSmall : List Turn → Type 0
NumbersAreSmall vs = (j : ℕ) (v : Turn) → get_elem? vs j ≡ some v → v.number ≤ 4294967295

-- no view has found
abbrev pub NoneFound : List Turn → Type 0
NoneFound vs = (j : ℕ) (v : Turn) → get_elem? vs j ≡ some v → v.found ≡ false

abbrev pub HasTicket : List Turn → ℕ → ℕ → Type 0
HasTicket vs j t = (v : Turn) × (get_elem? vs j ≡ some v) × (v.ticket ≡ Some t)

pub record KeepsTurns {V : Type 0} (Fits : V → Type 0) (words : List ℕ)
    (homes : List (maybe.Option (Option V))) (vs : List Turn) : Type 0 where
  pub served : ℕ
  pub drawn : ℕ
  pub owner : ℕ → ℕ
  pub wide : length words ≡ 4
  pub next : slice_index words 0 ≡ drawn % ticket_modulus
  pub serving : slice_index words 1 ≡ served % ticket_modulus
  pub order : served ≤ drawn
  pub each_ticket : (t : ℕ) → served ≤ t → t < drawn → HasTicket vs (owner t) t
  pub each_seat : (j : ℕ) (v : Turn) → get_elem? vs j ≡ some v → SeatKnows served drawn owner j v
  pub single : length homes ≡ 1
  pub hollow : (j : ℕ) (v : Turn) → get_elem? vs j ≡ some v → v.hollow ≡ true
      → (v.found ≡ true) × (homes ≡ some None ∷ [])
  pub home : NoneFound vs → (x : V) × (homes ≡ some (Some x) ∷ []) × Fits x

abbrev pub turn_outside : ℕ → Turn
turn_outside n = record { number = n; ticket = None; own = false; found = false; hollow = false }

-- the turn of the pass that opens the lock
abbrev pub opening_turn : Turn
opening_turn = record { number = 1; ticket = Some 0; own = true; found = true; hollow = true }

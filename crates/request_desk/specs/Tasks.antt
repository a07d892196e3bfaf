-- What is to be done for a message, and its answer at the history that is found (gNMI 3.2 to 3.4).
use Rattle.std.specs.Prelude.{ℕ, List, Bool, true, false, Result, Ok, Err}
use Rattle.base_kinds.specs.declared.entry.Entry.{Entry}
use Rattle.base_kinds.specs.declared.entry.Ask.{Ask}
use Rattle.base_kinds.specs.declared.refusal.Refusal.{Refusal}
use Rattle.base_kinds.specs.Step.{Rules, after_expiry, step, with_answer}

pub data Task : Type 0 where
  -- the message is answered by itself
  Says : Result (List ℕ) Refusal → Task
  -- a change, with the reply at the stamp of its entry
  Changes : Ask → (ℕ → List ℕ) → Task
  -- a look, with the answer at the history that is found
  Looks : (List Entry → Result (List ℕ) Refusal) → Task

-- a turn of the book is taken for it
abbrev pub needs_turn : Task → Bool
needs_turn (Says answer) = false
needs_turn (Changes ask reply) = true
needs_turn (Looks answer) = true

-- the reply to a change that was judged so
abbrev pub stamped : (ℕ → List ℕ) → Result Entry Refusal → Result (List ℕ) Refusal
stamped reply (Ok entry) = Ok (reply entry.stamp)
stamped reply (Err refusal) = Err refusal

-- The answer where this history is found, at this reading of the clock. A trial that is due expires before anything else.
abbrev pub answer_at : Rules → ℕ → Task → List Entry → ℕ → Result (List ℕ) Refusal
answer_at rules author (Says answer) h now = answer
answer_at rules author (Changes ask reply) h now = stamped reply (step rules h now author ask)
answer_at rules author (Looks answer) h now = answer (after_expiry h now)

-- the history that is left behind
abbrev pub left_at : Rules → ℕ → Task → List Entry → ℕ → List Entry
left_at rules author (Says answer) h now = h
left_at rules author (Changes ask reply) h now =
    with_answer (after_expiry h now) (step rules h now author ask)
left_at rules author (Looks answer) h now = after_expiry h now

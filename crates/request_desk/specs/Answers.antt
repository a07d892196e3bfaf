-- What a message is answered through a port of a book.
use Rattle.std.specs.Prelude.{◌≡◌, ◌⊎◌, ℕ, List, true, Option, Some, None, Result, Err}
use Rattle.base_kinds.specs.declared.refusal.Refusal.{Refusal}
use Rattle.base_kinds.specs.declared.refusal.Refusal.TheVariants as refusals
use Rattle.base_kinds.specs.Step.{Rules}
use Rattle.book_port.specs.Answers.{IsCutShort}
use Rattle.book_port.specs.Follows.{Turn}
use Rattle.book_port.specs.Opened.{rules_in}
use Rattle.book_port.specs.Ports.{PortView, TakesTurn}
use Rattle.request_desk.specs.Tasks.{Task, Says, needs_turn, answer_at, left_at}

-- the turn was answered in full, at the history that it found
pub record IsDone (rules : Rules) (author : ℕ) (task : Task) (turn : Turn)
    (result : Result (List ℕ) Refusal) : Type 0 where
  pub answer : result ≡ answer_at rules author task turn.found turn.reading
  pub left : turn.left ≡ left_at rules author task turn.found turn.reading

-- A fault of the disk, or want of memory, ended the turn before that: nothing was added but the event of the clock.
pub record IsEnded (turn : Turn) (result : Result (List ℕ) Refusal) : Type 0 where
  pub cause : (result ≡ Err refusals.DiskFault) ⊎ (result ≡ Err refusals.NoMemory)
  pub left : IsCutShort turn.found turn.reading turn.left

-- a message that needs no turn is answered by itself
abbrev pub IsSaid : Task → Result (List ℕ) Refusal → Type 0
IsSaid (Says answer) result = result ≡ answer
IsSaid task result = ⊥

-- What is answered without a turn, and in one. Memory may be wanting before a turn and in it, the disk fails in a turn alone, and
-- where neither comes the answer is the one that is defined.
abbrev pub Answers : Rules → ℕ → Task → Option Turn → Result (List ℕ) Refusal → Type 0
Answers rules author task None result = IsSaid task result ⊎ (result ≡ Err refusals.NoMemory)
Answers rules author task (Some turn) result =
    (needs_turn task ≡ true) × (IsDone rules author task turn result ⊎ IsEnded turn result)

-- What it does at its port: nothing, or one turn at this reading. A mark is added exactly where a fault of the disk is answered.
abbrev pub Moves : PortView → ℕ → Option Turn → Result (List ℕ) Refusal → PortView → Type 0
Moves old now None result new = new ≡ old
Moves old now (Some turn) result new = (turn.reading ≡ now) × TakesTurn old turn result new

-- a message is answered through a port, at this reading of the clock
pub record IsAnsweredBy (task : Task) (old : PortView) (now : ℕ) (result : Result (List ℕ) Refusal)
    (new : PortView) : Type 0 where
  pub turn : Option Turn
  pub answers : Answers (rules_in old.opened) old.author task turn result
  pub moves : Moves old now turn result new

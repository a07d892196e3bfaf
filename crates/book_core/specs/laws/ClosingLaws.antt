-- What ends the open trial is never refused for want of memory, where the call before was refused
-- neither for that nor for the disk: not the ask that confirms or cancels it, nor the event of the clock
-- by which it expires. The premises are clauses of the calls of a book.
use Rattle.std.specs.Prelude.{◌≡◌, ◌⊎◌, ℕ, ◌<◌, List, ◌++◌, length, false, Some, Result, Ok, IsOk, IsErrOf}
use Rattle.base_kinds.specs.declared.path.Elem.{Elem}
use Rattle.base_kinds.specs.declared.entry.Ask.{Ask}
use Rattle.base_kinds.specs.declared.entry.Entry.{Entry}
use Rattle.base_kinds.specs.declared.entry.View.{View}
use Rattle.base_kinds.specs.declared.refusal.Refusal.{Refusal}
use Rattle.base_kinds.specs.declared.refusal.Refusal.TheVariants as refusals
use Rattle.base_kinds.specs.History.{OpenTrial, world_of}
use Rattle.base_kinds.specs.Step.{Rules, after_expiry, is_due, kind_of_ask, new_stamp, next_entry, step}
use Rattle.history_laws.specs.TrialLaws.{ClosesTrial}
use Rattle.book_port.specs.declared.happening.Happening.{Happening}
use Rattle.book_port.specs.Answers.{AnswersSet, AnswersLook}
use Rattle.book_port.specs.Chronicles.{Adds, entered, history_of, marks_of}
use Rattle.commit_core.specs.CoreView.{EndsTrial}
use Rattle.book_core.specs.Views.{most_marks}

-- ---- the room of a mark

abbrev pub HasMarkRoom : List Happening → Type 0
HasMarkRoom chronicle = length (marks_of chronicle) < most_marks

-- a call that found and left these chronicles was refused neither for the disk nor for want of memory
pub record IsAnswered {T : Type 0} (author : ℕ) (result : Result T Refusal)
    (old new : List Happening)
    : Type 0 where
  pub adds : Adds author result old new
  pub room : (IsErrOf result refusals.NoMemory → ⊥) → HasMarkRoom old
  pub no_fault : IsErrOf result refusals.DiskFault → ⊥
  pub no_want : IsErrOf result refusals.NoMemory → ⊥

-- it leaves room, and so does an opening
abbrev pub AnsweredLeaveRoom : Type 0 → Type 0
AnsweredLeaveRoom T = (author : ℕ) (result : Result T Refusal) (old new : List Happening)
    → IsAnswered author result old new → HasMarkRoom new

abbrev pub OpeningsLeaveRoom : Type 0
OpeningsLeaveRoom = (h : List Entry) → HasMarkRoom (entered h)

-- ---- the ends of a trial

-- the ask confirms or cancels the open trial, which isn't due at this reading
pub record EndsOpenTrial (h : List Entry) (now : ℕ) (ask : Ask) : Type 0 where
  pub trial : OpenTrial
  pub was_open : (world_of h).trial ≡ Some trial
  pub not_due : is_due h now ≡ false
  pub closes : ClosesTrial trial.id ask

-- whatever the rules are, it becomes the next entry
abbrev pub EndingsAreAccepted : Type 0
EndingsAreAccepted = (rules : Rules) (h : List Entry) (now author : ℕ) (ask : Ask)
    → EndsOpenTrial h now ask
    → step rules h now author ask
    ≡ Ok (next_entry h (new_stamp h now) author (kind_of_ask (new_stamp h now) ask))

-- a Set that found and left these chronicles
pub record IsSetOn (rules : Rules) (now author : ℕ) (ask : Ask) (result : Result ℕ Refusal)
    (found left : List Happening) : Type 0 where
  pub answer : AnswersSet rules (history_of found) now author ask result (history_of left)
  pub closes : IsErrOf result refusals.NoMemory → HasMarkRoom found
      → (history_of left ≡ after_expiry (history_of found) now) × (EndsTrial ask → ⊥)

-- and a look
pub record IsLookOn (now : ℕ) (patterns : List (List Elem)) (result : Result View Refusal)
    (found left : List Happening) : Type 0 where
  pub answer : AnswersLook (history_of found) now patterns result (history_of left)
  pub memory : IsErrOf result refusals.NoMemory → HasMarkRoom found
      → history_of left ≡ after_expiry (history_of found) now

-- an ask that ends the open trial is answered with its stamp, or refused for the disk
abbrev pub EndingsAreAnswered : Type 0
EndingsAreAnswered = (rules : Rules) (now author : ℕ) (ask : Ask) (result : Result ℕ Refusal)
    (found left : List Happening)
    → HasMarkRoom found → EndsOpenTrial (history_of found) now ask
    → IsSetOn rules now author ask result found left
    → IsOk result ⊎ IsErrOf result refusals.DiskFault

-- whatever is asked or looked at, it is refused for the disk, or the event of the clock stands
abbrev pub SetsExpire : Type 0
SetsExpire = (rules : Rules) (now author : ℕ) (ask : Ask) (result : Result ℕ Refusal)
    (found left : List Happening)
    → HasMarkRoom found → IsSetOn rules now author ask result found left
    → IsErrOf result refusals.DiskFault
    ⊎ ((later : List Entry) × (history_of left ≡ after_expiry (history_of found) now ++ later))

abbrev pub LooksExpire : Type 0
LooksExpire = (now : ℕ) (patterns : List (List Elem)) (result : Result View Refusal)
    (found left : List Happening)
    → HasMarkRoom found → IsLookOn now patterns result found left
    → IsErrOf result refusals.DiskFault ⊎ (history_of left ≡ after_expiry (history_of found) now)

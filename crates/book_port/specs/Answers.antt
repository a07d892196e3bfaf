-- What a call of a book is answered, by the history that it found and the one that it left (gNMI 3.3 and 3.4).
use Rattle.std.specs.Prelude.{◌≡◌, ◌⊎◌, ℕ, List, [], ◌∷◌, ◌++◌, Result, Ok, Err}
use Rattle.base_kinds.specs.declared.path.Elem.{Elem}
use Rattle.base_kinds.specs.declared.entry.Ask.{Ask}
use Rattle.base_kinds.specs.declared.entry.Entry.{Entry}
use Rattle.base_kinds.specs.declared.entry.View.{View}
use Rattle.base_kinds.specs.declared.refusal.Refusal.{Refusal}
use Rattle.base_kinds.specs.declared.refusal.Refusal.TheVariants as refusals
use Rattle.base_kinds.specs.Events.{view_of}
use Rattle.base_kinds.specs.Step.{Rules, after_expiry, step, with_answer}

-- The call was cut short before the event of the clock, or behind it.
abbrev pub IsCutShort : List Entry → ℕ → List Entry → Type 0
IsCutShort h now left = (left ≡ h) ⊎ (left ≡ after_expiry h now)

-- the ask became an entry, which is the last one left behind
pub record IsAccepted (rules : Rules) (h : List Entry) (now author : ℕ) (ask : Ask) (stamp : ℕ)
    (left : List Entry) : Type 0 where
  pub entry : Entry
  pub judged : step rules h now author ask ≡ Ok entry
  pub stamp_is : stamp ≡ entry.stamp
  pub left_is : left ≡ after_expiry h now ++ entry ∷ []

-- the rules refuse the ask, and nothing is left behind but the event of the clock
pub record IsRefused (rules : Rules) (h : List Entry) (now author : ℕ) (ask : Ask)
    (refusal : Refusal)
    (left : List Entry) : Type 0 where
  pub judged : step rules h now author ask ≡ Err refusal
  pub left_is : left ≡ after_expiry h now

-- What a Set is answered. A fault of the disk, and want of memory, may cut it short.
abbrev pub AnswersSet : Rules → List Entry → ℕ → ℕ → Ask → Result ℕ Refusal → List Entry → Type 0
AnswersSet rules h now author ask (Ok stamp) left = IsAccepted rules h now author ask stamp left
AnswersSet rules h now author ask (Err refusals.DiskFault) left = IsCutShort h now left
AnswersSet rules h now author ask (Err refusals.NoMemory) left = IsCutShort h now left
AnswersSet rules h now author ask (Err refusal) left = IsRefused rules h now author ask refusal left

-- what a look is answered, which nothing else refuses
abbrev pub AnswersLook : List Entry → ℕ → List (List Elem) → Result View Refusal → List Entry
    → Type 0
AnswersLook h now patterns (Ok view) left =
    (view ≡ view_of left patterns) × (left ≡ after_expiry h now)
AnswersLook h now patterns (Err refusals.DiskFault) left = IsCutShort h now left
AnswersLook h now patterns (Err refusals.NoMemory) left = IsCutShort h now left
AnswersLook h now patterns (Err refusal) left = ⊥

-- the histories that a Set goes through: the one found, that with the event of the clock, and that with the answer's entry
abbrev pub set_stages : Rules → List Entry → ℕ → ℕ → Ask → List (List Entry)
set_stages rules h now author ask =
    h ∷ after_expiry h now ∷ with_answer (after_expiry h now) (step rules h now author ask) ∷ []

-- those that a look goes through
abbrev pub look_stages : List Entry → ℕ → List (List Entry)
look_stages h now = h ∷ after_expiry h now ∷ []

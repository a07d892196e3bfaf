-- What holds of trials, whatever a target judges by (gNMI commit-confirmed extension).
use Rattle.std.specs.Prelude.{◌≡◌, ℕ, List, [], ◌∷◌, ◌++◌, Some, None, Ok, Err, ◌⊎◌}
use Rattle.base_kinds.specs.declared.operation.Op.{Op}
use Rattle.base_kinds.specs.declared.entry.Entry.{Entry}
use Rattle.base_kinds.specs.declared.entry.Kind.{Kind}
use Rattle.base_kinds.specs.declared.entry.Kind.TheVariants as kinds
use Rattle.base_kinds.specs.declared.entry.Ask.{Ask}
use Rattle.base_kinds.specs.declared.entry.Ask.TheVariants as asks
use Rattle.base_kinds.specs.declared.refusal.Refusal.{Refusal}
use Rattle.base_kinds.specs.declared.refusal.Refusal.TheVariants.{NoTrial, WrongId}
use Rattle.base_kinds.specs.History.{OpenTrial, world_after, world_of}
use Rattle.base_kinds.specs.Step.{Rules, new_stamp, next_entry, kind_of_ask, judge}

abbrev pub IsExtend : Kind → Type 0
IsExtend (kinds.Extend deadline) = Unit {0}
IsExtend _ = ⊥

abbrev pub AreExtends : List Entry → Type 0
AreExtends [] = Unit {0}
AreExtends (entry ∷ entries) = IsExtend entry.kind × AreExtends entries

-- what puts the tree from before the trial back
abbrev pub IsUndoing : Kind → Type 0
IsUndoing kinds.Cancel = Unit {0}
IsUndoing kinds.Expire = Unit {0}
IsUndoing kinds.Restart = Unit {0}
IsUndoing _ = ⊥

-- a trial that is undone leaves the tree from before it and none open, however often it was extended
abbrev pub UndoesTrials : Type 0
UndoesTrials =
    (h extends : List Entry) (begun ended : Entry) (id : List ℕ) (ops : List Op) (deadline : ℕ) →
    begun.kind ≡ kinds.Trial id ops deadline → AreExtends extends → IsUndoing ended.kind →
    world_of (h ++ begun ∷ (extends ++ ended ∷ [])) ≡
    record { tree = (world_of h).tree; trial = None }

-- a trial that is confirmed leaves what a plain Set of its operations leaves
abbrev pub ConfirmsTrials : Type 0
ConfirmsTrials =
    (h extends : List Entry) (begun ended : Entry) (id : List ℕ) (ops : List Op) (deadline : ℕ) →
    begun.kind ≡ kinds.Trial id ops deadline → AreExtends extends → ended.kind ≡ kinds.Confirm →
    world_of (h ++ begun ∷ (extends ++ ended ∷ [])) ≡ world_after (kinds.Apply ops) (world_of h)

-- the ask closes a trial with this id
abbrev pub ClosesTrial : List ℕ → Ask → Type 0
ClosesTrial id (asks.Confirm other) = other ≡ id
ClosesTrial id (asks.Cancel other) = other ≡ id
ClosesTrial id _ = ⊥

-- whoever names the open trial's id can confirm and cancel it
abbrev pub ClosingsAreTaken : Type 0
ClosingsAreTaken =
    (rules : Rules) (h : List Entry) (now author : ℕ) (trial : OpenTrial) (ask : Ask) →
    (world_of h).trial ≡ Some trial → ClosesTrial trial.id ask →
    judge rules h now author ask ≡
    Ok (next_entry h (new_stamp h now) author (kind_of_ask (new_stamp h now) ask))

-- and is refused for want of a trial or for another id alone: neither the tree nor the log's length stands against it
abbrev pub ClosingsAreRefused : Type 0
ClosingsAreRefused =
    (rules : Rules) (h : List Entry) (now author : ℕ) (id : List ℕ) (ask : Ask)
    (refusal : Refusal) →
    ClosesTrial id ask → judge rules h now author ask ≡ Err refusal →
    (refusal ≡ NoTrial) ⊎ (refusal ≡ WrongId)

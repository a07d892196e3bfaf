-- Why an ask is refused, part by part. Private functions alone cite this.
use Rattle.std.specs.Prelude.{◌≡◌, ℕ, List, Option, true, false}
use Rattle.base_kinds.specs.declared.operation.Row.{Row}
use Rattle.base_kinds.specs.declared.operation.Op.{Op}
use Rattle.base_kinds.specs.declared.refusal.Refusal.{Refusal}
use Rattle.base_kinds.specs.declared.refusal.Refusal.TheVariants as refusals
use Rattle.base_kinds.specs.History.{World, OpenTrial}
use Rattle.base_kinds.specs.Schema.{SchemaNode}
use Rattle.base_kinds.specs.Step.{is_open, is_other}
use Rattle.base_kinds.specs.Tree.{effect}
use Rattle.base_kinds.specs.Valid.{valid, fits}

-- the tree is invalid, or valid and too large, or memory was wanting
abbrev pub IsTreeRefusal : List SchemaNode → List Row → Refusal → Type 0
IsTreeRefusal schema tree refusals.TreeInvalid = valid schema tree ≡ false
IsTreeRefusal schema tree refusals.TreeFull = (valid schema tree ≡ true) × (fits tree ≡ false)
IsTreeRefusal schema tree refusals.NoMemory = Unit {0}
IsTreeRefusal schema tree _ = ⊥

-- a trial is open, or none is and the tree behind the operations isn't taken
abbrev pub IsChangeRefusal : List SchemaNode → World → List Op → Refusal → Type 0
IsChangeRefusal schema world ops refusals.TrialOpen = is_open world.trial ≡ true
IsChangeRefusal schema world ops refusal =
    (is_open world.trial ≡ false) × IsTreeRefusal schema (effect ops world.tree) refusal

-- no trial is open, or one that has another id
abbrev pub IsTrialRefusal : Option OpenTrial → List ℕ → Refusal → Type 0
IsTrialRefusal trial id refusals.NoTrial = is_open trial ≡ false
IsTrialRefusal trial id refusals.WrongId = (is_open trial ≡ true) × (is_other trial id ≡ true)
IsTrialRefusal trial id _ = ⊥

-- A trial that is undone leaves the tree from before it, and one that is confirmed that of its operations.
use Rattle.std.proofs.Common.{◌≡◌, ℕ, List, [], ◌∷◌, ◌++◌, Some, None, refl, ap, ◌∙◌}
use Rattle.base_kinds.specs.declared.operation.Row.{Row}
use Rattle.base_kinds.specs.declared.operation.Op.{Op}
use Rattle.base_kinds.specs.declared.entry.Entry.{Entry}
use Rattle.base_kinds.specs.declared.entry.Kind.{Kind}
use Rattle.base_kinds.specs.declared.entry.Kind.TheVariants as kinds
use Rattle.base_kinds.specs.Tree.{effect}
use Rattle.base_kinds.specs.History.{World, world_after, world_from, world_of}
use Rattle.history_laws.specs.TrialLaws.{IsExtend, AreExtends, IsUndoing}
use Rattle.history_laws.proofs.States.{world_from_more, world_after_more}

-- the state in which a trial is open
abbrev in_trial : List Row → List ℕ → List Row → ℕ → World
in_trial tree id before deadline = record { tree = tree; trial = Some (record { id = id; before = before; deadline = deadline }) }

undone : (kind : Kind) → IsUndoing kind → (tree : List Row) (id : List ℕ) (before : List Row) (deadline : ℕ) → world_after kind (in_trial tree id before deadline) ≡ record { tree = before; trial = None }
undone kinds.Cancel undoes tree id before deadline = refl
undone kinds.Expire undoes tree id before deadline = refl
undone kinds.Restart undoes tree id before deadline = refl
undone _ undoes tree id before deadline = absurd undoes

-- an extend moves the deadline alone
extended_trial : (kind : Kind) → IsExtend kind → (tree : List Row) (id : List ℕ) (before : List Row) (deadline : ℕ) → (later : ℕ) × (world_after kind (in_trial tree id before deadline) ≡ in_trial tree id before later)
extended_trial (kinds.Extend later) extends tree id before deadline = (later, refl)
extended_trial _ extends tree id before deadline = absurd extends

-- the state in which a trial is still open after extends, with some deadline
still_open : (extends : List Entry) → AreExtends extends → (tree : List Row) (id : List ℕ) (before : List Row) (deadline : ℕ) → (later : ℕ) × (world_from (in_trial tree id before deadline) extends ≡ in_trial tree id before later)
still_open [] are tree id before deadline = (deadline, refl)
still_open (entry ∷ extends) are tree id before deadline =
    let one = extended_trial entry.kind are.0 tree id before deadline in
    let rest = still_open extends are.1 tree id before one.0 in
    (rest.0, ap (λ (world : World). world_from world extends) one.1 ∙ rest.1)

-- the state after a trial, its extends and one entry more
after_trial : (h extends : List Entry) (begun ended : Entry) (id : List ℕ) (ops : List Op) (deadline : ℕ) → begun.kind ≡ kinds.Trial id ops deadline → AreExtends extends → (later : ℕ) × (world_of (h ++ begun ∷ (extends ++ ended ∷ [])) ≡ world_after ended.kind (in_trial (effect ops (world_of h).tree) id (world_of h).tree later))
after_trial h extends begun ended id ops deadline is are =
    let open_still = still_open extends are (effect ops (world_of h).tree) id (world_of h).tree deadline in (
      open_still.0,
      world_after_more h (begun ∷ (extends ++ ended ∷ [])) ∙ ap (λ (kind : Kind). world_from (world_after kind (world_of h)) (extends ++ ended ∷ [])) is
          ∙ world_from_more (in_trial (effect ops (world_of h).tree) id (world_of h).tree deadline) extends (ended ∷ []) ∙ ap (world_after ended.kind) open_still.1,
    )

pub undoes_trials : (h extends : List Entry) (begun ended : Entry) (id : List ℕ) (ops : List Op) (deadline : ℕ) → begun.kind ≡ kinds.Trial id ops deadline → AreExtends extends → IsUndoing ended.kind → world_of (h ++ begun ∷ (extends ++ ended ∷ [])) ≡ record { tree = (world_of h).tree; trial = None }
undoes_trials h extends begun ended id ops deadline is are undoes =
    let last = after_trial h extends begun ended id ops deadline is are in
    last.1 ∙ undone ended.kind undoes (effect ops (world_of h).tree) id (world_of h).tree last.0

pub confirms_trials : (h extends : List Entry) (begun ended : Entry) (id : List ℕ) (ops : List Op) (deadline : ℕ) → begun.kind ≡ kinds.Trial id ops deadline → AreExtends extends → ended.kind ≡ kinds.Confirm → world_of (h ++ begun ∷ (extends ++ ended ∷ [])) ≡ world_after (kinds.Apply ops) (world_of h)
confirms_trials h extends begun ended id ops deadline is are confirms =
    let last = after_trial h extends begun ended id ops deadline is are in
    last.1 ∙ ap (λ (kind : Kind). world_after kind (in_trial (effect ops (world_of h).tree) id (world_of h).tree last.0)) confirms

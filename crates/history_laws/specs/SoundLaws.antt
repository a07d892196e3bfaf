-- What holds of the trees of histories under a schema: they are valid and small enough.
use Rattle.std.specs.Prelude.{◌≡◌, ℕ, List, [], ◌∷◌, ◌++◌, Ok}
use Rattle.base_kinds.specs.declared.operation.Op.{Op}
use Rattle.base_kinds.specs.declared.entry.Entry.{Entry}
use Rattle.base_kinds.specs.declared.entry.Ask.{Ask}
use Rattle.base_kinds.specs.declared.entry.Ask.TheVariants as asks
use Rattle.base_kinds.specs.declared.entry.Limits.{Limits}
use Rattle.base_kinds.specs.Bases.{IsSound, HasSoundTrees}
use Rattle.base_kinds.specs.History.{world_of}
use Rattle.base_kinds.specs.Legal.{Gives, IsLegal}
use Rattle.base_kinds.specs.Rules.{rules_of}
use Rattle.base_kinds.specs.Schema.{SchemaNode}
use Rattle.base_kinds.specs.Step.{judge}
use Rattle.base_kinds.specs.Tree.{effect}

-- the ask is of these operations, as a plain Set or as a trial
abbrev pub AsksOperations : List Op → Ask → Type 0
AsksOperations ops (asks.Apply others) = others ≡ ops
AsksOperations ops (asks.Trial id others duration) = others ≡ ops
AsksOperations ops _ = ⊥

-- no rows are valid under any schema
abbrev pub NoRowsAreSound : Type 0
NoRowsAreSound = (schema : List SchemaNode) → IsSound schema []

-- accepted operations make a sound tree, whatever the tree before was
abbrev pub AcceptedTreesAreSound : Type 0
AcceptedTreesAreSound =
    (schema : List SchemaNode) (limits : Limits) (h : List Entry) (now author : ℕ) (ask : Ask)
    (entry : Entry) (ops : List Op) →
    AsksOperations ops ask → judge (rules_of schema limits) h now author ask ≡ Ok entry →
    IsSound schema (effect ops (world_of h).tree)

-- each given entry keeps the trees sound, that before an open trial too
abbrev pub GivenKeepsSound : Type 0
GivenKeepsSound =
    (schema : List SchemaNode) (limits : Limits) (h : List Entry) (entry : Entry) →
    HasSoundTrees schema (world_of h) → Gives (rules_of schema limits) h entry →
    HasSoundTrees schema (world_of (h ++ entry ∷ []))

-- and so the trees of every legal history are sound
abbrev pub LegalTreesAreSound : Type 0
LegalTreesAreSound =
    (schema : List SchemaNode) (limits : Limits) (base h : List Entry) →
    HasSoundTrees schema (world_of base) → IsLegal (rules_of schema limits) base h →
    HasSoundTrees schema (world_of h)

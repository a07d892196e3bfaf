-- What a core keeps. Private functions alone cite this.
use Rattle.std.specs.Prelude.{◌≡◌, ℕ, ◌+◌, ◌≤◌, List, ◌∷◌, [], ◌++◌, Bool, true, false, Option, Some, None, IfSome, length}
use Rattle.base_kinds.specs.declared.operation.Row.{Row}
use Rattle.base_kinds.specs.declared.entry.Entry.{Entry}
use Rattle.base_kinds.specs.declared.entry.Kind.{Kind}
use Rattle.base_kinds.specs.declared.entry.Kind.TheVariants as kinds
use Rattle.base_kinds.specs.declared.entry.Limits.{Limits}
use Rattle.base_kinds.specs.History.{World, OpenTrial, world_of, stamp_of}
use Rattle.base_kinds.specs.Legal.{Gives, IsLegal}
use Rattle.base_kinds.specs.Limits.{latest_reading}
use Rattle.base_kinds.specs.Records.{counted}
use Rattle.base_kinds.specs.Rules.{rules_of, size_of}
use Rattle.base_kinds.specs.Schema.{SchemaNode}
use Rattle.base_kinds.specs.Tree.{effect}
use Rattle.commit_core.specs.CoreView.{IsReplayable, base_after}
use Rattle.commit_core.specs.declared.trial.Trial.{Trial}
use Rattle.commit_core.specs.declared.trial.Prepared.{Prepared}
use Rattle.commit_core.specs.declared.trial.Prepared.TheVariants as prepared
use Rattle.commit_core.specs.inner.LogView.{LogView}

-- what is prepared for an entry: the tree behind it, and the id where it begins a trial
pub data Preparation : Type 0 where
  nothing : Preparation
  tree : List Row → Preparation
  trial : List Row → List ℕ → Preparation

module _ {T : Type 0} (rows : T → List Row) where
  abbrev pub preparation_of : Prepared T → Preparation
  preparation_of prepared.Nothing = nothing
  preparation_of (prepared.Tree t) = tree (rows t)
  preparation_of (prepared.Trial t id) = trial (rows t) id

  abbrev pub open_of : Option (Trial T) → Option OpenTrial
  open_of None = None
  open_of (Some t) = Some (record { id = t.id; before = rows t.before; deadline = t.deadline })

  abbrev pub world_in : T → Option (Trial T) → World
  world_in t begun = record { tree = rows t; trial = open_of begun }

-- what has to be prepared for an entry of this kind
abbrev pub IsPreparedFor : Preparation → World → Kind → Type 0
IsPreparedFor p world (kinds.Apply ops) = p ≡ tree (effect ops world.tree)
IsPreparedFor p world (kinds.Trial id ops deadline) = p ≡ trial (effect ops world.tree) id
IsPreparedFor p world _ = Unit {0}

-- how many entries there has to be memory for: the entry, and the one that closes the trial which is open behind it
abbrev pub entries_for : Kind → ℕ
entries_for kinds.Confirm = 1
entries_for kinds.Cancel = 1
entries_for kinds.Expire = 1
entries_for kinds.Restart = 1
entries_for _ = 2

abbrev pub entries_to_close : Option OpenTrial → ℕ
entries_to_close None = 0
entries_to_close (Some t) = 1

abbrev pub is_restart : Kind → Bool
is_restart kinds.Restart = true
is_restart _ = false

-- the entry goes on with the history, the tree behind it is prepared, and the log has the memory for it
pub record IsAwaited (schema : List SchemaNode) (limits : Limits) (log : LogView)
    (preparation : Preparation) (entry : Entry) : Type 0 where
  pub given : Gives (rules_of schema limits) log.items entry
  pub prepared : IsPreparedFor preparation (world_of log.items) entry.kind
  pub memory : entries_for entry.kind ≤ log.room

-- The history goes on legally from its base. The world, the stamp and the octets are its own, the entry that closes an
-- open trial has memory, and what was judged is awaited.
pub record StandsFor (schema : List SchemaNode) (limits : Limits) (base : List Entry)
    (log : LogView) (stamp octets : ℕ) (world : World) (preparation : Preparation)
    (staged : Option Entry) : Type 0 where
  pub replayable : IsReplayable log.items
  pub legal : IsLegal (rules_of schema limits) base log.items
  pub world_is : world_of log.items ≡ world
  pub last : stamp ≡ stamp_of log.items
  pub size : octets ≡ counted (size_of log.items)
  pub bound : stamp ≤ latest_reading + length log.items
  pub memory : entries_to_close world.trial ≤ log.room
  pub awaited : IfSome staged (IsAwaited schema limits log preparation)

-- an entry that can be taken
pub record IsTakable (schema : List SchemaNode) (limits : Limits) (base : List Entry)
    (log : LogView) (preparation : Preparation) (entry : Entry) : Type 0 where
  pub prepared : IsPreparedFor preparation (world_of log.items) entry.kind
  pub memory : entries_for entry.kind ≤ log.room
  pub replayable : IsReplayable (log.items ++ entry ∷ [])
  pub legal : IsLegal (rules_of schema limits)
      (base_after entry.kind base (log.items ++ entry ∷ [])) (log.items ++ entry ∷ [])

-- A history of entries, and the state that it stands for (gNMI commit-confirmed extension).
use Rattle.std.specs.Prelude.{◌≡◌, ℕ, ◌+◌, ◌<◌, List, [], ◌∷◌, Option, Some, None}
use Rattle.base_kinds.specs.declared.operation.Row.{Row}
use Rattle.base_kinds.specs.declared.entry.Entry.{Entry}
use Rattle.base_kinds.specs.declared.entry.Kind.{Kind}
use Rattle.base_kinds.specs.declared.entry.Kind.TheVariants as kinds
use Rattle.base_kinds.specs.Tree.{effect}

-- numbers go on from this one, and stamps rise above this one
abbrev pub IsNumberedFrom : ℕ → ℕ → List Entry → Type 0
IsNumberedFrom number stamp [] = Unit {0}
IsNumberedFrom number stamp (entry ∷ entries) =
    (entry.number ≡ number) × (stamp < entry.stamp) ×
    IsNumberedFrom (number + 1) entry.stamp entries

-- numbers count from 1, and stamps rise from 1 on
abbrev pub IsHistory : List Entry → Type 0
IsHistory entries = IsNumberedFrom 1 0 entries

-- the stamp of the last entry, or this one
abbrev pub last_stamp : ℕ → List Entry → ℕ
last_stamp stamp [] = stamp
last_stamp stamp (entry ∷ entries) = last_stamp entry.stamp entries

-- the stamp of the state that the history stands for: that of its last entry, or 0
abbrev pub stamp_of : List Entry → ℕ
stamp_of entries = last_stamp 0 entries

-- a trial that is neither confirmed nor undone: its id, the tree before it, and when it ends
pub record OpenTrial : Type 0 where
  pub id : List ℕ
  pub before : List Row
  pub deadline : ℕ

-- the tree, and the open trial where there is one
pub record World : Type 0 where
  pub tree : List Row
  pub trial : Option OpenTrial

abbrev pub empty_world : World
empty_world = record { tree = []; trial = None }

-- the tree before the open trial, or the tree where none is open
abbrev pub tree_before : List Row → Option OpenTrial → List Row
tree_before tree None = tree
tree_before tree (Some trial) = trial.before

-- the open trial with this deadline in place of its own
abbrev pub extended : ℕ → Option OpenTrial → Option OpenTrial
extended deadline None = None
extended deadline (Some trial) = Some (record trial { deadline = deadline })

-- the state after an entry of this kind
abbrev pub world_after : Kind → World → World
world_after (kinds.Apply ops) world = record { tree = effect ops world.tree; trial = None }
world_after (kinds.Trial id ops deadline) world =
    record {
      tree = effect ops world.tree;
      trial = Some (record { id = id; before = world.tree; deadline = deadline });
    }
world_after kinds.Confirm world = record { tree = world.tree; trial = None }
world_after kinds.Cancel world = record { tree = tree_before world.tree world.trial; trial = None }
world_after kinds.Expire world = record { tree = tree_before world.tree world.trial; trial = None }
world_after kinds.Restart world = record { tree = tree_before world.tree world.trial; trial = None }
world_after (kinds.Extend deadline) world =
    record { tree = world.tree; trial = extended deadline world.trial }

-- the state after these entries, from this state on
abbrev pub world_from : World → List Entry → World
world_from world [] = world
world_from world (entry ∷ entries) = world_from (world_after entry.kind world) entries

-- the state that the history stands for
abbrev pub world_of : List Entry → World
world_of entries = world_from empty_world entries

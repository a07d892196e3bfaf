-- What a history has to be for the laws of what is added to it: a base, as an opening gives it, or a history behind one.
use Rattle.std.specs.Prelude.{ℕ, ◌+◌, ◌≤◌, List, Option, Some, None, IsTrue}
use Rattle.std.specs.List.{All}
use Rattle.base_kinds.specs.declared.operation.Row.{Row}
use Rattle.base_kinds.specs.declared.entry.Entry.{Entry}
use Rattle.base_kinds.specs.declared.entry.Limits.{Limits}
use Rattle.base_kinds.specs.History.{IsHistory, World, OpenTrial, world_of, stamp_of}
use Rattle.base_kinds.specs.Limits.{latest_reading, shortest_duration}
use Rattle.base_kinds.specs.Room.{CanClose}
use Rattle.base_kinds.specs.Schema.{SchemaNode}
use Rattle.base_kinds.specs.Valid.{valid, fits}

-- The stamp is at most the entry's number above the last reading that counts: readings count up to the year 2100, and
-- each stamp is above the one before it.
abbrev pub IsBounded : Entry → Type 0
IsBounded entry = entry.stamp ≤ latest_reading + entry.number

abbrev pub AreBounded : List Entry → Type 0
AreBounded = All IsBounded

-- an open trial ends behind this stamp, by the shortest duration or more
abbrev pub IsAhead : Option OpenTrial → ℕ → Type 0
IsAhead None stamp = Unit {0}
IsAhead (Some trial) stamp = stamp + shortest_duration ≤ trial.deadline

-- the tree is valid under the schema, and small enough
pub record IsSound (schema : List SchemaNode) (tree : List Row) : Type 0 where
  pub is_valid : IsTrue (valid schema tree)
  pub is_small : IsTrue (fits tree)

-- where a trial is open, the tree before it is
abbrev pub IsSoundBefore : List SchemaNode → Option OpenTrial → Type 0
IsSoundBefore schema None = Unit {0}
IsSoundBefore schema (Some trial) = IsSound schema trial.before

-- the tree is sound, and so is the one before an open trial, which comes back where that isn't confirmed
pub record HasSoundTrees (schema : List SchemaNode) (world : World) : Type 0 where
  pub tree : IsSound schema world.tree
  pub before : IsSoundBefore schema world.trial

-- a history that a target with this schema and these limits may go on from
pub record IsBase (schema : List SchemaNode) (limits : Limits) (base : List Entry) : Type 0 where
  pub history : IsHistory base
  pub bounded : AreBounded base
  pub ahead : IsAhead (world_of base).trial (stamp_of base)
  pub room : CanClose limits base (world_of base).trial
  pub sound : HasSoundTrees schema (world_of base)

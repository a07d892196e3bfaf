-- A core as its callers see it.
use Rattle.std.specs.Prelude.{◌≡◌, ◌⊎◌, List, [], ◌∷◌, ◌++◌, Option, Some, None, true}
use Rattle.base_kinds.specs.declared.entry.Ask.{Ask}
use Rattle.base_kinds.specs.declared.entry.Ask.TheVariants as asks
use Rattle.base_kinds.specs.declared.entry.Entry.{Entry}
use Rattle.base_kinds.specs.declared.entry.Kind.{Kind}
use Rattle.base_kinds.specs.declared.entry.Kind.TheVariants as kinds
use Rattle.base_kinds.specs.declared.entry.Limits.{Limits}
use Rattle.base_kinds.specs.Bases.{AreBounded, IsAhead}
use Rattle.base_kinds.specs.History.{IsHistory, world_of, stamp_of}
use Rattle.base_kinds.specs.Legal.{IsExpiry}
use Rattle.base_kinds.specs.Schema.{SchemaNode}
use Rattle.base_kinds.specs.Step.{is_open, new_stamp, next_entry}

-- What is judged by; the base, which is the history that was replayed last, or the one up to the last Restart; the
-- history; and the entry that was judged last, where it is neither taken nor let go.
pub record CoreView : Type 0 where
  pub schema : List SchemaNode
  pub limits : Limits
  pub base : List Entry
  pub entries : List Entry
  pub staged : Option Entry

-- A history that a core can go on from: its numbers count from 1, its stamps rise and are bounded, and an open trial
-- ends behind the last of them.
pub record IsReplayable (h : List Entry) : Type 0 where
  pub history : IsHistory h
  pub bounded : AreBounded h
  pub ahead : IsAhead (world_of h).trial (stamp_of h)

-- the entry is the one that was judged last, with its number, author, stamp and kind
abbrev pub IsStaged : CoreView → Entry → Type 0
IsStaged core entry = core.staged ≡ Some entry

-- the entry ends the open trial of a target that is started anew
pub record IsRestart (h : List Entry) (entry : Entry) : Type 0 where
  pub was_open : is_open (world_of h).trial ≡ true
  pub is : entry ≡ next_entry h (new_stamp h entry.stamp) 0 kinds.Restart

-- what the history goes on with: the entry that was judged last, or one by which the target itself ends the open trial
abbrev pub IsNext : CoreView → Entry → Type 0
IsNext core entry = IsStaged core entry
    ⊎ (IsExpiry core.entries entry ⊎ IsRestart core.entries entry)

-- a target that is started anew goes on from there
abbrev pub base_after : Kind → List Entry → List Entry → List Entry
base_after kinds.Restart base h = h
base_after _ base h = base

-- the core with the entry behind its history
abbrev pub with_entry : CoreView → Entry → CoreView
with_entry core entry =
    let h = core.entries ++ entry ∷ [] in
    record core { base = base_after entry.kind core.base h; entries = h; staged = None }

-- the ask ends a trial
abbrev pub EndsTrial : Ask → Type 0
EndsTrial (asks.Confirm id) = Unit {0}
EndsTrial (asks.Cancel id) = Unit {0}
EndsTrial _ = ⊥

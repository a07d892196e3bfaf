-- The room that a log keeps, so that an open trial can always be closed (this project's own rule).
use Rattle.std.specs.Prelude.{ℕ, ◌+◌, ◌≤◌, List, length, Option, Some, None}
use Rattle.base_kinds.specs.declared.entry.Entry.{Entry}
use Rattle.base_kinds.specs.declared.entry.Kind.{Kind}
use Rattle.base_kinds.specs.declared.entry.Kind.TheVariants as kinds
use Rattle.base_kinds.specs.declared.entry.Ask.{Ask}
use Rattle.base_kinds.specs.declared.entry.Ask.TheVariants as asks
use Rattle.base_kinds.specs.declared.entry.Limits.{Limits}
use Rattle.base_kinds.specs.Limits.{gate_octets, closing_octets}
use Rattle.base_kinds.specs.History.{OpenTrial}
use Rattle.base_kinds.specs.Rules.{size_of}

-- the log has room for so many further entries and octets
pub record HasRoom (limits : Limits) (h : List Entry) (entries octets : ℕ) : Type 0 where
  pub entries_left : length h + entries ≤ limits.entries
  pub octets_left : size_of h + octets ≤ limits.octets

-- the log is no longer than its limits allow
abbrev pub IsWithin : Limits → List Entry → Type 0
IsWithin limits h = HasRoom limits h 0 0

-- what closes a trial
abbrev pub IsClosing : Kind → Type 0
IsClosing kinds.Confirm = Unit {0}
IsClosing kinds.Cancel = Unit {0}
IsClosing kinds.Expire = Unit {0}
IsClosing kinds.Restart = Unit {0}
IsClosing _ = ⊥

-- while a trial is open there is room for the entry that closes it
abbrev pub CanClose : Limits → List Entry → Option OpenTrial → Type 0
CanClose limits h None = IsWithin limits h
CanClose limits h (Some trial) = HasRoom limits h 1 closing_octets

-- the room that an ask needs whose entry's record has so many octets
abbrev pub HasRoomFor : Limits → List Entry → ℕ → Ask → Type 0
HasRoomFor limits h octets (asks.Apply ops) = HasRoom limits h 1 (octets + gate_octets)
HasRoomFor limits h octets (asks.Trial id ops duration) =
    HasRoom limits h 2 (octets + (gate_octets + closing_octets))
HasRoomFor limits h octets (asks.Extend id duration) =
    HasRoom limits h 2 (octets + (gate_octets + closing_octets))
HasRoomFor limits h octets (asks.Confirm id) = Unit {0}
HasRoomFor limits h octets (asks.Cancel id) = Unit {0}

-- a trial is open after what is asked
abbrev pub StaysOpen : Ask → Type 0
StaysOpen (asks.Trial id ops duration) = Unit {0}
StaysOpen (asks.Extend id duration) = Unit {0}
StaysOpen _ = ⊥

-- What holds of a log with limits: a trial can always be closed.
use Rattle.std.specs.Prelude.{◌≡◌, ◌↔◌, IsTrue, ℕ, ◌+◌, List, [], ◌∷◌, ◌++◌, Ok}
use Rattle.base_kinds.specs.declared.entry.Entry.{Entry}
use Rattle.base_kinds.specs.declared.entry.Ask.{Ask}
use Rattle.base_kinds.specs.declared.entry.Limits.{Limits}
use Rattle.base_kinds.specs.History.{world_of}
use Rattle.base_kinds.specs.Limits.{AreInRange, gate_octets, closing_octets}
use Rattle.base_kinds.specs.Schema.{SchemaNode}
use Rattle.base_kinds.specs.Records.{record_octets}
use Rattle.base_kinds.specs.Rules.{limited, rules_of, size_of}
use Rattle.base_kinds.specs.Step.{judge}
use Rattle.base_kinds.specs.Legal.{Gives, IsLegal}
use Rattle.base_kinds.specs.Room.{HasRoom, IsWithin, IsClosing, CanClose, HasRoomFor, StaysOpen}

-- the test says that there is room
abbrev pub TestSaysRoom : Type 0
TestSaysRoom =
    (limits : Limits) (h : List Entry) (entries octets : ℕ) →
    IsTrue (limited limits h entries octets) ↔ HasRoom limits h entries octets

-- one more entry adds its record and the octet in front of it
abbrev pub SizeAfterOne : Type 0
SizeAfterOne =
    (h : List Entry) (entry : Entry) →
    size_of (h ++ entry ∷ []) ≡ size_of h + gate_octets + record_octets entry

-- what was accepted had the room that it needs
abbrev pub AcceptedHadRoom : Type 0
AcceptedHadRoom =
    (schema : List SchemaNode) (limits : Limits) (h : List Entry) (now author : ℕ) (ask : Ask)
    (entry : Entry) →
    judge (rules_of schema limits) h now author ask ≡ Ok entry →
    HasRoomFor limits h (record_octets entry) ask

-- behind an accepted trial or extend there is room for the entry that closes the trial
abbrev pub TrialsLeaveRoom : Type 0
TrialsLeaveRoom =
    (schema : List SchemaNode) (limits : Limits) (h : List Entry) (now author : ℕ) (ask : Ask)
    (entry : Entry) →
    StaysOpen ask → judge (rules_of schema limits) h now author ask ≡ Ok entry →
    HasRoom limits (h ++ entry ∷ []) 1 closing_octets

-- and that entry then fits
abbrev pub ClosingsFit : Type 0
ClosingsFit =
    (limits : Limits) (h : List Entry) (entry : Entry) → HasRoom limits h 1 closing_octets →
    IsClosing entry.kind → IsWithin limits (h ++ entry ∷ [])

-- a new log has the room
abbrev pub NewLogHasRoom : Type 0
NewLogHasRoom = (limits : Limits) → AreInRange limits → CanClose limits [] (world_of []).trial

-- each given entry keeps the room
abbrev pub GivenKeepsRoom : Type 0
GivenKeepsRoom =
    (schema : List SchemaNode) (limits : Limits) (h : List Entry) (entry : Entry) →
    CanClose limits h (world_of h).trial → Gives (rules_of schema limits) h entry →
    CanClose limits (h ++ entry ∷ []) (world_of (h ++ entry ∷ [])).trial

-- and so every legal history has it
abbrev pub LegalKeepsRoom : Type 0
LegalKeepsRoom =
    (schema : List SchemaNode) (limits : Limits) (base h : List Entry) →
    CanClose limits base (world_of base).trial → IsLegal (rules_of schema limits) base h →
    CanClose limits h (world_of h).trial

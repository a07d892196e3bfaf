-- What holds of legal histories, whatever a target judges by.
use Rattle.std.specs.Prelude.{◌≡◌, ℕ, ◌+◌, ◌<◌, ◌≤◌, List, [], ◌∷◌, ◌++◌, length, true, false, Result, Ok, Err, None}
use Rattle.base_kinds.specs.declared.entry.Ask.{Ask}
use Rattle.base_kinds.specs.declared.entry.Entry.{Entry}
use Rattle.base_kinds.specs.declared.entry.Kind.TheVariants as kinds
use Rattle.base_kinds.specs.declared.entry.Limits.{Limits}
use Rattle.base_kinds.specs.declared.refusal.Refusal.{Refusal}
use Rattle.base_kinds.specs.Bases.{AreBounded, IsAhead, IsSound, IsBase}
use Rattle.base_kinds.specs.Events.{Request, Set, Get, Event, history_after_all}
use Rattle.base_kinds.specs.History.{IsHistory, world_of, stamp_of}
use Rattle.base_kinds.specs.Legal.{IsFit, Gives, IsLegal}
use Rattle.base_kinds.specs.Limits.{AreInRange}
use Rattle.base_kinds.specs.Room.{IsWithin}
use Rattle.base_kinds.specs.Rules.{rules_of}
use Rattle.base_kinds.specs.Schema.{SchemaNode}
use Rattle.base_kinds.specs.Step.{Rules, is_due, new_stamp, next_entry, judge}

-- what a Set asks is fit
abbrev pub AsksFit : Result Ask Refusal → Type 0
AsksFit (Ok ask) = IsFit ask
AsksFit (Err refusal) = Unit {0}

abbrev pub IsFitRequest : Request → Type 0
IsFitRequest (Set resolved) = AsksFit resolved
IsFitRequest (Get patterns) = Unit {0}

-- the request is some author's, and what it asks is fit
pub record IsFitEvent (event : Event) : Type 0 where
  pub author : 1 ≤ event.author
  pub request_fits : IsFitRequest event.request

abbrev pub AreFitEvents : List Event → Type 0
AreFitEvents [] = Unit {0}
AreFitEvents (event ∷ events) = IsFitEvent event × AreFitEvents events

-- what an opening gave is legal
abbrev pub BaseIsLegal : Type 0
BaseIsLegal = (rules : Rules) (base : List Entry) → IsLegal rules base base

-- a front of a legal history is legal
abbrev pub FrontsAreLegal : Type 0
FrontsAreLegal =
    (rules : Rules) (base front more : List Entry) → IsLegal rules base (base ++ (front ++ more)) →
    IsLegal rules base (base ++ front)

-- a given entry goes on with a legal history
abbrev pub GivenIsLegal : Type 0
GivenIsLegal =
    (rules : Rules) (base h : List Entry) (entry : Entry) → IsLegal rules base h →
    Gives rules h entry → IsLegal rules base (h ++ entry ∷ [])

-- and what goes on legally from a legal history is legal
abbrev pub LegalGoesOn : Type 0
LegalGoesOn =
    (rules : Rules) (base h more : List Entry) → IsLegal rules base h → IsLegal rules h more →
    IsLegal rules base more

-- a given entry has the next number and a later stamp
abbrev pub GivenIsNext : Type 0
GivenIsNext =
    (rules : Rules) (h : List Entry) (entry : Entry) → Gives rules h entry →
    (entry.number ≡ length h + 1) × (stamp_of h < entry.stamp)

-- so a legal history is one, and its stamps are bounded
abbrev pub LegalIsHistory : Type 0
LegalIsHistory =
    (rules : Rules) (base h : List Entry) → IsHistory base → IsLegal rules base h → IsHistory h

abbrev pub LegalIsBounded : Type 0
LegalIsBounded =
    (rules : Rules) (base h : List Entry) → IsHistory base → AreBounded base →
    IsLegal rules base h → AreBounded h

-- in a legal history an open trial ends a second or more behind the last stamp
abbrev pub LegalIsAhead : Type 0
LegalIsAhead =
    (rules : Rules) (base h : List Entry) → IsAhead (world_of base).trial (stamp_of base) →
    IsLegal rules base h → IsAhead (world_of h).trial (stamp_of h)

-- an accepted fit ask where nothing is due gives an entry that can be given again from the entry alone
abbrev pub AcceptedIsGiven : Type 0
AcceptedIsGiven =
    (rules : Rules) (h : List Entry) (now author : ℕ) (ask : Ask) (entry : Entry) →
    IsAhead (world_of h).trial (stamp_of h) → 1 ≤ author → IsFit ask → is_due h now ≡ false →
    judge rules h now author ask ≡ Ok entry → Gives rules h entry

-- and so does the clock's event
abbrev pub ExpiryIsGiven : Type 0
ExpiryIsGiven =
    (rules : Rules) (h : List Entry) (now : ℕ) → is_due h now ≡ true →
    Gives rules h (next_entry h (new_stamp h now) 0 kinds.Expire)

-- whatever is asked, a legal history stays legal
abbrev pub EventsAreLegal : Type 0
EventsAreLegal =
    (rules : Rules) (base h : List Entry) (events : List Event) →
    IsAhead (world_of base).trial (stamp_of base) → AreFitEvents events → IsLegal rules base h →
    IsLegal rules base (history_after_all rules h events)

-- and every legal history comes of some fit events
abbrev pub LegalIsReached : Type 0
LegalIsReached =
    (rules : Rules) (base h : List Entry) → IsLegal rules base h →
    (events : List Event) × AreFitEvents events × (history_after_all rules base events ≡ h)

-- the empty history is a base
abbrev pub EmptyIsBase : Type 0
EmptyIsBase =
    (schema : List SchemaNode) (limits : Limits) → AreInRange limits → IsBase schema limits []

-- and so is every history without an open trial that is within the limits, has bounded stamps and stands for a sound tree
abbrev pub ClosedIsBase : Type 0
ClosedIsBase =
    (schema : List SchemaNode) (limits : Limits) (h : List Entry) → IsHistory h → AreBounded h →
    IsWithin limits h → (world_of h).trial ≡ None → IsSound schema (world_of h).tree →
    IsBase schema limits h

-- what goes on legally from a base is one
abbrev pub LegalIsBase : Type 0
LegalIsBase =
    (schema : List SchemaNode) (limits : Limits) (base h : List Entry) → IsBase schema limits base →
    IsLegal (rules_of schema limits) base h → IsBase schema limits h

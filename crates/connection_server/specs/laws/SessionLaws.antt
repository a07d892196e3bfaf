-- What holds of the sessions' authors, and of their entries in the history that is seen when all have ended.
use Rattle.std.specs.Prelude.{◌≡◌, ◌≢◌, ℕ, List, [], ◌∷◌, ◌++◌, length, drop, map}
use Rattle.std.specs.List.{AllByRecursion}
use Rattle.base_kinds.specs.declared.entry.Entry.{Entry}
use Rattle.book_port.specs.Chronicles.{entries_by}
use Rattle.book_port.specs.Follows.{Turn, Follows, made_by}
use Rattle.book_port.specs.Ports.{PortView, TakesTurns, HasJustMade, end_of}
use Rattle.connection_server.specs.Twins.{AreTwins, MeetEach, RiseAbove}

-- the authors of twins have rising numbers, above those known to be given out
abbrev pub TwinsRise : Type 0
TwinsRise = (old new : PortView) (twins : List PortView) → AreTwins old twins new →
    RiseAbove old.known (map (λ (twin : PortView). twin.author) twins)

-- no two of these numbers are equal
abbrev pub Differ : List ℕ → Type 0
Differ [] = Unit {0}
Differ (number ∷ numbers) = AllByRecursion (λ other. other ≢ number) numbers × Differ numbers

abbrev pub RisingDiffer : Type 0
RisingDiffer = (bound : ℕ) (numbers : List ℕ) → RiseAbove bound numbers → Differ numbers

-- nothing was done through a port since it was made
pub record IsNew (port : PortView) : Type 0 where
  pub start : port.start ≡ port.seen
  pub made : port.made ≡ []

abbrev pub TwinsAreNew : Type 0
TwinsAreNew = (old new : PortView) (twins : List PortView) → AreTwins old twins new →
    AllByRecursion IsNew twins

-- what is seen when a port has met others begins with what it had seen
abbrev pub MeetingGoesOn : Type 0
MeetingGoesOn = (old new : PortView) (others : List PortView) → MeetEach old others new →
    (more : List Entry) × (new.seen ≡ old.seen ++ more)

-- and it has, past what each had seen at its start, just the entries that this one made: none is lost, and none comes twice
abbrev pub EntriesAreKept : Type 0
EntriesAreKept = (old new : PortView) (others : List PortView) → MeetEach old others new →
    AllByRecursion (λ other. HasJustMade new.seen (end_of other)) others

-- the turns of an author stand in a history, with others' entries between them, and the author's entries are those that they made
pub record StandIn (h : List Entry) (port : PortView) (turns : List Turn) : Type 0 where
  pub follow : Follows port.author port.seen turns h
  pub own : entries_by port.author (drop (length port.seen) h) ≡ made_by port.author turns

-- so do the turns of each session that took its turns one after the other
abbrev pub TurnsStand : Type 0
TurnsStand = (old new : PortView) (others : List PortView) → MeetEach old others new →
    AllByRecursion (λ other. (twin : PortView) (turns : List Turn) → IsNew twin →
    TakesTurns twin turns other → StandIn new.seen twin turns) others

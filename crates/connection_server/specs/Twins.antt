-- Ports that are made of one port, and meet it later.
use Rattle.std.specs.Prelude.{◌≡◌, ℕ, ◌<◌, List, [], ◌∷◌, length, map, Result, Ok, Err}
use Rattle.book_port.specs.declared.port.PassFault.{PassFault}
use Rattle.book_port.specs.declared.port.PassFault.TheVariants as faults
use Rattle.book_port.specs.Ports.{PortView, IsTwin, Meets, knows_all}

-- these further ports were made of one, one after the other
abbrev pub AreTwins : PortView → List PortView → PortView → Type 0
AreTwins old [] new = new ≡ old
AreTwins old (twin ∷ twins) new = (next : PortView) × IsTwin old next twin × AreTwins next twins new

-- these ports ended by meeting one, one after the other
abbrev pub MeetEach : PortView → List PortView → PortView → Type 0
MeetEach old [] new = new ≡ old
MeetEach old (other ∷ others) new =
    (next : PortView) × Meets old other next × MeetEach next others new

-- so many were asked for, and all of them made; or what the last call answered
abbrev pub TwinsEnd : ℕ → Result (Unit {0}) PassFault → ℕ → PortView → PortView → Type 0
TwinsEnd count (Ok _) made port new = (made ≡ count) × (new ≡ port)
TwinsEnd count (Err faults.Spent) made port new = new ≡ knows_all port
TwinsEnd count (Err faults.NoMemory) made port new = new ≡ port

pub record MakesTwins {P : Type 0} (port : P → PortView) (count : ℕ)
    (result : Result (Unit {0}) PassFault) (old : PortView) (twins : List P) (new : PortView)
    : Type 0 where
  pub last : PortView
  pub made : AreTwins old (map port twins) last
  pub end : TwinsEnd count result (length twins) last new

-- each of these numbers is greater than the one before
abbrev pub RiseAbove : ℕ → List ℕ → Type 0
RiseAbove bound [] = Unit {0}
RiseAbove bound (number ∷ numbers) = (bound < number) × RiseAbove number numbers

-- What contracts see of a port of a book, through which one author sets and looks, and what one turn of it does.
use Rattle.std.specs.Prelude.{◌≡◌, ◌≢◌, ◌⊎◌, ℕ, ◌+◌, ◌<◌, ◌≤◌, max, length, drop, List, [], ◌∷◌, ◌++◌, Bool, false, Option, Some, None, Result, Ok, Err, IsTrue}
use Rattle.std.specs.List.{AllByRecursion}
use Rattle.base_kinds.specs.declared.path.Elem.{Elem}
use Rattle.base_kinds.specs.declared.entry.Ask.{Ask}
use Rattle.base_kinds.specs.declared.entry.Entry.{Entry}
use Rattle.base_kinds.specs.declared.entry.View.{View}
use Rattle.base_kinds.specs.declared.refusal.Refusal.{Refusal}
use Rattle.base_kinds.specs.declared.refusal.Refusal.TheVariants as refusals
use Rattle.environment.specs.Faults.{Rose}
use Rattle.book_port.specs.Answers.{AnswersSet, AnswersLook}
use Rattle.book_port.specs.Chronicles.{entries_by}
use Rattle.book_port.specs.Follows.{Turn, OthersWentOn}
use Rattle.book_port.specs.Opened.{Opened, IsRun, rules_in}

-- a port that has ended, as it was then
pub record PortEnd : Type 0 where
  pub author : ℕ
  pub start : List Entry
  pub seen : List Entry
  pub finds : List (List Entry)
  pub made : List Entry
  pub marks : ℕ

pub record PortView : Type 0 where
  pub opened : Opened
  -- which book it is of, among those that have several ports: its name, a list of numbers
  pub book : List ℕ
  pub author : ℕ
  -- nobody else has a port of this book
  pub is_alone : Bool
  -- the history that it had seen when it was made, and the one that it has seen now
  pub start : List Entry
  pub seen : List Entry
  -- the histories that its turns found
  pub finds : List (List Entry)
  -- its own entries past the start
  pub made : List Entry
  -- how many of its calls a fault of the disk ended
  pub marks : ℕ
  -- the ports that ended by meeting it, each before those that had met that one
  pub met : List PortEnd
  -- so many numbers of authors at least are given out
  pub known : ℕ
  -- how often the book's disk had failed, where the port tells it
  pub faults : Option ℕ

-- so many numbers of authors there are
abbrev pub most_authors : ℕ
most_authors = 4294967295

abbrev pub end_of : PortView → PortEnd
end_of port = record {
  author = port.author;
  start = port.start;
  seen = port.seen;
  finds = port.finds;
  made = port.made;
  marks = port.marks;
}

-- past the history that the port had seen when it was made, this one has of its author's entries just those that it made
abbrev pub HasJustMade : List Entry → PortEnd → Type 0
HasJustMade h port = entries_by port.author (drop (length port.start) h) ≡ port.made

-- no two of these ports have one author
abbrev pub AuthorsDiffer : List PortEnd → Type 0
AuthorsDiffer [] = Unit {0}
AuthorsDiffer (port ∷ ports) = AllByRecursion (λ other. other.author ≢ port.author) ports
    × AuthorsDiffer ports

-- one more behind a call that a fault of the disk ended
abbrev pub marks_after : {T : Type 0} → ℕ → Result T Refusal → ℕ
marks_after marks (Ok value) = marks
marks_after marks (Err refusals.DiskFault) = marks + 1
marks_after marks (Err refusal) = marks

-- Where the port tells how often the disk had failed, that rose exactly where a fault of the disk ended the call.
abbrev pub HasFaultCause : {T : Type 0} → Option ℕ → Result T Refusal → Option ℕ → Type 0
HasFaultCause None result None = Unit {0}
HasFaultCause None result (Some now) = ⊥
HasFaultCause (Some before) result None = ⊥
HasFaultCause (Some before) (Ok value) (Some now) = now ≡ before
HasFaultCause (Some before) (Err refusals.DiskFault) (Some now) = Rose before now
HasFaultCause (Some before) (Err refusal) (Some now) = now ≡ before

-- One turn: it finds a history that begins with the one seen, and leaves one, which is then seen. Its author isn't the target.
-- What it finds has all entries of this port, and all of each port that it met, and no others of their authors.
pub record TakesTurn {T : Type 0} (old : PortView) (turn : Turn) (result : Result T Refusal)
    (new : PortView) : Type 0 where
  pub own : 0 < old.author
  pub begins : OthersWentOn old.author old.seen turn.found
  pub has_made : AllByRecursion (HasJustMade turn.found) (end_of old ∷ old.met)
  pub alone : IsTrue old.is_alone → turn.found ≡ old.seen
  pub found_run : IsRun old.opened turn.found
  pub left_run : IsRun old.opened turn.left
  pub more : List Entry
  pub goes_on : turn.left ≡ turn.found ++ more
  pub fault : HasFaultCause old.faults result new.faults
  pub new_is : new ≡ record old {
    seen = turn.left;
    finds = old.finds ++ turn.found ∷ [];
    made = old.made ++ entries_by old.author more;
    marks = marks_after old.marks result;
    faults = new.faults;
  }

-- a Set takes one turn, and is answered at the history that the turn found
pub record SetsOnce (old : PortView) (now : ℕ) (ask : Ask) (result : Result ℕ Refusal)
    (new : PortView) : Type 0 where
  pub turn : Turn
  pub reading : turn.reading ≡ now
  pub taken : TakesTurn old turn result new
  pub answer : AnswersSet (rules_in old.opened) turn.found now old.author ask result turn.left

-- and so does a look
pub record LooksOnce (old : PortView) (now : ℕ) (patterns : List (List Elem))
    (result : Result View Refusal) (new : PortView) : Type 0 where
  pub turn : Turn
  pub reading : turn.reading ≡ now
  pub taken : TakesTurn old turn result new
  pub answer : AnswersLook turn.found now patterns result turn.left

-- one turn of a Set or of a look
abbrev pub TakesOne : PortView → Turn → PortView → Type 0
TakesOne old turn new =
    ((result : Result ℕ Refusal) × TakesTurn old turn result new)
    ⊎ ((result : Result View Refusal) × TakesTurn old turn result new)

-- these turns, one after the other
abbrev pub TakesTurns : PortView → List Turn → PortView → Type 0
TakesTurns old [] new = new ≡ old
TakesTurns old (turn ∷ turns) new =
    (next : PortView) × TakesOne old turn next × TakesTurns next turns new

-- A further port was made: it has seen what the other one has, and has another author, whose number wasn't known to be given
-- out, and is known to be from then on. Neither is alone.
pub record IsTwin (old new twin : PortView) : Type 0 where
  pub new_is : new ≡ record old { is_alone = false; known = new.known }
  pub other : twin.author ≢ old.author
  pub later : old.known < twin.author
  pub given_out : twin.author ≤ new.known
  pub own : 0 < old.author
  pub some : 0 < twin.author
  pub twin_is : twin ≡ record {
    opened = old.opened;
    book = old.book;
    author = twin.author;
    is_alone = false;
    start = old.seen;
    seen = old.seen;
    finds = [];
    made = [];
    marks = 0;
    met = [];
    known = twin.author;
    faults = old.faults;
  }

-- what a port knows from then on that learns that all numbers are given out
abbrev pub knows_all : PortView → PortView
knows_all port = record port { known = most_authors }

-- both are ports of one book
pub record CanMeet (port other : PortView) : Type 0 where
  pub book : other.book ≡ port.book
  pub shared : port.is_alone ≡ false
  pub other_shared : other.is_alone ≡ false

-- The other port has ended, and what it was is kept. What either has seen, this one has seen then: the longer history. It has
-- all that this port and those that it met made, who are all different authors.
pub record Meets (old other new : PortView) : Type 0 where
  pub seen : (new.seen ≡ old.seen) ⊎ (new.seen ≡ other.seen)
  pub has_own : OthersWentOn old.author old.seen new.seen
  pub has_other : OthersWentOn other.author other.seen new.seen
  pub has_made : AllByRecursion (HasJustMade new.seen) (end_of new ∷ new.met)
  pub differ : AuthorsDiffer (end_of new ∷ new.met)
  pub new_is : new ≡ record old {
    seen = new.seen;
    met = old.met ++ end_of other ∷ other.met;
    known = max old.known other.known;
  }

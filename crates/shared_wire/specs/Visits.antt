-- What a port of a wire behind a lock shows, and what its calls do.
use Rattle.std.specs.Prelude.{◌≡◌, ◌≢◌, ◌⊎◌, ℕ, ◌<◌, ◌≤◌, max, List, [], ◌∷◌, ◌++◌, ◌==◌, ◌||◌, if◌then◌else◌, Option, Some, None, map}
use Rattle.std.specs.List.{AllByRecursion}
use Rattle.environment.specs.Output.{Output}
use Rattle.atomic_table.specs.Seated.{TableId}
use Rattle.h2_send.specs.Inputs.{Input}
use Rattle.h2_send.specs.Port.{PortView, Progress, unused_port}
use Rattle.h2_send.specs.declared.condition.Condition.{Condition}
use Rattle.h2_send.specs.declared.condition.Condition.TheVariants as condition
use Rattle.h2_send.specs.Wires.{WireView, progress_of}
use Rattle.turn_lock.specs.Chronicles.{entries_by}
use Rattle.turn_lock.specs.declared.view.Ended.{Ended}
use Rattle.turn_lock.specs.declared.view.View.{View}
use Rattle.shared_wire.specs.Records.{Deed, WireRecord, Began, Gave, record_author, AreRecords, HasNoRoom, IsOpen, left_in}

-- what a call gave the sending half; None for any other one
abbrev pub given_of : Deed → Option Input
given_of (Gave input) = Some input
given_of deed = None

abbrev pub given_in : List WireRecord → List (Option Input)
given_in rs = map (λ r. given_of r.deed) rs

-- a lock's name, as a list of numbers
abbrev pub lock_name : TableId → List ℕ
lock_name z =
    z.words ∷ z.slots ∷ z.views_name ∷ z.atom ∷ z.block ∷ z.offset ∷ z.slot_names

-- a port that was met by another, as it was then
pub record VisitEnd : Type 0 where
  pub author : ℕ
  pub start : List WireRecord
  pub finds : List (List WireRecord)
  pub made : List WireRecord

pub record VisitView : Type 0 where
  -- which wire it is of
  pub lock : List ℕ
  pub author : ℕ
  -- the records that it had seen when it was made, and those that it has seen now
  pub start : List WireRecord
  pub seen : List WireRecord
  -- the records that each of its turns found
  pub finds : List (List WireRecord)
  -- its own records past the start
  pub made : List WireRecord
  -- the ports that ended by meeting it
  pub met : List VisitEnd
  -- so many numbers of authors at least are given out
  pub known : ℕ
  -- what went through it as a port of the wire
  pub counts : PortView

abbrev pub end_of : VisitView → VisitEnd
end_of visit = record {
  author = visit.author;
  start = visit.start;
  finds = visit.finds;
  made = visit.made;
}

-- whose port it is, and of which ports it has met
abbrev pub authors_of : VisitView → List ℕ
authors_of visit = visit.author ∷ map (λ ended. ended.author) visit.met

abbrev pub ended_visit : Ended WireRecord → VisitEnd
ended_visit pass = record {
  author = pass.number;
  start = pass.start;
  finds = pass.finds;
  made = pass.made;
}

-- from what a pass of the lock knows
abbrev pub visit_of : TableId → View WireRecord → PortView → VisitView
visit_of table pass counts = record {
  lock = lock_name table;
  author = pass.turn.number;
  start = pass.start;
  seen = pass.seen;
  finds = pass.finds;
  made = pass.made;
  met = map ended_visit pass.ended;
  known = pass.known;
  counts = counts;
}

-- These records begin with those that the port had seen when it was made, of which none is its author's. Behind them they have of
-- its author just those that it made. So that is all that its author did.
pub record HasJustMade (rs : List WireRecord) (visit : VisitEnd) : Type 0 where
  pub since : List WireRecord
  pub whole : rs ≡ visit.start ++ since
  pub none_before : entries_by record_author visit.author visit.start ≡ []
  pub just : entries_by record_author visit.author since ≡ visit.made

-- the records of other ports than this author's, in order; the first one of a wire is no port's
abbrev pub records_of_others : ℕ → List WireRecord → List WireRecord
records_of_others author [] = []
records_of_others author (r ∷ rs) =
    if (r.author == author) || (r.author == 0) then records_of_others author rs
    else r ∷ records_of_others author rs

-- What others did by what the port has seen: what they gave the sending half, and None for each other thing.
abbrev pub others_of : VisitView → List (Option Input)
others_of visit = given_in (records_of_others visit.author visit.seen)

-- no two of these ports have one author
abbrev pub AuthorsDiffer : List VisitEnd → Type 0
AuthorsDiffer [] = Unit {0}
AuthorsDiffer (visit ∷ visits) =
    AllByRecursion (λ other. other.author ≢ visit.author) visits × AuthorsDiffer visits

-- these records begin with those, and have no more of this author
pub record OthersWentOn (author : ℕ) (seen found : List WireRecord) : Type 0 where
  pub others : List WireRecord
  pub whole : found ≡ seen ++ others
  pub none : entries_by record_author author others ≡ []

-- the records with which a wire is put behind its lock
abbrev pub first_records : Progress → List WireRecord
first_records at = record { author = 0; deed = Began; left = at } ∷ []

-- the first port of a wire
abbrev pub IsFirstVisit : Progress → VisitView → Type 0
IsFirstVisit at visit = visit ≡ record {
  lock = visit.lock;
  author = 1;
  start = first_records at;
  seen = first_records at;
  finds = [];
  made = [];
  met = [];
  known = 1;
  counts = unused_port;
}

-- One turn, which is one more of the port's finds: it finds records that begin with those seen, have all that this port and those
-- that it met made, and no others of their authors. It adds these, which are this port's, and which it has then seen.
pub record TakesTurn (old : VisitView) (found added : List WireRecord)
    (new : VisitView) : Type 0 where
  pub own : 0 < old.author
  pub has_seen : AreRecords old.seen
  pub begins : OthersWentOn old.author old.seen found
  pub has_made : AllByRecursion (HasJustMade found) (end_of old ∷ old.met)
  pub records : AreRecords found
  pub by : AllByRecursion (λ (r : WireRecord). r.author ≡ old.author) added
  pub records_on : AreRecords (found ++ added)
  pub new_is : new ≡ record old {
    seen = found ++ added;
    finds = old.finds ++ found ∷ [];
    made = old.made ++ added;
  }

-- one turn, in which this is done by what it found and added
pub record DoesInTurn (Does : List WireRecord → List WireRecord → Type 0)
    (old new : VisitView) : Type 0 where
  pub found : List WireRecord
  pub added : List WireRecord
  pub turn : TakesTurn old found added new
  pub does : Does found added

-- A further port was made: it has seen what the other one has, has another author, whose number wasn't known to be given out,
-- and is known to be from then on, and has counted nothing.
pub record IsTwin (old new twin : VisitView) : Type 0 where
  pub new_is : new ≡ record old { known = new.known }
  pub other : twin.author ≢ old.author
  pub later : old.known < twin.author
  pub given_out : twin.author ≤ new.known
  pub own : 0 < old.author
  pub some : 0 < twin.author
  pub twin_is : twin ≡ record {
    lock = old.lock;
    author = twin.author;
    start = old.seen;
    seen = old.seen;
    finds = [];
    made = [];
    met = [];
    known = twin.author;
    counts = unused_port;
  }

-- so many numbers of authors there are
abbrev pub most_authors : ℕ
most_authors = 4294967295

-- The other port has ended, and what it was is kept. What either has seen, this one has seen then. It has all that this port and
-- those that it met made, who are all different authors.
pub record Meets (old other new : VisitView) : Type 0 where
  pub seen : (new.seen ≡ old.seen) ⊎ (new.seen ≡ other.seen)
  pub has_own : OthersWentOn old.author old.seen new.seen
  pub has_other : OthersWentOn other.author other.seen new.seen
  pub has_made : AllByRecursion (HasJustMade new.seen) (end_of new ∷ new.met)
  pub differ : AuthorsDiffer (end_of new ∷ new.met)
  pub new_is : new ≡ record old {
    seen = new.seen;
    met = old.met ++ end_of other ∷ other.met;
    known = max old.known other.known;
  }

-- How a wire stands that isn't open, by how the last record left it: so itself. Where there was no room for a call memory was
-- wanting for that, and the wire itself was ended.
abbrev pub IsLeftClosed : Condition → List WireRecord → Condition → Type 0
IsLeftClosed condition.NoMemory rs state =
    (HasNoRoom rs → state ≡ condition.Finished)
    × ((HasNoRoom rs → ⊥) → state ≡ condition.NoMemory)
IsLeftClosed left rs state = state ≡ left

-- how a wire stands behind its records
pub record StandsBehind {S : Type 0} (seen : S → Output) (rs : List WireRecord)
    (wire : WireView S) : Type 0 where
  pub records : AreRecords rs
  pub output : seen wire.sink ≡ (left_in rs).output
  pub is_open : IsOpen rs → progress_of seen wire ≡ left_in rs
  pub closed : (IsOpen rs → ⊥) → IsLeftClosed (left_in rs).condition rs wire.condition

-- each record but the first is of a port, and the ports have numbers up to this one
abbrev pub AreOfPorts : ℕ → List WireRecord → Type 0
AreOfPorts most [] = Unit {0}
AreOfPorts most (first ∷ rs) =
    AllByRecursion (λ (r : WireRecord). (0 < r.author) × (r.author ≤ most)) rs

-- it is of one of these ports
abbrev pub IsOfOne : List VisitEnd → WireRecord → Type 0
IsOfOne [] r = ⊥
IsOfOne (visit ∷ visits) r = (r.author ≡ visit.author) ⊎ IsOfOne visits r

-- each record but the first is
abbrev pub AreOfThese : List VisitEnd → List WireRecord → Type 0
AreOfThese visits [] = Unit {0}
AreOfThese visits (first ∷ rs) = AllByRecursion (IsOfOne visits) rs

-- The wire that the last port gives back, and its records, which begin with what the port has seen, and have all that the port
-- made, and all that each port that it met made, and no others of their authors. Each but the first is of one of these.
pub record GivesBack {S : Type 0} (seen : S → Output) (visit : VisitView)
    (wire : WireView S) : Type 0 where
  pub all : List WireRecord
  pub stands : StandsBehind seen all wire
  pub begins : OthersWentOn visit.author visit.seen all
  pub has_made : AllByRecursion (HasJustMade all) (end_of visit ∷ visit.met)
  pub differ : AuthorsDiffer (end_of visit ∷ visit.met)
  pub given_out : ℕ
  pub known : visit.known ≤ given_out
  pub most : given_out ≤ most_authors
  pub authors : AreOfPorts given_out all
  pub all_met : AreOfThese (end_of visit ∷ visit.met) all

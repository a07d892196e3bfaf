-- Chains of twins and of meetings.
use Rattle.std.proofs.Common.{◌≡◌, ◌+◌, List, [], ◌∷◌, ◌++◌, map, length, refl, sym, ap, ◌∙◌, subst, arith}
use Rattle.std.proofs.lemmas.List.{map-append, length-append}
use Rattle.std.specs.List.{AllByRecursion}
use Rattle.book_port.specs.Ports.{PortView, IsTwin, Meets, CanMeet}
use Rattle.connection_server.specs.declared.job.LinkDone.{LinkDone}
use Rattle.connection_server.specs.declared.job.LinkJob.{LinkJob}
use Rattle.connection_server.specs.declared.link.LinkEnd.{LinkEnd}
use Rattle.connection_server.specs.Jobs.{IsSamePort}
use Rattle.connection_server.specs.inner.Joins.{Joins}
use Rattle.connection_server.specs.Twins.{AreTwins, MeetEach}

-- one more twin
pub twins_more : (old mid new twin : PortView) (twins : List PortView) → AreTwins old twins mid → IsTwin mid new twin → AreTwins old (twins ++ twin ∷ []) new
twins_more old mid new twin [] is one = (new, subst (λ (p : PortView). IsTwin p new twin) is one, refl)
twins_more old mid new twin (first ∷ twins) is one = (is.0, is.1, twins_more is.0 mid new twin twins is.2 one)

pub one_more : {P : Type 0} (port : P → PortView) (old mid new : PortView) (twin : P) (twins : List P) → AreTwins old (map port twins) mid → IsTwin mid new (port twin) → AreTwins old (map port (twins ++ twin ∷ [])) new
one_more port old mid new twin twins is one = subst (λ l. AreTwins old l new) (sym (map-append port twins (twin ∷ []))) (twins_more old mid new (port twin) (map port twins) is one)

pub none_left : {A : Type 0} (xs : List A) → length xs ≡ 0 → xs ≡ []
none_left [] is = refl
none_left (x ∷ xs) is = absurd (omega (arith, is))

pub one_longer : {A : Type 0} (xs : List A) (x : A) → length (xs ++ x ∷ []) ≡ length xs + 1
one_longer xs x = length-append xs (x ∷ [])

-- further meetings
pub meet_on : (old mid new : PortView) (ports more : List PortView) → MeetEach old ports mid → MeetEach mid more new → MeetEach old (ports ++ more) new
meet_on old mid new [] more is later = subst (λ (p : PortView). MeetEach p more new) is later
meet_on old mid new (port ∷ ports) more is later = (is.0, is.1, meet_on is.0 mid new ports more is.2 later)

pub meet_one : {P : Type 0} (port : P → PortView) (old mid new : PortView) (ports : List P) (other : P) → MeetEach old (map port ports) mid → Meets mid (port other) new → MeetEach old (map port (ports ++ other ∷ [])) new
meet_one port old mid new ports other is met = subst (λ l. MeetEach old l new) (sym (map-append port ports (other ∷ []))) (meet_on old mid new (map port ports) (port other ∷ []) is (new, met, refl))

-- who can meet a port can meet it when it has met another
pub still_meets : (old met new other : PortView) → Meets old met new → CanMeet old other → CanMeet new other
still_meets old met new other is can = record {
  book = can.book ∙ sym (ap (λ (p : PortView). p.book) is.new_is);
  shared = ap (λ (p : PortView). p.is_alone) is.new_is ∙ can.shared;
  other_shared = can.other_shared;
}

pub all_still_meet : {A : Type 0} (port : A → PortView) (old met new : PortView) (others : List A) → Meets old met new → AllByRecursion (λ other. CanMeet old (port other)) others → AllByRecursion (λ other. CanMeet new (port other)) others
all_still_meet port old met new [] is all = tt
all_still_meet port old met new (other ∷ others) is all = (still_meets old met new (port other) is all.0, all_still_meet port old met new others is all.1)

-- a port behind its session's calls can still be met
pub can_meet_left : (port old new : PortView) → IsSamePort old new → CanMeet port old → CanMeet port new
can_meet_left port old new same can = record {
  book = same.book ∙ can.book;
  shared = can.shared;
  other_shared = same.alone ∙ can.other_shared;
}

-- the first of the ports that are left has met one, and then the others do
pub meets_next : {P : Type 0} (port : P → PortView) (now next new : PortView) (left after : List P) (other : P) → left ≡ other ∷ after → Meets now (port other) next → MeetEach next (map port after) new → MeetEach now (map port left) new
meets_next port now next new left after other is met later = subst (λ l. MeetEach now (map port l) new) (sym is) (next, met, later)

-- the first of the jobs that are left was done, and its port met, and then the others are
pub joins_next : {S I O P H : Type 0} (port : P → PortView) (gives : LinkJob S I O P → LinkDone I O P H → Type 0) (now next new : PortView) (left after : List (LinkJob S I O P)) (job : LinkJob S I O P) (done : LinkDone I O P H) (ends : List (LinkEnd I O H)) → left ≡ job ∷ after → gives job done → Meets now (port done.port) next → Joins port gives next after ends new → Joins port gives now left (done.end ∷ ends) new
joins_next port gives now next new left after job done ends is gave met later = subst (λ l. Joins port gives now l (done.end ∷ ends) new) (sym is) (record {
  dones = done ∷ later.dones;
  came = (gave, later.came);
  ends_are = ap (λ l. done.end ∷ l) later.ends_are;
  met = (next, met, later.met);
})

-- no jobs are left
pub joins_nothing : {S I O P H : Type 0} (port : P → PortView) (gives : LinkJob S I O P → LinkDone I O P H → Type 0) (now : PortView) (left : List (LinkJob S I O P)) → left ≡ [] → Joins port gives now left [] now
joins_nothing port gives now left is = subst (λ l. Joins port gives now l [] now) (sym is) (record { dones = []; came = tt; ends_are = refl; met = refl })

-- Whose the records of a wire are that was given back behind all feeders.
use Rattle.std.proofs.Common.{◌≡◌, ◌⊎◌, inl, inr, ℕ, ◌==◌, List, [], ◌∷◌, ◌++◌, Bool, true, false, ◌||◌, cond, map, refl, sym, ap, ◌∙◌, subst, eq-eqb}
use Rattle.std.specs.Prelude.{Option, Some, None}
use Rattle.std.specs.List.{AllByRecursion}
use Rattle.std.proofs.lemmas.Bool.{false≢true}
use mathlib.Core.Logic.{dite}
use native.Mathlib.Decide.{ℕ_discrete}
use Rattle.base_kinds.specs.Schema.{SchemaNode}
use Rattle.book_port.specs.Ports.{PortView}
use Rattle.h2_events.specs.declared.said.Said.{Said}
use Rattle.h2_send.specs.Inputs.{Input, Speech}
use Rattle.turn_lock.specs.Chronicles.{entries_by}
use Rattle.turn_lock.proofs.Counts.{by_append, by_hit, by_miss}
use Rattle.shared_wire.specs.Records.{WireRecord, AreRecords, record_author}
use Rattle.shared_wire.specs.Visits.{AreOfThese, HasJustMade, IsOfOne, VisitEnd, VisitView, end_of, given_in, given_of, records_of_others}
use Rattle.stream_workers.specs.Ports.{IsUnused}
use Rattle.stream_workers.specs.Feeders.{AllEnd, Feeder, HaveEnded, IsOfFeeder, Started, is_fed, streams_of, words_of}

-- it says something on the stream of a feeder
abbrev IsTheirs : List ℕ → WireRecord → Type 0
IsTheirs fed r = IsOfFeeder fed (given_of r.deed)

-- ---- what one port made

abbrev first_given : List (Option Input) → Option Input
first_given [] = None
first_given (one ∷ others) = one

abbrev others_given : List (Option Input) → List (Option Input)
others_given [] = []
others_given (one ∷ others) = others

abbrev is_nothing : List (Option Input) → Bool
is_nothing [] = true
is_nothing (one ∷ others) = false

all_said : (fed : List ℕ) (stream : ℕ) (made : List WireRecord) (words : List Said) → is_fed fed stream ≡ true → given_in made ≡ map (λ word. Some (Speech stream word)) words → AllByRecursion (IsTheirs fed) made
all_said fed stream [] words on is = tt
all_said fed stream (r ∷ made) [] on is = absurd (false≢true (ap is_nothing is))
all_said fed stream (r ∷ made) (word ∷ words) on is =
    (subst (IsOfFeeder fed) (sym (ap first_given is)) on, all_said fed stream made words on (ap others_given is))

-- all records of one author
by_author : (P : WireRecord → Type 0) (n : ℕ) (rs : List WireRecord) → AllByRecursion P (entries_by record_author n rs) → AllByRecursion (λ r. r.author ≡ n → P r) rs
by_author P n [] all = tt
by_author P n (r ∷ rs) all = dite (ℕ_discrete r.author n)
    (λ is. let both = subst (AllByRecursion P) (by_hit record_author n r rs is) all in ((λ _. both.0), by_author P n rs both.1))
    (λ ne. ((λ is. absurd (ne is)), by_author P n rs (subst (AllByRecursion P) (by_miss record_author n r rs ne) all)))

is_made : (rs : List WireRecord) (visit : VisitEnd) → HasJustMade rs visit → entries_by record_author visit.author rs ≡ visit.made
is_made rs visit has =
    ap (entries_by record_author visit.author) has.whole
    ∙ by_append record_author visit.author visit.start has.since
    ∙ ap (λ (es : List WireRecord). es ++ entries_by record_author visit.author has.since) has.none_before
    ∙ has.just

-- all that a port did that has these records
abbrev AreTheirs : List ℕ → List WireRecord → VisitEnd → Type 0
AreTheirs fed rs visit = AllByRecursion (λ r. r.author ≡ visit.author → IsTheirs fed r) rs

one_port : (fed : List ℕ) (rs : List WireRecord) (visit : VisitEnd) → HasJustMade rs visit → AllByRecursion (IsTheirs fed) visit.made → AreTheirs fed rs visit
one_port fed rs visit has made = by_author (IsTheirs fed) visit.author rs (subst (AllByRecursion (IsTheirs fed)) (sym (is_made rs visit has)) made)

-- ---- all ports that were met

fed_here : (b : Bool) (fed : List ℕ) (stream : ℕ) → b ≡ true → (b || is_fed fed stream) ≡ true
fed_here true fed stream is = refl
fed_here false fed stream is = absurd (false≢true is)

fed_later : (b : Bool) (fed : List ℕ) (stream : ℕ) → is_fed fed stream ≡ true → (b || is_fed fed stream) ≡ true
fed_later true fed stream is = refl
fed_later false fed stream is = is

same_number : (n : ℕ) → (n == n) ≡ true
same_number n = eq-eqb n n refl

still_fed : (fed : List ℕ) (stream : ℕ) (given : Option Input) → IsOfFeeder fed given → IsOfFeeder (stream ∷ fed) given
still_fed fed stream None is = is
still_fed fed stream (Some (Speech on said)) is = fed_later (stream == on) fed on is
still_fed fed stream (Some other) is = absurd is

all_still_fed : (fed : List ℕ) (stream : ℕ) (rs : List WireRecord) → AllByRecursion (IsTheirs fed) rs → AllByRecursion (IsTheirs (stream ∷ fed)) rs
all_still_fed fed stream [] all = tt
all_still_fed fed stream (r ∷ rs) all = (still_fed fed stream (given_of r.deed) all.0, all_still_fed fed stream rs all.1)

each_still_fed : (fed : List ℕ) (stream : ℕ) (ends : List VisitEnd) → AllByRecursion (λ (e : VisitEnd). AllByRecursion (IsTheirs fed) e.made) ends → AllByRecursion (λ (e : VisitEnd). AllByRecursion (IsTheirs (stream ∷ fed)) e.made) ends
each_still_fed fed stream [] all = tt
each_still_fed fed stream (e ∷ ends) all = (all_still_fed fed stream e.made all.0, each_still_fed fed stream ends all.1)

all_feeders : (schema : List SchemaNode) (started : List Started) (feeders : List Feeder) (visits : List VisitView) → HaveEnded schema started feeders visits → AllByRecursion (λ (e : VisitEnd). AllByRecursion (IsTheirs (streams_of feeders)) e.made) (map end_of visits)
all_feeders schema [] feeders visits ended =
    subst (λ (vs : List VisitView). AllByRecursion (λ (e : VisitEnd). AllByRecursion (IsTheirs (streams_of feeders)) e.made) (map end_of vs)) (sym ended.1) tt
all_feeders schema (one ∷ started) [] visits ended = absurd ended
all_feeders schema (one ∷ started) (feeder ∷ feeders) [] ended = absurd ended
all_feeders schema (one ∷ started) (feeder ∷ feeders) (visit ∷ visits) ended = (
  all_said (streams_of (feeder ∷ feeders)) feeder.stream visit.made (words_of ended.0.feeds) (fed_here (feeder.stream == feeder.stream) (streams_of feeders) feeder.stream (same_number feeder.stream)) ended.0.made,
  each_still_fed (streams_of feeders) feeder.stream (map end_of visits) (all_feeders schema started feeders visits ended.1),
)

unused_made : (fed : List ℕ) (ends : List VisitEnd) → AllByRecursion IsUnused ends → AllByRecursion (λ (e : VisitEnd). AllByRecursion (IsTheirs fed) e.made) ends
unused_made fed [] unused = tt
unused_made fed (e ∷ ends) unused = (subst (AllByRecursion (IsTheirs fed)) (sym unused.0) tt, unused_made fed ends unused.1)

both_made : {T : Type 0} (P : T → Type 0) (first second : List T) → AllByRecursion P first → AllByRecursion P second → AllByRecursion P (first ++ second)
both_made P [] second a b = b
both_made P (one ∷ first) second a b = (a.0, both_made P first second a.1 b)

each_port : (fed : List ℕ) (rs : List WireRecord) (ends : List VisitEnd) → AllByRecursion (HasJustMade rs) ends → AllByRecursion (λ (e : VisitEnd). AllByRecursion (IsTheirs fed) e.made) ends → AllByRecursion (AreTheirs fed rs) ends
each_port fed rs [] has made = tt
each_port fed rs (e ∷ ends) has made = (one_port fed rs e has.0 made.0, each_port fed rs ends has.1 made.1)

-- ---- all records

heads : (fed : List ℕ) (r : WireRecord) (rs : List WireRecord) (ends : List VisitEnd) → AllByRecursion (AreTheirs fed (r ∷ rs)) ends → AllByRecursion (λ (e : VisitEnd). r.author ≡ e.author → IsTheirs fed r) ends
heads fed r rs [] all = tt
heads fed r rs (e ∷ ends) all = (all.0.0, heads fed r rs ends all.1)

tails : (fed : List ℕ) (r : WireRecord) (rs : List WireRecord) (ends : List VisitEnd) → AllByRecursion (AreTheirs fed (r ∷ rs)) ends → AllByRecursion (AreTheirs fed rs) ends
tails fed r rs [] all = tt
tails fed r rs (e ∷ ends) all = (all.0.1, tails fed r rs ends all.1)

of_one : (fed : List ℕ) (r : WireRecord) (ends : List VisitEnd) → AllByRecursion (λ (e : VisitEnd). r.author ≡ e.author → IsTheirs fed r) ends → IsOfOne ends r → IsTheirs fed r
of_one fed r [] all is = absurd is
of_one fed r (e ∷ ends) all (inl is) = all.0 is
of_one fed r (e ∷ ends) all (inr is) = of_one fed r ends all.1 is

of_others : (fed : List ℕ) (r : WireRecord) (own : VisitEnd) (ends : List VisitEnd) → (r.author == own.author) ≡ false → AllByRecursion (λ (e : VisitEnd). r.author ≡ e.author → IsTheirs fed r) ends → IsOfOne (own ∷ ends) r → IsTheirs fed r
of_others fed r own ends ne all (inl is) = absurd (false≢true (sym ne ∙ ap (λ (n : ℕ). n == own.author) is ∙ same_number own.author))
of_others fed r own ends ne all (inr is) = of_one fed r ends all is

put_others : (fed : List ℕ) (b z : Bool) (r : WireRecord) (rs : List WireRecord) → ((b ≡ false) → IsTheirs fed r) → AllByRecursion (IsOfFeeder fed) (given_in rs) → AllByRecursion (IsOfFeeder fed) (given_in (cond (b || z) rs (r ∷ rs)))
put_others fed true z r rs its all = all
put_others fed false true r rs its all = all
put_others fed false false r rs its all = (its refl, all)

all_others : (fed : List ℕ) (own : VisitEnd) (ends : List VisitEnd) (rs : List WireRecord) → AllByRecursion (IsOfOne (own ∷ ends)) rs → AllByRecursion (AreTheirs fed rs) ends → AllByRecursion (IsOfFeeder fed) (given_in (records_of_others own.author rs))
all_others fed own ends [] of their = tt
all_others fed own ends (r ∷ rs) of their =
    put_others fed (r.author == own.author) (r.author == 0) r (records_of_others own.author rs)
    (λ ne. of_others fed r own ends ne (heads fed r rs ends their) of.0)
    (all_others fed own ends rs of.1 (tails fed r rs ends their))

first_no_ports : (fed : List ℕ) (b z : Bool) (r : WireRecord) (rs : List WireRecord) → z ≡ true → AllByRecursion (IsOfFeeder fed) (given_in rs) → AllByRecursion (IsOfFeeder fed) (given_in (cond (b || z) rs (r ∷ rs)))
first_no_ports fed true z r rs is all = all
first_no_ports fed false true r rs is all = all
first_no_ports fed false false r rs is all = absurd (false≢true is)

all_of_wire : (fed : List ℕ) (own : VisitEnd) (ends : List VisitEnd) (rs : List WireRecord) → AreRecords rs → AreOfThese (own ∷ ends) rs → AllByRecursion (AreTheirs fed rs) ends → AllByRecursion (IsOfFeeder fed) (given_in (records_of_others own.author rs))
all_of_wire fed own ends [] are of their = absurd are
all_of_wire fed own ends (r ∷ rs) are of their =
    first_no_ports fed (r.author == own.author) (r.author == 0) r (records_of_others own.author rs)
    (ap (λ (n : ℕ). n == 0) are.3)
    (all_others fed own ends rs of (tails fed r rs ends their))

pub others_are_feeders : (schema : List SchemaNode) (started : List Started) (old_book new_book : PortView) (old_wire new_wire : VisitView) (all : List WireRecord)
    → (end : AllEnd schema started old_book old_wire new_book new_wire) → AllByRecursion IsUnused old_wire.met → AreRecords all → AreOfThese (end_of new_wire ∷ new_wire.met) all → AllByRecursion (HasJustMade all) new_wire.met
    → AllByRecursion (IsOfFeeder (streams_of end.feeders)) (given_in (records_of_others new_wire.author all))
others_are_feeders schema started old_book new_book old_wire new_wire all end unused are of has =
    let fed = streams_of end.feeders in
    let made : AllByRecursion (λ (e : VisitEnd). AllByRecursion (IsTheirs fed) e.made) new_wire.met =
    subst (λ (ends : List VisitEnd). AllByRecursion (λ (e : VisitEnd). AllByRecursion (IsTheirs fed) e.made) ends) (sym end.met)
    (both_made _ old_wire.met (map end_of end.visits) (unused_made fed old_wire.met unused) (all_feeders schema started end.feeders end.visits end.ended)) in
    all_of_wire fed (end_of new_wire) new_wire.met all are of (each_port fed all new_wire.met has made)

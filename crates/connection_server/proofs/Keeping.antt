-- What the sessions' ports leave in the history that is seen at the end.
use Rattle.std.proofs.Common.{◌≡◌, ◌≢◌, ℕ, ◌≤◌, List, [], ◌∷◌, ◌++◌, length, drop, map, sym, ap, ◌∙◌, subst, arith, append-nil, append_assoc, inl, inr}
use Rattle.std.proofs.lemmas.List.{append_cancel_left}
use Rattle.std.specs.List.{AllByRecursion}
use Rattle.base_kinds.specs.declared.entry.Entry.{Entry}
use Rattle.book_port.specs.Chronicles.{entries_by}
use Rattle.book_port.specs.Follows.{Turn, OthersWentOn, Follows, made_by}
use Rattle.book_port.specs.Ports.{PortView, PortEnd, Meets, TakesOne, TakesTurns, HasJustMade, end_of}
use Rattle.book_port.proofs.Chronicled.{entries_by_more}
use Rattle.book_port.proofs.Following.{dropped, others_again, others_follow, follows_goes_on}
use Rattle.book_port.proofs.Taking.{taken_follow, taken_go_on, taken_are_made}
use Rattle.connection_server.specs.Twins.{AreTwins, MeetEach, RiseAbove}
use Rattle.connection_server.specs.laws.SessionLaws.{Differ, IsNew, StandIn}

-- ---- authors

rise_from : (bound : ℕ) (old new : PortView) (twins : List PortView) → bound ≤ old.known → AreTwins old twins new → RiseAbove bound (map (λ (twin : PortView). twin.author) twins)
rise_from bound old new [] le is = tt
rise_from bound old new (twin ∷ twins) le is = let later = is.1.later in (omega (arith, le, later), rise_from twin.author is.0 new twins is.1.given_out is.2)

pub twins_rise : (old new : PortView) (twins : List PortView) → AreTwins old twins new → RiseAbove old.known (map (λ (twin : PortView). twin.author) twins)
twins_rise old new twins is = rise_from old.known old new twins (omega arith) is

others_above : (low bound : ℕ) (numbers : List ℕ) → low ≤ bound → RiseAbove bound numbers → AllByRecursion (λ other. other ≢ low) numbers
others_above low bound [] le rise = tt
others_above low bound (number ∷ numbers) le rise = let first = rise.0 in ((λ e. omega (arith, e, first, le)), others_above low number numbers (omega (arith, first, le)) rise.1)

pub rising_differ : (bound : ℕ) (numbers : List ℕ) → RiseAbove bound numbers → Differ numbers
rising_differ bound [] rise = tt
rising_differ bound (number ∷ numbers) rise = (others_above number number numbers (omega arith) rise.1, rising_differ number numbers rise.1)

pub twins_are_new : (old new : PortView) (twins : List PortView) → AreTwins old twins new → AllByRecursion IsNew twins
twins_are_new old new [] is = tt
twins_are_new old new (twin ∷ twins) is = (
  record {
    start = ap (λ (p : PortView). p.start) is.1.twin_is ∙ sym (ap (λ (p : PortView). p.seen) is.1.twin_is);
    made = ap (λ (p : PortView). p.made) is.1.twin_is;
  },
  twins_are_new is.0 new twins is.2,
)

-- ---- meetings

pub grows : (old new : PortView) (others : List PortView) → MeetEach old others new → (more : List Entry) × (new.seen ≡ old.seen ++ more)
grows old new [] is = ([], ap (λ (p : PortView). p.seen) is ∙ sym (append-nil old.seen))
grows old new (other ∷ others) is =
    let later = grows is.0 new others is.2 in
    let first = is.1.has_own in
    (first.others ++ later.0, later.1 ∙ ap (λ l. l ++ later.0) first.whole ∙ append_assoc old.seen first.others later.0)

among : (P : PortEnd → Type 0) (before later : List PortEnd) (port : PortEnd) → AllByRecursion P (before ++ port ∷ later) → P port
among P [] later port all = all.0
among P (first ∷ before) later port all = among P before later port all.1

-- who has met a port keeps it
stays : (now new : PortView) (others : List PortView) (before later : List PortEnd) (port : PortEnd) → now.met ≡ before ++ port ∷ later → HasJustMade now.seen port → MeetEach now others new → HasJustMade new.seen port
stays now new [] before later port met just is = subst (λ h. HasJustMade h port) (sym (ap (λ (p : PortView). p.seen) is)) just
stays now new (other ∷ others) before later port met just is =
    let more : List PortEnd = end_of other ∷ other.met in
    let met_next : is.0.met ≡ before ++ port ∷ (later ++ more) = ap (λ (p : PortView). p.met) is.1.new_is ∙ ap (λ l. l ++ more) met ∙ append_assoc before (port ∷ later) more in
    stays is.0 new others before (later ++ more) port met_next (among (HasJustMade is.0.seen) before (later ++ more) port (subst (λ l. AllByRecursion (HasJustMade is.0.seen) l) met_next is.1.has_made.1)) is.2

module _ (old other next : PortView) (meets : Meets old other next) where
  met_next : next.met ≡ old.met ++ end_of other ∷ other.met
  met_next = ap (λ (p : PortView). p.met) meets.new_is

  just_next : HasJustMade next.seen (end_of other)
  just_next = among (HasJustMade next.seen) old.met other.met (end_of other) (subst (λ l. AllByRecursion (HasJustMade next.seen) l) met_next meets.has_made.1)

  just_later : (new : PortView) (others : List PortView) → MeetEach next others new → HasJustMade new.seen (end_of other)
  just_later new others is = stays next new others old.met other.met (end_of other) met_next just_next is

  module _ (since more h : List Entry) (grown : other.seen ≡ other.start ++ since) (whole : h ≡ next.seen ++ more) (just : HasJustMade h (end_of other)) where
    abbrev behind : List Entry
    behind = since ++ meets.has_other.others

    seen_is : next.seen ≡ other.start ++ behind
    seen_is = meets.has_other.whole ∙ ap (λ l. l ++ meets.has_other.others) grown ∙ append_assoc other.start since meets.has_other.others

    made_then : entries_by other.author behind ≡ other.made
    made_then = ap (entries_by other.author) (sym (ap (drop (length other.start)) seen_is ∙ dropped other.start behind)) ∙ just_next

    later_is : drop (length other.start) h ≡ behind ++ more
    later_is = ap (drop (length other.start)) (whole ∙ ap (λ l. l ++ more) seen_is ∙ append_assoc other.start behind more) ∙ dropped other.start (behind ++ more)

    none_more : entries_by other.author more ≡ []
    none_more = append_cancel_left other.made (entries_by other.author more) [] (
        ap (λ l. l ++ entries_by other.author more) (sym made_then) ∙ sym (entries_by_more other.author behind more)
        ∙ ap (entries_by other.author) (sym later_is) ∙ just ∙ sym (append-nil other.made))

    went_on : OthersWentOn other.author other.seen h
    went_on = others_again other.author other.seen next.seen h meets.has_other (record { others = more; whole = whole; none = none_more })

pub entries_are_kept : (old new : PortView) (others : List PortView) → MeetEach old others new → AllByRecursion (λ other. HasJustMade new.seen (end_of other)) others
entries_are_kept old new [] is = tt
entries_are_kept old new (other ∷ others) is = (just_later old other is.0 is.1 new others is.2, entries_are_kept is.0 new others is.2)

-- ---- turns

-- turns keep whose they are and where they began
record IsStill (old new : PortView) : Type 0 where
  pub author_is : new.author ≡ old.author
  pub start_is : new.start ≡ old.start

one_still : (old : PortView) (turn : Turn) (new : PortView) → TakesOne old turn new → IsStill old new
one_still old turn new (inl set) = record { author_is = ap (λ (p : PortView). p.author) set.1.new_is; start_is = ap (λ (p : PortView). p.start) set.1.new_is }
one_still old turn new (inr look) = record { author_is = ap (λ (p : PortView). p.author) look.1.new_is; start_is = ap (λ (p : PortView). p.start) look.1.new_is }

still : (old new : PortView) (turns : List Turn) → TakesTurns old turns new → IsStill old new
still old new [] is = record { author_is = ap (λ (p : PortView). p.author) is; start_is = ap (λ (p : PortView). p.start) is }
still old new (turn ∷ turns) is =
    let first = one_still old turn is.0 is.1 in
    let later = still is.0 new turns is.2 in
    record { author_is = later.author_is ∙ first.author_is; start_is = later.start_is ∙ first.start_is }

module _ (old other next new twin : PortView) (others : List PortView) (turns : List Turn) (meets : Meets old other next) (rest : MeetEach next others new) (fresh : IsNew twin) (taken : TakesTurns twin turns other) where
  abbrev kept : IsStill twin other
  kept = still twin other turns taken

  follow : Follows twin.author twin.seen turns other.seen
  follow = taken_follow twin other turns taken

  since : (more : List Entry) × (other.seen ≡ twin.seen ++ more)
  since = follows_goes_on twin.author twin.seen turns other.seen (taken_go_on twin other turns taken) follow

  grown : other.seen ≡ other.start ++ since.0
  grown = since.1 ∙ ap (λ l. l ++ since.0) (sym (kept.start_is ∙ fresh.start))

  just : HasJustMade new.seen (end_of other)
  just = just_later old other next meets new others rest

  others_on : OthersWentOn other.author other.seen new.seen
  others_on = let more = grows next new others rest in went_on old other next meets since.0 more.0 new.seen grown more.1 just

  stand : StandIn new.seen twin turns
  stand = record {
    follow = others_follow twin.author twin.seen turns other.seen new.seen follow (subst (λ author. OthersWentOn author other.seen new.seen) kept.author_is others_on);
    own = ap (λ author. entries_by author (drop (length twin.seen) new.seen)) (sym kept.author_is)
        ∙ ap (λ (l : List Entry). entries_by other.author (drop (length l) new.seen)) (sym (kept.start_is ∙ fresh.start))
        ∙ just ∙ taken_are_made twin other turns taken ∙ ap (λ l. l ++ made_by twin.author turns) fresh.made;
  }

pub turns_stand : (old new : PortView) (others : List PortView) → MeetEach old others new → AllByRecursion (λ other. (twin : PortView) (turns : List Turn) → IsNew twin → TakesTurns twin turns other → StandIn new.seen twin turns) others
turns_stand old new [] is = tt
turns_stand old new (other ∷ others) is = ((λ twin turns fresh taken. stand old other is.0 new twin others turns is.1 is.2 fresh taken), turns_stand is.0 new others is.2)

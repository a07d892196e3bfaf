-- What sessions did stands in one history.
use Rattle.std.proofs.Common.{◌≡◌, ℕ, List, [], ◌∷◌, ◌++◌, length, drop, map, sym, ap, ◌∙◌, subst, append_assoc}
use Rattle.std.specs.List.{AllByRecursion}
use Rattle.base_kinds.specs.declared.entry.Entry.{Entry}
use Rattle.environment.specs.Input.{Input}
use Rattle.environment.specs.Output.{Output}
use Rattle.book_port.specs.Chronicles.{entries_by}
use Rattle.book_port.specs.Follows.{Turn, Follows, OthersWentOn, made_by}
use Rattle.book_port.specs.Ports.{PortView, PortEnd, HasJustMade, Meets, TakesTurns, end_of}
use Rattle.book_port.proofs.Following.{others_again, others_follow, follows_goes_on}
use Rattle.book_port.proofs.Taking.{taken_follow, taken_go_on, taken_are_made}
use Rattle.shared_book.proofs.Ending.{met_went_on}
use Rattle.stream_workers.specs.Feeders.{Feeder, MeetsEach}
use Rattle.stream_workers.specs.Ports.{own_port}
use Rattle.session_core.specs.Deeds.{turns_in}
use Rattle.session_core.specs.Runs.{outside_of}
use Rattle.session_core.specs.Serving.{deeds_in}
use Rattle.session_core.proofs.FeederRuns.{books_seen, books_went}
use Rattle.connection_server.specs.Jobs.{IsSamePort}
use Rattle.connection_server.specs.Serving.{behind_twins}
use Rattle.connection_server.specs.Twins.{MeetEach}
use Rattle.connection_server.specs.laws.SessionLaws.{IsNew, StandIn}
use Rattle.connection_server.proofs.Keeping.{grows, twins_are_new}
use Rattle.gnmi_server.specs.Serving.{Served}
use Rattle.gnmi_server.specs.Sessions.{ServesLink}
use Rattle.gnmi_server.specs.laws.HistoryLaws.{HasFront, SessionsStand, Stands, StandsIn}
use Rattle.gnmi_server.proofs.Ports.{own_taken, taken_same}

-- ---- behind the meetings of a session's port with those of its feeders

pub record WentOn (old new : PortView) : Type 0 where
  pub author : new.author ≡ old.author
  pub start : new.start ≡ old.start
  pub made : new.made ≡ old.made
  pub others : OthersWentOn old.author old.seen new.seen

feeders_met : (old new : PortView) (feeders : List Feeder) → MeetsEach old feeders new → WentOn old new
feeders_met old new [] is = record {
  author = ap (λ (p : PortView). p.author) is;
  start = ap (λ (p : PortView). p.start) is;
  made = ap (λ (p : PortView). p.made) is;
  others = books_went old [] new is;
}
feeders_met old new (feeder ∷ feeders) is =
    let first = is.1.new_is in
    let later = feeders_met is.0 new feeders is.2 in
    record {
      author = later.author ∙ ap (λ (p : PortView). p.author) first;
      start = later.start ∙ ap (λ (p : PortView). p.start) first;
      made = later.made ∙ ap (λ (p : PortView). p.made) first;
      others = books_went old (feeder ∷ feeders) new is;
    }

-- what each of these has seen is a front of what is seen then, and of what goes on from that
fronts_on : (seen h others : List Entry) (feeders : List Feeder) → h ≡ seen ++ others → AllByRecursion (λ feeder. HasFront seen feeder.to.book.seen) feeders → AllByRecursion (λ feeder. HasFront h feeder.to.book.seen) feeders
fronts_on seen h others [] whole all = tt
fronts_on seen h others (feeder ∷ feeders) whole all =
    ((all.0.0 ++ others, whole ∙ ap (λ l. l ++ others) all.0.1 ∙ append_assoc feeder.to.book.seen all.0.0 others), fronts_on seen h others feeders whole all.1)

-- ---- who was met is kept

front : (P : PortEnd → Type 0) (xs ys : List PortEnd) → AllByRecursion P (xs ++ ys) → AllByRecursion P xs × AllByRecursion P ys
front P [] ys all = (tt, all)
front P (x ∷ xs) ys all = let rest = front P xs ys all.1 in ((all.0, rest.0), rest.1)

all_met : (P : PortEnd → Type 0) (old new : PortView) (others : List PortView) → MeetEach old others new → AllByRecursion P new.met → AllByRecursion P old.met × AllByRecursion (λ other. P (end_of other)) others
all_met P old new [] is all = (subst (λ (p : PortView). AllByRecursion P p.met) is all, tt)
all_met P old new (other ∷ others) is all =
    let later = all_met P is.0 new others is.2 all in
    let met : AllByRecursion P (old.met ++ end_of other ∷ other.met) = subst (λ l. AllByRecursion P l) (ap (λ (p : PortView). p.met) is.1.new_is) later.0 in
    let both = front P old.met (end_of other ∷ other.met) met in
    (both.0, (both.1.0, later.1))

-- ---- one session

module _ {I O : Type 0} (reads : I → Input) (writes : O → Output) (one : Served I O) (old next new : PortView) (others : List PortView) (h more : List Entry) (meets : Meets old one.left.port next) (rest : MeetEach next others new) (whole : h ≡ new.seen ++ more) (fresh : IsNew one.link.port) (just : HasJustMade h (end_of one.left.port)) (run : ServesLink reads writes one.link one.left) where
  abbrev port : PortView
  port = run.run.port

  abbrev turns : List Turn
  turns = turns_in (deeds_in run.run.run.served)

  abbrev author : ℕ
  author = one.link.port.author

  taken : TakesTurns (own_port one.link.port) turns (own_port port)
  taken = own_taken one.link.port.opened.schema (outside_of (reads one.link.input) (writes one.link.output) one.link.port []) one.left.how (outside_of (reads one.left.input) (writes one.left.output) one.left.port run.readings) run.run

  follow : Follows author one.link.port.seen turns port.seen
  follow = taken_follow (own_port one.link.port) (own_port port) turns taken

  grew : (grown : List Entry) × (port.seen ≡ one.link.port.seen ++ grown)
  grew = follows_goes_on author one.link.port.seen turns port.seen (taken_go_on (own_port one.link.port) (own_port port) turns taken) follow

  met : WentOn port one.left.port
  met = feeders_met port one.left.port run.run.feeders run.run.met

  still : IsSamePort (own_port one.link.port) (own_port port)
  still = taken_same (own_port one.link.port) (own_port port) turns taken

  left_author : one.left.port.author ≡ author
  left_author = met.author ∙ still.author

  left_start : one.left.port.start ≡ one.link.port.seen
  left_start = met.start ∙ still.start ∙ fresh.start

  left_made : one.left.port.made ≡ made_by author turns
  left_made = met.made ∙ taken_are_made (own_port one.link.port) (own_port port) turns taken ∙ ap (λ l. l ++ made_by author turns) fresh.made

  abbrev behind : List Entry
  behind = grew.0 ++ met.others.others

  since : one.left.port.seen ≡ one.left.port.start ++ behind
  since = met.others.whole ∙ ap (λ l. l ++ met.others.others) grew.1 ∙ append_assoc one.link.port.seen grew.0 met.others.others ∙ ap (λ l. l ++ behind) (sym left_start)

  later : (l : List Entry) × (new.seen ≡ next.seen ++ l)
  later = grows next new others rest

  on : OthersWentOn one.left.port.author one.left.port.seen h
  on = met_went_on old one.left.port next behind (later.0 ++ more) h meets since (whole ∙ ap (λ l. l ++ more) later.1 ∙ append_assoc next.seen later.0 more) just

  own_stand : StandIn h one.link.port turns
  own_stand = record {
    follow = others_follow author one.link.port.seen turns port.seen h follow
        (others_again author port.seen one.left.port.seen h (subst (λ n. OthersWentOn n port.seen one.left.port.seen) still.author met.others) (subst (λ n. OthersWentOn n one.left.port.seen h) left_author on));
    own = ap (λ n. entries_by n (drop (length one.link.port.seen) h)) (sym left_author)
        ∙ ap (λ (l : List Entry). entries_by one.left.port.author (drop (length l) h)) (sym left_start) ∙ just ∙ left_made;
  }

  stand : StandsIn reads writes h one run
  stand = record {
    own = own_stand;
    fed = fronts_on one.left.port.seen h on.others run.run.feeders on.whole (books_seen port run.run.feeders one.left.port run.run.met);
  }

-- ---- all of them

pub all_stand : {I O : Type 0} (reads : I → Input) (writes : O → Output) (served : List (Served I O)) (unused : List PortView) (old new : PortView) (h more : List Entry) → MeetEach old (map (λ (one : Served I O). one.left.port) served ++ unused) new → h ≡ new.seen ++ more
    → AllByRecursion IsNew (map (λ (one : Served I O). one.link.port) served ++ unused) → AllByRecursion (λ other. HasJustMade h (end_of other)) (map (λ (one : Served I O). one.left.port) served ++ unused) → AllByRecursion (Stands reads writes h) served
all_stand reads writes [] unused old new h more all_of whole fresh just = tt
all_stand {I} {O} reads writes (one ∷ served) unused old new h more all_of whole fresh just = (
  λ run. stand reads writes one old all_of.0 new (map (λ (one : Served I O). one.left.port) served ++ unused) h more all_of.1 all_of.2 whole fresh.0 just.0 run,
  all_stand reads writes served unused all_of.0 new h more all_of.2 whole fresh.1 just.1,
)

pub sessions_stand : {I O : Type 0} (reads : I → Input) (writes : O → Output) → SessionsStand reads writes
sessions_stand {I} {O} reads writes count how ends old door_old new door_new is h on =
    all_stand reads writes is.served is.unused (behind_twins how is.last) new h on.more is.met on.whole
    (twins_are_new old is.last (map (λ (one : Served I O). one.link.port) is.served ++ is.unused) is.twins)
    (all_met (HasJustMade h) (behind_twins how is.last) new (map (λ (one : Served I O). one.left.port) is.served ++ is.unused) is.met on.has_made).1

-- What the records of connections say, by the jobs that they came of.
use Rattle.std.proofs.Common.{◌≡◌, ℕ, suc, ◌+◌, ◌≤◌, max, List, [], ◌∷◌, ◌++◌, length, map, refl, sym, ap, ◌∙◌, subst, arith}
use Rattle.std.proofs.lemmas.List.{map-append}
use Rattle.std.specs.List.{AllByRecursion}
use Rattle.environment.specs.Input.{Input}
use Rattle.environment.specs.Output.{Output}
use Rattle.listening.specs.Doors.{DoorView}
use Rattle.book_port.specs.Ports.{PortView, most_authors}
use Rattle.connection_server.specs.declared.accepting.Ending.{Ending}
use Rattle.connection_server.specs.declared.accepting.Ending.TheVariants as ending
use Rattle.connection_server.specs.declared.job.LinkDone.{LinkDone}
use Rattle.connection_server.specs.declared.job.LinkJob.{LinkJob}
use Rattle.connection_server.specs.declared.link.Link.{Link}
use Rattle.connection_server.specs.declared.link.LinkEnd.{LinkEnd}
use Rattle.connection_server.specs.declared.link.LinkLeft.{LinkLeft}
use Rattle.connection_server.specs.Accepting.{port_in, AreNumbered, IsMadeFor, IsEnded}
use Rattle.connection_server.specs.Jobs.{IsDone}
use Rattle.connection_server.specs.Joining.{AreCounted, CameOf, authors_of, numbers_of}
use Rattle.connection_server.specs.Serving.{ServesLinks, behind_twins}
use Rattle.connection_server.specs.Twins.{MeetEach, RiseAbove}
use Rattle.connection_server.proofs.Keeping.{twins_rise}

rises_front : (bound : ℕ) (xs ys : List ℕ) → RiseAbove bound (xs ++ ys) → RiseAbove bound xs
rises_front bound [] ys rise = tt
rises_front bound (x ∷ xs) ys rise = (rise.0, rises_front x xs ys rise.1)

knows_on : (old new : PortView) (others : List PortView) → MeetEach old others new → old.known ≤ new.known
knows_on old new [] is = let same = ap (λ (p : PortView). p.known) is in omega (arith, same)
knows_on old new (other ∷ others) is =
    let later = knows_on is.0 new others is.2 in
    let next : is.0.known ≡ max old.known other.known = ap (λ (p : PortView). p.known) is.1.new_is in
    omega (arith, later, next)

module _ {S I O P H : Type 0} (reads : I → Input) (writes : O → Output) (of : S → Link I O P) (makes : S → Type 0) (port : P → PortView) (serves : S → LinkLeft I O P H → Type 0) (unserved : H) where
  abbrev Gives : LinkJob S I O P → LinkDone I O P H → Type 0
  Gives = IsDone of port serves unserved

  same_length : (jobs : List (LinkJob S I O P)) (dones : List (LinkDone I O P H)) → CameOf Gives jobs dones → length (map (λ (done : LinkDone I O P H). done.end) dones) ≡ length jobs
  same_length [] [] came = refl
  same_length [] (done ∷ dones) came = absurd came
  same_length (job ∷ jobs) [] came = absurd came
  same_length (job ∷ jobs) (done ∷ dones) came = ap suc (same_length jobs dones came.1)

  counted : (first : ℕ) (jobs : List (LinkJob S I O P)) (dones : List (LinkDone I O P H)) → AreNumbered first jobs → CameOf Gives jobs dones → AreCounted first (numbers_of (map (λ (done : LinkDone I O P H). done.end) dones))
  counted first [] [] numbered came = tt
  counted first [] (done ∷ dones) numbered came = absurd came
  counted first (job ∷ jobs) [] numbered came = absurd came
  counted first (job ∷ jobs) (done ∷ dones) numbered came = (came.0.end.number_is ∙ numbered.0, counted (first + 1) jobs dones numbered.1 came.1)

  authors : (jobs : List (LinkJob S I O P)) (dones : List (LinkDone I O P H)) → AllByRecursion (IsMadeFor of makes port) jobs → CameOf Gives jobs dones → authors_of (map (λ (done : LinkDone I O P H). done.end) dones) ≡ map (λ (p : PortView). p.author) (map port (map (port_in of) jobs))
  authors [] [] made came = refl
  authors [] (done ∷ dones) made came = absurd came
  authors (job ∷ jobs) [] made came = absurd came
  authors (job ∷ jobs) (done ∷ dones) made came =
      let first : done.end.author ≡ (port (port_in of job)).author = came.0.end.author_is ∙ made.0.author in
      let later = authors jobs dones made.1 came.1 in
      ap (λ n. n ∷ authors_of (map (λ (done : LinkDone I O P H). done.end) dones)) first ∙ ap (λ l. (port (port_in of job)).author ∷ l) later

  module _ (count : ℕ) (how : Ending) (ends : List (LinkEnd I O H)) (old : PortView) (door_old : DoorView I O) (new : PortView) (door_new : DoorView I O) (is : ServesLinks reads writes of makes port Gives count how ends old door_old new door_new) where
    pub ends_counted : AreCounted 1 (numbers_of ends)
    ends_counted = subst (λ l. AreCounted 1 (numbers_of l)) (sym is.ends_are) (counted 1 is.jobs is.dones is.begins.accepts.numbered is.came)

    pub ends_ended : IsEnded count how (length ends) door_old door_new
    ends_ended = subst (λ n. IsEnded count how n door_old door_new) (sym (ap length is.ends_are ∙ same_length is.jobs is.dones is.came)) is.begins.end

    all_rise : RiseAbove old.known (map (λ (p : PortView). p.author) (map port (map (port_in of) is.jobs)) ++ map (λ (p : PortView). p.author) (map port is.left))
    all_rise = subst (λ l. RiseAbove old.known l)
        (ap (λ l. map (λ (p : PortView). p.author) (map port l)) is.begins.accepts.ports_are
        ∙ ap (λ l. map (λ (p : PortView). p.author) l) (map-append port (map (port_in of) is.jobs) is.left)
        ∙ map-append (λ (p : PortView). p.author) (map port (map (port_in of) is.jobs)) (map port is.left))
        (twins_rise old is.begins.last (map port is.begins.ports) is.begins.twins)

    pub ends_rise : RiseAbove old.known (authors_of ends)
    ends_rise = subst (λ l. RiseAbove old.known l)
        (sym (ap (λ l. authors_of l) is.ends_are ∙ authors is.jobs is.dones is.begins.accepts.made is.came))
        (rises_front old.known (map (λ (p : PortView). p.author) (map port (map (port_in of) is.jobs))) (map (λ (p : PortView). p.author) (map port is.left)) all_rise)

    pub spent_known : how ≡ ending.Spent → most_authors ≤ new.known
    spent_known spent =
        let begun : is.begun.known ≡ most_authors = ap (λ (p : PortView). p.known) is.begins.new_is ∙ ap (λ (e : Ending). (behind_twins e is.begins.last).known) spent in
        let on = knows_on is.begun new (map (λ (done : LinkDone I O P H). port done.port) is.dones ++ map port is.left) is.met in
        subst (λ n. n ≤ new.known) begun on

-- Connections that were served over a book, from the jobs that they came of.
use Rattle.std.proofs.Common.{◌≡◌, ℕ, suc, ◌+◌, List, [], ◌∷◌, ◌++◌, length, map, Result, Ok, Err, inl, inr, Option, Some, None, refl, sym, ap, ◌∙◌, subst, append-nil}
use Rattle.std.specs.List.{AllByRecursion}
use Rattle.environment.specs.Input.{Input}
use Rattle.environment.specs.Output.{Output}
use Rattle.listening.specs.Doors.{DoorView, IsFresh}
use Rattle.book_port.specs.Ports.{PortView}
use Rattle.session_core.specs.declared.how.How.{How}
use Rattle.session_core.specs.declared.how.How.TheVariants.{NoMemory}
use Rattle.connection_server.specs.declared.accepting.Ending.{Ending}
use Rattle.connection_server.specs.declared.accepting.Ending.TheVariants as ending
use Rattle.connection_server.specs.declared.job.LinkDone.{LinkDone}
use Rattle.connection_server.specs.declared.job.LinkJob.{LinkJob}
use Rattle.connection_server.specs.declared.link.Link.{Link}
use Rattle.connection_server.specs.declared.link.LinkEnd.{LinkEnd}
use Rattle.connection_server.specs.declared.link.LinkLeft.{LinkLeft}
use Rattle.connection_server.specs.Accepting.{AreNumbered, IsEnded, IsMadeFor, LeavesBehindAll, halves, port_in}
use Rattle.connection_server.specs.Jobs.{IsDone, IsEndOf, IsServed as IsServedBy, link_in, link_of}
use Rattle.connection_server.specs.Joining.{AreCounted, CameOf}
use Rattle.connection_server.specs.Serving.{ServesLinks}
use Rattle.connection_server.specs.Twins.{AreTwins, MeetEach}
use Rattle.gnmi_server.specs.Serving.{Served, IsServedOrClosed, ServesBook, AreEndsOf, halves_of}
use Rattle.gnmi_server.specs.Sessions.{ServesLink}

abbrev pub itself : PortView → PortView
itself port = port

map_itself : (ports : List PortView) → map itself ports ≡ ports
map_itself [] = refl
map_itself (port ∷ ports) = ap (λ l. port ∷ l) (map_itself ports)

module _ {S I O : Type 0} (reads : I → Input) (writes : O → Output) (of : S → Link I O PortView) (makes : S → Type 0) (serves : S → LinkLeft I O PortView How → Type 0) (means : (session : S) (left : LinkLeft I O PortView How) → serves session left → ServesLink reads writes (of session) left) where
  abbrev Gives : LinkJob S I O PortView → LinkDone I O PortView How → Type 0
  Gives = IsDone of itself serves NoMemory

  -- what each job was handed, and what it left
  abbrev runs : (jobs : List (LinkJob S I O PortView)) (dones : List (LinkDone I O PortView How)) → CameOf Gives jobs dones → List (Served I O)
  runs [] [] came = []
  runs [] (done ∷ dones) came = []
  runs (job ∷ jobs) [] came = []
  runs (job ∷ jobs) (done ∷ dones) came = record { link = link_of of job; left = came.0.left } ∷ runs jobs dones came.1

  lengths : (jobs : List (LinkJob S I O PortView)) (dones : List (LinkDone I O PortView How)) (came : CameOf Gives jobs dones) → length (runs jobs dones came) ≡ length jobs
  lengths [] [] came = refl
  lengths [] (done ∷ dones) came = absurd came
  lengths (job ∷ jobs) [] came = absurd came
  lengths (job ∷ jobs) (done ∷ dones) came = ap suc (lengths jobs dones came.1)

  both_halves : (jobs : List (LinkJob S I O PortView)) (dones : List (LinkDone I O PortView How)) (came : CameOf Gives jobs dones) → map halves_of (runs jobs dones came) ≡ map (halves of) jobs
  both_halves [] [] came = refl
  both_halves [] (done ∷ dones) came = absurd came
  both_halves (job ∷ jobs) [] came = absurd came
  both_halves (job ∷ jobs) (done ∷ dones) came = ap (λ l. halves of job ∷ l) (both_halves jobs dones came.1)

  own_ports : (jobs : List (LinkJob S I O PortView)) (dones : List (LinkDone I O PortView How)) (came : CameOf Gives jobs dones) → map (λ (one : Served I O). one.link.port) (runs jobs dones came) ≡ map (port_in of) jobs
  own_ports [] [] came = refl
  own_ports [] (done ∷ dones) came = absurd came
  own_ports (job ∷ jobs) [] came = absurd came
  own_ports (job ∷ jobs) (done ∷ dones) came = ap (λ l. port_in of job ∷ l) (own_ports jobs dones came.1)

  left_ports : (jobs : List (LinkJob S I O PortView)) (dones : List (LinkDone I O PortView How)) (came : CameOf Gives jobs dones) → map (λ (one : Served I O). one.left.port) (runs jobs dones came) ≡ map (λ (done : LinkDone I O PortView How). itself done.port) dones
  left_ports [] [] came = refl
  left_ports [] (done ∷ dones) came = absurd came
  left_ports (job ∷ jobs) [] came = absurd came
  left_ports (job ∷ jobs) (done ∷ dones) came =
      ap (λ p. p ∷ map (λ (one : Served I O). one.left.port) (runs jobs dones came.1)) (sym came.0.port_is)
      ∙ ap (λ l. done.port ∷ l) (left_ports jobs dones came.1)

  numbers : (first : ℕ) (jobs : List (LinkJob S I O PortView)) (dones : List (LinkDone I O PortView How)) (came : CameOf Gives jobs dones) → AreNumbered first jobs → AllByRecursion (IsMadeFor of makes itself) jobs → AreCounted first (map (λ (one : Served I O). one.link.number) (runs jobs dones came))
  numbers first [] [] came numbered made = tt
  numbers first [] (done ∷ dones) came numbered made = absurd came
  numbers first (job ∷ jobs) [] came numbered made = absurd came
  numbers first (job ∷ jobs) (done ∷ dones) came numbered made = (made.0.number ∙ numbered.0, numbers (first + 1) jobs dones came.1 numbered.1 made.1)

  served_so : (session : Result S (Link I O PortView)) (left : LinkLeft I O PortView How) → IsServedBy serves NoMemory session left → IsServedOrClosed reads writes (record { link = link_in of session; left = left })
  served_so (Ok session) left is = inl (means session left is)
  served_so (Err link) left is = inr is

  all_served : (jobs : List (LinkJob S I O PortView)) (dones : List (LinkDone I O PortView How)) (came : CameOf Gives jobs dones) → AllByRecursion (IsServedOrClosed reads writes) (runs jobs dones came)
  all_served [] [] came = tt
  all_served [] (done ∷ dones) came = absurd came
  all_served (job ∷ jobs) [] came = absurd came
  all_served (job ∷ jobs) (done ∷ dones) came = (served_so job.session came.0.left came.0.served, all_served jobs dones came.1)

  end_of_one : (number other author another : ℕ) (left : LinkLeft I O PortView How) (end : LinkEnd I O How) → number ≡ other → author ≡ another → IsEndOf other another left end → IsEndOf number author left end
  end_of_one number other author another left end same_number same_author is = record {
    number_is = is.number_is ∙ sym same_number;
    author_is = is.author_is ∙ sym same_author;
    how_is = is.how_is;
    input_is = is.input_is;
    output_is = is.output_is;
  }

  all_ends : (jobs : List (LinkJob S I O PortView)) (dones : List (LinkDone I O PortView How)) (came : CameOf Gives jobs dones) → AllByRecursion (IsMadeFor of makes itself) jobs → AreEndsOf (runs jobs dones came) (map (λ (done : LinkDone I O PortView How). done.end) dones)
  all_ends [] [] came made = tt
  all_ends [] (done ∷ dones) came made = absurd came
  all_ends (job ∷ jobs) [] came made = absurd came
  all_ends (job ∷ jobs) (done ∷ dones) came made = (
    end_of_one (link_of of job).number job.number (link_of of job).port.author job.author came.0.left done.end made.0.number (sym made.0.author) came.0.end,
    all_ends jobs dones came.1 made.1,
  )

  pub serves_book : (count : ℕ) (how : Ending) (ends : List (LinkEnd I O How)) (old : PortView) (door_old : DoorView I O) (new : PortView) (door_new : DoorView I O) → ServesLinks reads writes of makes itself Gives count how ends old door_old new door_new → ServesBook reads writes count how ends old door_old new door_new
  serves_book count how ends old door_old new door_new is =
      let accepts = is.begins.accepts in
      let served : List (Served I O) = runs is.jobs is.dones is.came in
      let same_halves : map (halves of) is.jobs ≡ map halves_of served = sym (both_halves is.jobs is.dones is.came) in
      record {
        served = served;
        unused = is.left;
        last = is.begins.last;
        twins = subst (λ l. AreTwins old l is.begins.last)
            (map_itself is.begins.ports ∙ accepts.ports_are ∙ ap (λ l. l ++ is.left) (sym (own_ports is.jobs is.dones is.came))) is.begins.twins;
        given = accepts.given ∙ ap (λ l. door_old.given ++ l) same_halves;
        told = subst (λ l. LeavesBehindAll l door_old.left door_new.left) same_halves accepts.told;
        fresh = subst (λ l. AllByRecursion (IsFresh reads writes) l) same_halves accepts.fresh;
        ended = subst (λ n. IsEnded count how n door_old door_new) (sym (lengths is.jobs is.dones is.came)) is.begins.end;
        numbered = numbers 1 is.jobs is.dones is.came accepts.numbered accepts.made;
        each = all_served is.jobs is.dones is.came;
        ends_are = subst (λ l. AreEndsOf served l) (sym is.ends_are) (all_ends is.jobs is.dones is.came accepts.made);
        met = subst (λ (p : PortView). MeetEach p (map (λ (one : Served I O). one.left.port) served ++ is.left) new) is.begins.new_is
            (subst (λ l. MeetEach is.begun l new)
            (ap (λ l. map (λ (done : LinkDone I O PortView How). itself done.port) is.dones ++ l) (map_itself is.left) ∙ ap (λ l. l ++ is.left) (sym (left_ports is.jobs is.dones is.came)))
            is.met);
      }

told_none : {L : Type 0} (left : Option (List L)) → LeavesBehindAll [] left left
told_none None = refl
told_none (Some left) = (left, refl, refl)

-- where nothing was done, for want of memory
pub serves_none : {I O : Type 0} (reads : I → Input) (writes : O → Output) (count : ℕ) (ends : List (LinkEnd I O How)) (old : PortView) (door : DoorView I O) → ends ≡ [] → ServesBook reads writes count ending.NoMemory ends old door old door
serves_none {I} {O} reads writes count ends old door none = record {
  served = [];
  unused = [];
  last = old;
  twins = refl;
  given = sym (append-nil door.given);
  told = told_none door.left;
  fresh = tt;
  ended = (refl, refl);
  numbered = tt;
  each = tt;
  ends_are = subst (λ l. AreEndsOf [] l) (sym none) tt;
  met = refl;
}

-- One more connection is accepted.
use Rattle.std.proofs.Common.{◌≡◌, ℕ, ◌+◌, List, [], ◌∷◌, ◌++◌, map, length, Option, Some, None, refl, sym, ap, ◌∙◌, subst, arith, append_assoc, append-nil, add-zero}
use Rattle.std.proofs.lemmas.List.{map-append}
use Rattle.std.specs.List.{AllByRecursion}
use Rattle.environment.specs.Input.{Input}
use Rattle.environment.specs.Output.{Output}
use Rattle.listening.specs.Doors.{DoorView, IsFresh, LeavesBehind}
use Rattle.book_port.specs.Ports.{PortView}
use Rattle.connection_server.specs.declared.job.LinkJob.{LinkJob}
use Rattle.connection_server.specs.declared.link.Link.{Link}
use Rattle.connection_server.specs.Accepting.{halves, port_in, AreNumbered, IsMadeFor, LeavesBehindAll, Accepts}

all_snoc : {A : Type 0} (P : A → Type 0) (xs : List A) (x : A) → AllByRecursion P xs → P x → AllByRecursion P (xs ++ x ∷ [])
all_snoc P [] x all one = (one, tt)
all_snoc P (y ∷ xs) x all one = (all.0, all_snoc P xs x all.1 one)

told_more : {L : Type 0} (links : List L) (link : L) (old mid new : Option (List L)) → LeavesBehindAll links old mid → LeavesBehind link mid new → LeavesBehindAll (links ++ link ∷ []) old new
told_more links link None mid new first then = subst (λ m. LeavesBehind link m new) first then
told_more links link (Some left) mid new first then =
    let next = subst (λ m. LeavesBehind link m new) first.2 then in
    (next.0, first.1 ∙ ap (λ l. links ++ l) next.1 ∙ sym (append_assoc links (link ∷ []) next.0), next.2)

numbered_more : {S I O P : Type 0} (first : ℕ) (jobs : List (LinkJob S I O P)) (job : LinkJob S I O P) → AreNumbered first jobs → job.number ≡ first + length jobs → AreNumbered first (jobs ++ job ∷ [])
numbered_more first [] job is number = (number ∙ add-zero first, tt)
numbered_more first (other ∷ jobs) job is number = (is.0, numbered_more (first + 1) jobs job is.1 (omega (arith, number)))

-- what a door gives that gives a connection
pub record Gave {I O : Type 0} (reads : I → Input) (writes : O → Output) (link : I × O) (old new : DoorView I O) : Type 0 where
  pub fresh : IsFresh reads writes link
  pub given : new.given ≡ old.given ++ link ∷ []
  pub left : LeavesBehind link old.left new.left

module _ {S I O P : Type 0} (reads : I → Input) (writes : O → Output) (of : S → Link I O P) (makes : S → Type 0) (port : P → PortView) (ports : List P) (old : DoorView I O) where
  pub accepts_none : Accepts reads writes of makes port ports old [] ports old
  accepts_none = record {
    given = sym (append-nil old.given);
    told = told_none old.left;
    fresh = tt;
    numbered = tt;
    made = tt;
    ports_are = refl;
  } where
    told_none : (left : Option (List (I × O))) → LeavesBehindAll [] left left
    told_none None = refl
    told_none (Some left) = (left, refl, refl)

  pub accepts_one : (mid new : DoorView I O) (jobs : List (LinkJob S I O P)) (job : LinkJob S I O P) (left after : List P) → Accepts reads writes of makes port ports old jobs left mid → Gave reads writes (halves of job) mid new → left ≡ port_in of job ∷ after → job.number ≡ length jobs + 1 → IsMadeFor of makes port job → Accepts reads writes of makes port ports old (jobs ++ job ∷ []) after new
  accepts_one mid new jobs job left after is gave popped number made =
      let both : map (halves of) (jobs ++ job ∷ []) ≡ map (halves of) jobs ++ halves of job ∷ [] = map-append (halves of) jobs (job ∷ []) in
      let ports_both : map (port_in of) (jobs ++ job ∷ []) ≡ map (port_in of) jobs ++ port_in of job ∷ [] = map-append (port_in of) jobs (job ∷ []) in
      record {
        given = gave.given ∙ ap (λ l. l ++ halves of job ∷ []) is.given ∙ append_assoc old.given (map (halves of) jobs) (halves of job ∷ []) ∙ ap (λ l. old.given ++ l) (sym both);
        told = subst (λ l. LeavesBehindAll l old.left new.left) (sym both) (told_more (map (halves of) jobs) (halves of job) old.left mid.left new.left is.told gave.left);
        fresh = subst (λ l. AllByRecursion (IsFresh reads writes) l) (sym both) (all_snoc (IsFresh reads writes) (map (halves of) jobs) (halves of job) is.fresh gave.fresh);
        numbered = numbered_more 1 jobs job is.numbered (omega (arith, number));
        made = all_snoc (IsMadeFor of makes port) jobs job is.made made;
        ports_are = is.ports_are ∙ ap (λ l. map (port_in of) jobs ++ l) popped ∙ sym (append_assoc (map (port_in of) jobs) (port_in of job ∷ []) after) ∙ ap (λ l. l ++ after) (sym ports_both);
      }

  -- a door that was opened gives and leaves what it would have before
  pub accepts_from : (mid new : DoorView I O) (jobs : List (LinkJob S I O P)) (left : List P) → mid ≡ record old { faults = mid.faults } → Accepts reads writes of makes port ports mid jobs left new → Accepts reads writes of makes port ports old jobs left new
  accepts_from mid new jobs left same is = record {
    given = is.given ∙ ap (λ (door : DoorView I O). door.given ++ map (halves of) jobs) same;
    told = subst (λ l. LeavesBehindAll (map (halves of) jobs) l new.left) (ap (λ (door : DoorView I O). door.left) same) is.told;
    fresh = is.fresh;
    numbered = is.numbered;
    made = is.made;
    ports_are = is.ports_are;
  }

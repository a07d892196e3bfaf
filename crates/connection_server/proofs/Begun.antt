-- Ports that were made can be met, whatever came of them.
use Rattle.std.proofs.Common.{◌≡◌, ℕ, ◌≤◌, List, [], ◌∷◌, ◌++◌, map, sym, ap, ◌∙◌, subst, arith}
use Rattle.std.specs.List.{AllByRecursion}
use Rattle.environment.specs.Input.{Input}
use Rattle.environment.specs.Output.{Output}
use Rattle.listening.specs.Doors.{DoorView}
use Rattle.book_port.specs.Ports.{PortView, IsTwin, CanMeet}
use Rattle.connection_server.specs.declared.accepting.Ending.{Ending}
use Rattle.connection_server.specs.declared.accepting.Ending.TheVariants as ending
use Rattle.connection_server.specs.declared.job.LinkJob.{LinkJob}
use Rattle.connection_server.specs.declared.link.Link.{Link}
use Rattle.connection_server.specs.Accepting.{port_in, IsEnded, IsDoorEnding}
use Rattle.connection_server.specs.Serving.{behind_twins, Begins}
use Rattle.connection_server.specs.Twins.{AreTwins, MeetEach}
use Rattle.connection_server.proofs.Chains.{all_still_meet}

twin_can_meet : (old new twin : PortView) → IsTwin old new twin → CanMeet new twin
twin_can_meet old new twin is = record {
  book = ap (λ (p : PortView). p.book) is.twin_is ∙ sym (ap (λ (p : PortView). p.book) is.new_is);
  shared = ap (λ (p : PortView). p.is_alone) is.new_is;
  other_shared = ap (λ (p : PortView). p.is_alone) is.twin_is;
}

later_can_meet : (old new twin other : PortView) → IsTwin old new twin → CanMeet old other → CanMeet new other
later_can_meet old new twin other is can = record {
  book = can.book ∙ sym (ap (λ (p : PortView). p.book) is.new_is);
  shared = ap (λ (p : PortView). p.is_alone) is.new_is;
  other_shared = can.other_shared;
}

still_can : (old last other : PortView) (twins : List PortView) → AreTwins old twins last → CanMeet old other → CanMeet last other
still_can old last other [] is can = subst (λ p. CanMeet p other) (sym is) can
still_can old last other (twin ∷ twins) is can = still_can is.0 last other twins is.2 (later_can_meet old is.0 twin other is.1 can)

twins_can : (old last : PortView) (twins : List PortView) → AreTwins old twins last → AllByRecursion (CanMeet last) twins
twins_can old last [] is = tt
twins_can old last (twin ∷ twins) is = (still_can is.0 last twin twins is.2 (twin_can_meet old is.0 twin is.1), twins_can is.0 last twins is.2)

can_meet_behind : (how : Ending) (port other : PortView) → CanMeet port other → CanMeet (behind_twins how port) other
can_meet_behind ending.Spent port other can = record { book = can.book; shared = can.shared; other_shared = can.other_shared }
can_meet_behind ending.All port other can = can
can_meet_behind ending.DoorEnd port other can = can
can_meet_behind ending.DoorFault port other can = can
can_meet_behind ending.NoMemory port other can = can

unmapped : {A B : Type 0} (f : A → B) (P : B → Type 0) (Q : A → Type 0) → ((x : A) → P (f x) → Q x) → (xs : List A) → AllByRecursion P (map f xs) → AllByRecursion Q xs
unmapped f P Q so [] all = tt
unmapped f P Q so (x ∷ xs) all = (so x all.0, unmapped f P Q so xs all.1)

first_of : {A : Type 0} (P : A → Type 0) (xs ys : List A) → AllByRecursion P (xs ++ ys) → AllByRecursion P xs
first_of P [] ys all = tt
first_of P (x ∷ xs) ys all = (all.0, first_of P xs ys all.1)

rest_of : {A : Type 0} (P : A → Type 0) (xs ys : List A) → AllByRecursion P (xs ++ ys) → AllByRecursion P ys
rest_of P [] ys all = all
rest_of P (x ∷ xs) ys all = rest_of P xs ys all.1

module _ {S I O P : Type 0} (reads : I → Input) (writes : O → Output) (of : S → Link I O P) (makes : S → Type 0) (port : P → PortView) (count : ℕ) (how : Ending) (old : PortView) (door_old : DoorView I O) (jobs : List (LinkJob S I O P)) (left : List P) (new : PortView) (door_new : DoorView I O) (is : Begins reads writes of makes port count how old door_old jobs left new door_new) where
  all_can : AllByRecursion (λ p. CanMeet new (port p)) (map (port_in of) jobs ++ left)
  all_can = subst (λ l. AllByRecursion (λ p. CanMeet new (port p)) l) is.accepts.ports_are
      (unmapped port (CanMeet is.last) (λ p. CanMeet new (port p)) (λ p can. subst (λ v. CanMeet v (port p)) (sym is.new_is) (can_meet_behind how is.last (port p) can)) is.ports (twins_can old is.last (map port is.ports) is.twins))

  pub jobs_can : AllByRecursion (λ job. CanMeet new (port (port_in of job))) jobs
  jobs_can = unmapped (port_in of) (λ p. CanMeet new (port p)) (λ job. CanMeet new (port (port_in of job))) (λ job can. can) jobs (first_of (λ p. CanMeet new (port p)) (map (port_in of) jobs) left all_can)

  pub left_can : AllByRecursion (λ p. CanMeet new (port p)) left
  left_can = rest_of (λ p. CanMeet new (port p)) (map (port_in of) jobs) left all_can

-- who can meet a port can meet it when it has met others
pub met_can : {A : Type 0} (port : A → PortView) (old new : PortView) (met : List PortView) (others : List A) → MeetEach old met new → AllByRecursion (λ other. CanMeet old (port other)) others → AllByRecursion (λ other. CanMeet new (port other)) others
met_can port old new [] others is all = subst (λ p. AllByRecursion (λ other. CanMeet p (port other)) others) (sym is) all
met_can port old new (one ∷ met) others is all = met_can port is.0 new met others is.2 (all_still_meet port old one is.0 others is.1 all)

-- no more were accepted than were asked for
pub ended_within : {I O : Type 0} (count : ℕ) (how : Ending) (number : ℕ) (old new : DoorView I O) → IsEnded count how number old new → number ≤ count
ended_within count ending.All number old new is = let e = is.0 in omega (arith, e)
ended_within count ending.DoorEnd number old new is = let e = is.0 in omega (arith, e)
ended_within count ending.DoorFault number old new is = is.0
ended_within count ending.Spent number old new is = let e = is.0 in omega (arith, e)
ended_within count ending.NoMemory number old new is = let e = is.0 in omega (arith, e)

-- where the door was asked, the port is as the last twin left it
pub door_behind : (how : Ending) (last new : PortView) → IsDoorEnding how → new ≡ last → new ≡ behind_twins how last
door_behind ending.All last new door is = is
door_behind ending.DoorEnd last new door is = is
door_behind ending.DoorFault last new door is = is
door_behind ending.Spent last new door is = absurd door
door_behind ending.NoMemory last new door is = absurd door

-- The jobs of feeders, and how far they have been ended.
use Rattle.std.proofs.Common.{◌≡◌, ℕ, ◌<◌, List, [], ◌∷◌, ◌++◌, Bool, false, map, length, refl, sym, ap, ◌∙◌, subst, arith}
use Rattle.std.proofs.lemmas.List.{map-append}
use Rattle.base_kinds.specs.Schema.{SchemaNode}
use Rattle.book_port.specs.Ports.{PortView, CanMeet, IsTwin, Meets}
use Rattle.shared_wire.specs.Visits.{VisitView, IsTwin as IsWireTwin, Meets as MeetsVisit}
use Rattle.stream_worker.specs.declared.job.FeedJob.{FeedJob}
use Rattle.sub_plan.specs.declared.plan.Plan.{Plan}
use Rattle.stream_workers.specs.Ports.{StayTheirs}
use Rattle.stream_workers.specs.Feeders.{AllEnd, AreOf, AreUnder, FeedersView, IsOf, IsStarted, Started, started_of}
use Rattle.stream_workers.proofs.Ends.{none_end, stay_of, started_of_more}
use Rattle.stream_workers.proofs.Ports.{can_meet_twin, twins_met, visit_twin_lock}

pub all_stay : (book new_book : PortView) (wire new_wire : VisitView) (old new : FeedersView) → StayTheirs book new_book wire new_wire → new ≡ old → AreOf book.book wire.lock old.started → AreOf new_book.book new_wire.lock new.started
all_stay book new_book wire new_wire old new stay same are =
    subst (λ (f : FeedersView). AreOf new_book.book new_wire.lock f.started) (sym same) (stay_of book new_book wire new_wire old.started stay are)

none_left : {T : Type 0} (items : List T) → length items ≡ 0 → items ≡ []
none_left [] none = refl
none_left (one ∷ items) none = absurd (omega (arith, none))

pub one_less : {T : Type 0} (items left : List T) (one : T) → items ≡ one ∷ left → length left < length items
one_less items left one is = let long = ap length is in omega (arith, long)

abbrev pub Job : Type 0 → Type 0 → Type 0 → Type 0 → Type 0
Job P C Q R = FeedJob P VisitView C Q R

module _ {P C Q R : Type 0} (port : P → PortView) where
  -- ---- one that is started

  pub under_more : (schema : List SchemaNode) (jobs : List (Job P C Q R)) (job : Job P C Q R) → AreUnder schema jobs → job.schema ≡ schema → AreUnder schema (jobs ++ job ∷ [])
  under_more schema [] job are is = (is, tt)
  under_more schema (first ∷ jobs) job are is = (are.0, under_more schema jobs job are.1 is)

  -- the list in which it stands
  pub all_under : (schema : List SchemaNode) (jobs mid new : List (Job P C Q R)) (job running : Job P C Q R) → AreUnder schema jobs → mid ≡ jobs → new ≡ mid ++ running ∷ [] → running ≡ job → job.schema ≡ schema → AreUnder schema new
  all_under schema jobs mid new job running are mid_is new_is is under =
      subst (AreUnder schema) (sym new_is) (under_more schema mid running (subst (AreUnder schema) (sym mid_is) are) (ap (λ (j : Job P C Q R). j.schema) is ∙ under))

  abbrev pub viewed : List SchemaNode → List (Job P C Q R) → FeedersView
  viewed schema jobs = record { schema = schema; started = map (started_of port) jobs }

  pub same_view : (schema : List SchemaNode) (jobs mid : List (Job P C Q R)) (now : FeedersView) → mid ≡ jobs → viewed schema jobs ≡ now → viewed schema mid ≡ now
  same_view schema jobs mid now is view_is = ap (viewed schema) is ∙ view_is

  pub is_started : (schema : List SchemaNode) (jobs mid new : List (Job P C Q R)) (job running : Job P C Q R) (now : FeedersView) (book new_book : PortView) (wire new_wire : VisitView) → mid ≡ jobs → new ≡ mid ++ running ∷ [] → running ≡ job
      → viewed schema jobs ≡ now → IsTwin book new_book (port job.book) → IsWireTwin wire new_wire job.wire
      → IsStarted job.stream job.plan now (viewed schema new) book new_book wire new_wire
  is_started schema jobs mid new job running now book new_book wire new_wire mid_is new_is is view_is book_twin wire_twin = record {
    book = port job.book;
    book_twin = book_twin;
    wire = job.wire;
    wire_twin = wire_twin;
    new_is =
        ap (viewed schema) (new_is ∙ ap (λ (js : List (Job P C Q R)). js ++ running ∷ []) mid_is ∙ ap (λ (j : Job P C Q R). jobs ++ j ∷ []) is)
        ∙ ap (λ (ss : List Started). record { schema = schema; started = ss }) (map-append (started_of port) jobs (job ∷ []))
        ∙ ap (λ (f : FeedersView). record f { started = f.started ++ started_of port job ∷ [] }) view_is;
  }

  -- ---- one that comes back

  pub back_can_meet : (job back : Job P C Q R) (book new_book : PortView) → back ≡ job → IsTwin book new_book (port job.book) → CanMeet new_book (port back.book)
  back_can_meet job back book new_book is twin =
      subst (λ (j : Job P C Q R). CanMeet new_book (port j.book)) (sym is) (can_meet_twin book new_book (port job.book) twin)

  pub back_has_lock : (job back : Job P C Q R) (wire new_wire : VisitView) → back ≡ job → IsWireTwin wire new_wire job.wire → back.wire.lock ≡ new_wire.lock
  back_has_lock job back wire new_wire is twin = ap (λ (j : Job P C Q R). j.wire.lock) is ∙ visit_twin_lock wire new_wire job.wire twin

  pub back_met : (job back : Job P C Q R) (book mid new : PortView) (wire mid_wire new_wire : VisitView) → back ≡ job → IsTwin book mid (port job.book) → Meets mid (port back.book) new → IsWireTwin wire mid_wire job.wire → MeetsVisit mid_wire back.wire new_wire
      → StayTheirs book new wire new_wire
  back_met job back book mid new wire mid_wire new_wire is book_twin meets wire_twin visit_meets =
      twins_met book mid new (port job.book) wire mid_wire new_wire job.wire book_twin
      (subst (λ (j : Job P C Q R). Meets mid (port j.book) new) is meets) wire_twin (subst (λ (j : Job P C Q R). MeetsVisit mid_wire j.wire new_wire) is visit_meets)

  -- ---- the end

  -- Of all of these so many are left: once they have ended all have.
  pub record GoesToEnd (all left : List (Job P C Q R)) (first_book book : PortView) (first_wire wire : VisitView) : Type 0 where
    pub shared : book.is_alone ≡ false
    pub its : AreOf book.book wire.lock (map (started_of port) left)
    pub under : (schema : List SchemaNode) → AreUnder schema all → AreUnder schema left
    pub ends : (schema : List SchemaNode) (last_book : PortView) (last_wire : VisitView) → AreUnder schema all
        → AllEnd schema (map (started_of port) left) book wire last_book last_wire
        → AllEnd schema (map (started_of port) all) first_book first_wire last_book last_wire

  pub begin : (all : List (Job P C Q R)) (book : PortView) (wire : VisitView) → book.is_alone ≡ false → AreOf book.book wire.lock (map (started_of port) all) → GoesToEnd all all book book wire wire
  begin all book wire shared its = record {
    shared = shared;
    its = its;
    under = λ schema are. are;
    ends = λ schema last_book last_wire are ended. ended;
  }

  pub next_is_of : (all before left : List (Job P C Q R)) (next : Job P C Q R) (first_book book : PortView) (first_wire wire : VisitView) → before ≡ next ∷ left → GoesToEnd all before first_book book first_wire wire → IsOf book.book wire.lock (started_of port next)
  next_is_of all before left next first_book book first_wire wire is goes =
      (subst (λ (js : List (Job P C Q R)). AreOf book.book wire.lock (map (started_of port) js)) is goes.its).0

  pub one_ended : (all before left : List (Job P C Q R)) (next : Job P C Q R) (first_book book new_book : PortView) (first_wire wire new_wire : VisitView) → before ≡ next ∷ left → GoesToEnd all before first_book book first_wire wire
      → new_book.book ≡ book.book → new_book.is_alone ≡ false → new_wire.lock ≡ wire.lock
      → ((schema : List SchemaNode) (others : List Started) (last_book : PortView) (last_wire : VisitView) → next.schema ≡ schema → AllEnd schema others new_book new_wire last_book last_wire → AllEnd schema (started_of port next ∷ others) book wire last_book last_wire)
      → GoesToEnd all left first_book new_book first_wire new_wire
  one_ended all before left next first_book book new_book first_wire wire new_wire is goes name shared lock ends = record {
    shared = shared;
    its = subst (λ (n : List ℕ). AreOf n new_wire.lock (map (started_of port) left)) (sym name)
        (subst (λ (n : List ℕ). AreOf book.book n (map (started_of port) left)) (sym lock)
        (subst (λ (js : List (Job P C Q R)). AreOf book.book wire.lock (map (started_of port) js)) is goes.its).1);
    under = λ schema are. (both schema are).1;
    ends = λ schema last_book last_wire are ended. goes.ends schema last_book last_wire are
        (subst (λ (js : List (Job P C Q R)). AllEnd schema (map (started_of port) js) book wire last_book last_wire) (sym is)
        (ends schema (map (started_of port) left) last_book last_wire (both schema are).0 ended));
  }
    where
      both : (schema : List SchemaNode) → AreUnder schema all → AreUnder schema (next ∷ left)
      both schema are = subst (AreUnder schema) is (goes.under schema are)

  pub all_ended : (all left : List (Job P C Q R)) (first_book book : PortView) (first_wire wire : VisitView) → length left ≡ 0 → GoesToEnd all left first_book book first_wire wire
      → (schema : List SchemaNode) → AreUnder schema all → AllEnd schema (map (started_of port) all) first_book first_wire book wire
  all_ended all left first_book book first_wire wire none goes schema are =
      goes.ends schema book wire are
      (subst (λ (js : List (Job P C Q R)). AllEnd schema (map (started_of port) js) book wire book wire) (sym (none_left left none)) (none_end schema book wire))

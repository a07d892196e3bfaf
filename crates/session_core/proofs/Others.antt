-- What feeders say meanwhile: what was served so far is served as before, and what is at rest rests.
use Rattle.std.proofs.Common.{◌≡◌, ◌⊎◌, inl, inr, ℕ, ◌==◌, List, [], ◌∷◌, ◌++◌, Bool, true, false, not, ◌&&◌, refl, sym, ap, ◌∙◌, subst, cond, append-nil, append_assoc}
use Rattle.std.proofs.lemmas.Bool.{eqb-true, false≢true}
use Rattle.std.specs.List.{AllByRecursion}
use Rattle.h2_events.specs.declared.port.Ready.TheVariants.{Free, Busy}
use Rattle.h2_events.specs.declared.said.Said.{Said}
use Rattle.h2_events.specs.declared.said.Said.TheVariants.{Message, Finish, Status}
use Rattle.h2_events.specs.Items.{is_last, said_on}
use Rattle.h2_send.specs.Accepting.{AreAccepted, IsAccepted, IsOpenedOnce}
use Rattle.h2_send.specs.Inputs.{Input, Speech}
use Rattle.h2_send.specs.Inputs as inputs
use Rattle.h2_send.specs.Lines.{Line, first_line}
use Rattle.h2_send.specs.Offers.{ready_on}
use Rattle.h2_send.specs.Orders.{line_after, order_of}
use Rattle.h2_send.proofs.Closing.{line_after_one}
use Rattle.grpc_requests.specs.declared.request.Request.{Request}
use Rattle.stream_workers.specs.Feeders.{is_fed}
use Rattle.session_core.specs.declared.served.Served.{Served}
use Rattle.session_core.specs.declared.waiting.Waiting.{Waiting}
use Rattle.session_core.specs.Deeds.{Deed, said_to}
use Rattle.session_core.specs.Feeding.{AreFromFeeders}
use Rattle.session_core.specs.Rounds.{HadTurns}
use Rattle.session_core.specs.Runs.{IsAtRest}
use Rattle.session_core.specs.Saying.{IsFront, IsOver, IsSaid, any_opens, waits_on}
use Rattle.session_core.specs.Serving.{Course, IsServed, Standing, Start, deeds_in}
use Rattle.session_core.proofs.Behind.{still_behind}
use Rattle.session_core.proofs.Orders.{can_say_more, heard_by_speech, read_by_feeder, said_by_speech}
use Rattle.session_core.proofs.Rounds.{frame_more, recent_more}

abbrev more : List Input → ℕ → Said → List Input
more given on said = given ++ Speech on said ∷ []

-- ---- orders

-- the other stream isn't this one
elsewhere : (b : Bool) (fed : List ℕ) (stream on : ℕ) → is_fed fed on ≡ true → is_fed fed stream ≡ false → (on == stream) ≡ b → b ≡ false
elsewhere true fed stream on theirs own same =
    absurd (false≢true (sym own ∙ ap (is_fed fed) (sym (eqb-true on stream same)) ∙ theirs))
elsewhere false fed stream on theirs own same = refl

same_said : (fed : List ℕ) (stream on : ℕ) (given : List Input) (said : Said) → is_fed fed on ≡ true → is_fed fed stream ≡ false → said_on stream (order_of (more given on said)) ≡ said_on stream (order_of given)
same_said fed stream on given said theirs own =
    said_by_speech stream on given said
    ∙ ap (λ (b : Bool). said_on stream (order_of given) ++ cond b (said ∷ []) []) (elsewhere (on == stream) fed stream on theirs own refl)
    ∙ append-nil (said_on stream (order_of given))

still_over : (stream on : ℕ) (given : List Input) (said : Said) → IsOver stream (order_of given) → IsOver stream (order_of (more given on said))
still_over stream on given said over = record {
  opened = ap (any_opens stream) (heard_by_speech given on said) ∙ over.opened;
  closed = can_say_more stream given (Speech on said) ∙ ap (λ (b : Bool). b && not (on == stream && is_last said)) over.closed;
}

still_said : (fed : List ℕ) (stream on : ℕ) (given : List Input) (said : Said) (waiting : List Waiting) (deeds : List Deed) → is_fed fed on ≡ true → is_fed fed stream ≡ false
    → IsSaid stream waiting (order_of given) deeds → IsSaid stream waiting (order_of (more given on said)) deeds
still_said fed stream on given said waiting deeds theirs own (inl all) =
    inl (ap (λ (ws : List Said). ws ++ waits_on stream waiting) (same_said fed stream on given said theirs own) ∙ all)
still_said fed stream on given said waiting deeds theirs own (inr (over, front)) =
    inr (still_over stream on given said over, subst (λ ws. IsFront ws (said_to stream deeds)) (sym (same_said fed stream on given said theirs own)) front)

-- ---- what was served

abbrev pub course_with : Course → List Input → Course
course_with course given = record course { inputs = given }

pub served_on : (fed : List ℕ) (start : Start) (course : Course) (on : ℕ) (said : Said) → is_fed fed on ≡ true → (s : IsServed fed start course) → (now : IsServed fed start (course_with course (more course.inputs on said))) × (deeds_in now ≡ deeds_in s)
served_on fed start course on said theirs s = (
  record {
    rounds = s.rounds;
    last = more s.last on said;
    given = ap (λ (is : List Input). more is on said) s.given ∙ append_assoc _ s.last (Speech on said ∷ []);
    frame = frame_more s.rounds s.last on said s.frame;
    whole = s.whole;
    recent = recent_more course.inputs course.standing.round on said s.recent;
    asked = s.asked;
    done = s.done;
    timely = s.timely;
    clock = s.clock;
    said = λ stream own. still_said fed stream on course.inputs said course.waiting _ theirs own (s.said stream own);
    opened = λ stream. subst (IsOpenedOnce stream) (sym (heard_by_speech course.inputs on said)) (s.opened stream);
    one_order = read_by_feeder fed course.inputs on said theirs ∙ s.one_order;
  },
  refl,
)

pub one_served : (fed : List ℕ) (start : Start) (course : Course) (on : ℕ) (said : Said) → is_fed fed on ≡ true → IsServed fed start course → IsServed fed start (course_with course (more course.inputs on said))
one_served fed start course on said theirs s = (served_on fed start course on said theirs s).0

-- ---- what rests

pub free_accepted : (on : ℕ) (said : Said) (line : Line) → IsAccepted (Speech on said) line → ready_on on line.streams ≡ Free
free_accepted on (Message octets) line is = is.0
free_accepted on (Finish refusal) line is = is
free_accepted on (Status status) line is = is.0

still_busy : (stream on : ℕ) (given : List Input) (said : Said) → ready_on on (line_after first_line given).streams ≡ Free → ready_on stream (line_after first_line given).streams ≡ Busy → ready_on stream (line_after first_line (more given on said)).streams ≡ Busy
still_busy stream on given said free busy =
    (still_behind on said given (record { stream = stream; said = said } ∷ []) free (busy, tt)).0

had_still : {A : Type 0} (stream on : ℕ) (given : List Input) (said : Said) → ready_on on (line_after first_line given).streams ≡ Free → A ⊎ (ready_on stream (line_after first_line given).streams ≡ Busy)
    → A ⊎ (ready_on stream (line_after first_line (more given on said)).streams ≡ Busy)
had_still stream on given said free (inl had) = inl had
had_still stream on given said free (inr busy) = inr (still_busy stream on given said free busy)

pub turned_still : (deeds : List Deed) (on : ℕ) (given : List Input) (said : Said) (calls : List Served) → ready_on on (line_after first_line given).streams ≡ Free → AllByRecursion (HadTurns deeds given) calls → AllByRecursion (HadTurns deeds (more given on said)) calls
turned_still deeds on given said [] free had = tt
turned_still deeds on given said (served ∷ calls) free had = (
  record { had = had_still served.stream on given said free had.0.had; once = had.0.once },
  turned_still deeds on given said calls free had.1,
)

pub one_rests : (owed : List Request) (given : List Input) (waiting : List Waiting) (standing : Standing) (on : ℕ) (said : Said) → ready_on on (line_after first_line given).streams ≡ Free → IsAtRest owed given waiting standing → IsAtRest owed (more given on said) waiting standing
one_rests owed given waiting standing on said free rest = record {
  none_owed = rest.none_owed;
  behind = still_behind on said given waiting free rest.behind;
  turned = turned_still standing.round on given said standing.calls free rest.turned;
}

-- ---- all that feeders say

next_accepted : (given theirs : List Input) (on : ℕ) (said : Said) → AreAccepted (line_after first_line given) (Speech on said ∷ theirs) → AreAccepted (line_after first_line (more given on said)) theirs
next_accepted given theirs on said are = subst (λ (l : Line). AreAccepted l theirs) (sym (line_after_one first_line given (Speech on said))) are.1

pub others_serve : (fed : List ℕ) (start : Start) (course : Course) (theirs : List Input) → AreFromFeeders fed theirs → IsServed fed start course → IsServed fed start (course_with course (course.inputs ++ theirs))
others_serve fed start course [] from s = subst (λ (is : List Input). IsServed fed start (course_with course is)) (sym (append-nil course.inputs)) s
others_serve fed start course (inputs.Event event ∷ theirs) from s = absurd from.0
others_serve fed start course (Speech on said ∷ theirs) from s =
    subst (λ (is : List Input). IsServed fed start (course_with course is)) (append_assoc course.inputs (Speech on said ∷ []) theirs)
    (others_serve fed start (course_with course (more course.inputs on said)) theirs from.1 (one_served fed start course on said from.0 s))

pub others_rest : (fed : List ℕ) (owed : List Request) (given : List Input) (waiting : List Waiting) (standing : Standing) (theirs : List Input) → AreFromFeeders fed theirs → AreAccepted (line_after first_line given) theirs → IsAtRest owed given waiting standing
    → IsAtRest owed (given ++ theirs) waiting standing
others_rest fed owed given waiting standing [] from are rest = subst (λ (is : List Input). IsAtRest owed is waiting standing) (sym (append-nil given)) rest
others_rest fed owed given waiting standing (inputs.Event event ∷ theirs) from are rest = absurd from.0
others_rest fed owed given waiting standing (Speech on said ∷ theirs) from are rest =
    subst (λ (is : List Input). IsAtRest owed is waiting standing) (append_assoc given (Speech on said ∷ []) theirs)
    (others_rest fed owed (more given on said) waiting standing theirs from.1 (next_accepted given theirs on said are)
    (one_rests owed given waiting standing on said (free_accepted on said (line_after first_line given) are.0) rest))

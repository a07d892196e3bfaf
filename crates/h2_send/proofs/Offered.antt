-- How a port sees a wire, and what an offer comes to.
use Rattle.std.proofs.Common.{◌≡◌, ℕ, ◌<◌, ◌≤◌, ◌==◌, Bool, true, false, map, List, [], ◌∷◌, ◌++◌, IsTrue, refl, sym, ap, ◌∙◌, subst, arith, append-nil}
use Rattle.std.specs.Prelude.{if◌then◌else◌, Option, Some}
use Rattle.std.proofs.lemmas.Bool.{false≢true}
use Rattle.environment.specs.Output.{Output, Wrote, FailedWithin}
use Rattle.h2_windows.specs.Written.{octets_of}
use Rattle.h2_windows.proofs.Fronts.{wrote_nothing}
use Rattle.h2_events.specs.Items.{is_last, said_on}
use Rattle.h2_events.specs.declared.said.Said.{Said}
use Rattle.h2_events.specs.declared.said.Said.TheVariants.{Message, Finish, Status}
use Rattle.h2_events.specs.declared.port.Took.{Took}
use Rattle.h2_events.specs.declared.port.Took.TheVariants as took
use Rattle.h2_events.specs.declared.port.Ready.{Ready}
use Rattle.h2_events.specs.declared.port.Ready.TheVariants as ready
use Rattle.h2_send.specs.Inputs.{Input, Event, Speech, item_of}
use Rattle.h2_send.specs.Lines.{Line, first_line}
use Rattle.h2_send.specs.Offers.{ready_on}
use Rattle.h2_send.specs.Acting.{handled}
use Rattle.h2_send.specs.Orders.{line_after}
use Rattle.h2_send.specs.Conditions.{IsClosed, readiness}
use Rattle.h2_send.specs.Port.{Progress, Ends, GoesOn, Takes, Tries, Offers, Asks, accepted_by, given_by, line_of, ready_in, said_so_far}
use Rattle.h2_send.specs.Wires.{WireView, Says, IsFolded, progress_of}
use Rattle.h2_send.specs.declared.condition.Condition.{Condition}
use Rattle.h2_send.specs.declared.condition.Condition.TheVariants as condition
use Rattle.h2_send.proofs.Closing.{free_open, open_line, line_after_one}
use Rattle.h2_send.proofs.Readiness.{ended_gone}

same_many : (n : ℕ) → n ≤ n
same_many n = omega arith

-- nobody did anything
pub stays : (at : Progress) → GoesOn at at
stays at = record {
  others = [];
  inputs = sym (append-nil at.inputs);
  accepted = tt;
  wrote = λ old new. wrote_nothing at.output at.output refl;
  ended = λ is. subst (λ state. Ends state (line_of at) [] at.output at.output) (sym is) tt;
  faults = same_many at.output.faults;
  closed = λ is. refl;
}

ready_is : (state : Condition) (stream : ℕ) (line : Line) (inputs : List Input) → IsFolded state line inputs → readiness state stream line ≡ readiness state stream (line_after first_line inputs)
ready_is condition.New stream line inputs folded = refl
ready_is condition.Open stream line inputs folded = ap (λ (l : Line). ready_on stream l.streams) folded
ready_is condition.Finished stream line inputs folded = refl
ready_is condition.WriteFault stream line inputs folded = refl
ready_is condition.NoMemory stream line inputs folded = refl

module _ {S : Type 0} (seen : S → Output) (stream : ℕ) where
  abbrev at : WireView S → Progress
  at w = progress_of seen w

  pub asks : (answer : Ready) (old new : WireView S) → IsFolded old.condition old.line old.inputs → answer ≡ readiness old.condition stream old.line → at new ≡ at old → Asks true answer stream (at old) (at new)
  asks answer old new folded is same = record {
    goes_on = subst (λ p. GoesOn (at old) p) (sym same) (stays (at old));
    alone = λ alone. same;
    answers = is ∙ ready_is old.condition stream old.line old.inputs folded ∙ ap (λ p. ready_in stream p) (sym same);
  }

  takes : (r : Took) (input : Input) (old new : WireView S) → old.line ≡ line_after first_line old.inputs → Says seen input r old new → Takes r input (at old) (at new)
  takes took.Taken input old new is (wrote, same) = (subst (λ os. Wrote os (seen old.sink) (seen new.sink)) (ap (λ l. octets_of (handled input l).frames) is) wrote, ap (λ (w : WireView S). w.inputs) same, ap (λ (w : WireView S). w.condition) same)
  takes took.WriteFault input old new is (failed, grows, state, port) = (subst (λ os. FailedWithin os (seen old.sink) (seen new.sink)) (ap (λ l. octets_of (handled input l).frames) is) failed, grows, state)
  takes took.NoMemory input old new is (wants, same, grows, state, port) = (same, grows, state)
  takes took.Busy input old new is never = absurd never
  takes took.Gone input old new is never = absurd never

  tries : (d : Ready) (r : Took) (input : Input) (old new : WireView S) → IsFolded old.condition old.line old.inputs → readiness old.condition stream old.line ≡ d → (d ≡ ready.Free → Says seen input r old new) → (d ≡ ready.Busy → (r ≡ took.Busy) × (new ≡ old)) → (d ≡ ready.Gone → (r ≡ took.Gone) × (new ≡ old)) → Tries d r input (at old) (at new)
  tries ready.Free r input old new folded is says busy gone = takes r input old new (open_line old.condition old.line old.inputs (free_open old.condition stream old.line is) folded) (says refl)
  tries ready.Busy r input old new folded is says busy gone = let (e, same) = busy refl in (e, ap (λ w. at w) same)
  tries ready.Gone r input old new folded is says busy gone = let (e, same) = gone refl in (e, ap (λ w. at w) same)

  pub offers : (r : Took) (said : Said) (old new : WireView S) → IsFolded old.condition old.line old.inputs → (readiness old.condition stream old.line ≡ ready.Free → Says seen (Speech stream said) r old new) → (readiness old.condition stream old.line ≡ ready.Busy → (r ≡ took.Busy) × (new ≡ old)) → (readiness old.condition stream old.line ≡ ready.Gone → (r ≡ took.Gone) × (new ≡ old)) → Offers true r stream said (at old) (at new)
  offers r said old new folded says busy gone = record {
    found = at old;
    goes_on = stays (at old);
    alone = λ alone. refl;
    tries = subst (λ d. Tries d r (Speech stream said) (at old) (at new)) (ready_is old.condition stream old.line old.inputs folded) (tries (readiness old.condition stream old.line) r (Speech stream said) old new folded refl says busy gone);
  }

-- ---- what an offer tells

closed_gone : (state : Condition) (stream : ℕ) (line : Line) → IsClosed state → readiness state stream line ≡ ready.Gone
closed_gone condition.New stream line is = absurd is
closed_gone condition.Open stream line is = absurd is
closed_gone condition.Finished stream line is = refl
closed_gone condition.WriteFault stream line is = refl
closed_gone condition.NoMemory stream line is = refl

module _ (stream : ℕ) (said : Said) (found new : Progress) where
  abbrev before : Ready
  before = ready_in stream found

  abbrev Tried : Ready → Took → Type 0
  Tried d r = Tries d r (Speech stream said) found new

  -- Gone comes where the stream is gone, which it stays,
  pub gone_then : (d : Ready) → before ≡ d → Tried d took.Gone → ready_in stream new ≡ ready.Gone
  gone_then ready.Free is never = absurd never
  gone_then ready.Busy is (e, same) = absurd cc
  gone_then ready.Gone is (e, same) = ap (λ p. ready_in stream p) same ∙ is

  -- Busy where octets wait,
  pub busy_then : (d : Ready) → before ≡ d → Tried d took.Busy → ready_in stream new ≡ ready.Busy
  busy_then ready.Free is never = absurd never
  busy_then ready.Busy is (e, same) = ap (λ p. ready_in stream p) same ∙ is
  busy_then ready.Gone is (e, same) = absurd cc

  -- a fault closes the sending half,
  pub fault_then : (d : Ready) → Tried d took.WriteFault → (new.condition ≡ condition.WriteFault) × (found.output.faults < new.output.faults)
  fault_then ready.Free ((n, less, last), grows, state) = (state, (let e = ap (λ (o : Output). o.faults) last in omega (arith, e)))
  fault_then ready.Busy (e, same) = absurd cc
  fault_then ready.Gone (e, same) = absurd cc

  pub starved_then : (d : Ready) → Tried d took.NoMemory → new.condition ≡ condition.NoMemory
  starved_then ready.Free (same, grows, state) = state
  starved_then ready.Busy (e, same) = absurd cc
  starved_then ready.Gone (e, same) = absurd cc

  last_gone : (word : Said) (line : Line) → IsTrue (is_last word) → ready_on stream (handled (Speech stream word) line).line.streams ≡ ready.Gone
  last_gone (Message octets) line is = absurd (false≢true is)
  last_gone (Finish refusal) line is = ended_gone stream line.initial line.window line.streams
  last_gone (Status status) line is = ended_gone stream line.initial line.window line.streams

  line_then : new.inputs ≡ found.inputs ++ Speech stream said ∷ [] → line_of new ≡ (handled (Speech stream said) (line_of found)).line
  line_then grows = ap (λ is. line_after first_line is) grows ∙ line_after_one first_line found.inputs (Speech stream said)

  -- and behind what comes last on a stream it is gone.
  pub ended_then : (d : Ready) → Tried d took.Taken → IsTrue (is_last said) → ready_in stream new ≡ ready.Gone
  ended_then ready.Free (wrote, grows, state) last = ap (λ c. readiness c stream (line_of new)) state ∙ ap (λ (l : Line). ready_on stream l.streams) (line_then grows) ∙ last_gone said (line_of found) last
  ended_then ready.Busy (e, same) last = absurd cc
  ended_then ready.Gone (e, same) last = absurd cc

  pub taken_free : (d : Ready) → Tried d took.Taken → d ≡ ready.Free
  taken_free ready.Free is = refl
  taken_free ready.Busy (e, same) = absurd cc
  taken_free ready.Gone (e, same) = absurd cc

pub all_gone : (state : Condition) (at : Progress) (other : ℕ) → IsClosed state → at.condition ≡ state → ready_in other at ≡ ready.Gone
all_gone state at other closed is = ap (λ c. readiness c other (line_of at)) is ∙ closed_gone state other (line_of at) closed

-- ---- what is said by an offer

said_more : (other stream : ℕ) (said : Said) (inputs : List Input) → said_on other (map item_of (inputs ++ Speech stream said ∷ [])) ≡ said_on other (map item_of inputs) ++ (if stream == other then said ∷ [] else [])
said_more other stream said [] = refl
said_more other stream said (Event event ∷ inputs) = said_more other stream said inputs
said_more other stream said (Speech on first ∷ inputs) = by (on == other) (said_more other stream said inputs)
  where
    by : (b : Bool) → said_on other (map item_of (inputs ++ Speech stream said ∷ [])) ≡ said_on other (map item_of inputs) ++ (if stream == other then said ∷ [] else [])
        → (if b then first ∷ said_on other (map item_of (inputs ++ Speech stream said ∷ [])) else said_on other (map item_of (inputs ++ Speech stream said ∷ [])))
        ≡ (if b then first ∷ said_on other (map item_of inputs) else said_on other (map item_of inputs)) ++ (if stream == other then said ∷ [] else [])
    by true rest = ap (λ (words : List Said). first ∷ words) rest
    by false rest = rest

none_more : (other stream : ℕ) (words : List Said) → words ≡ words ++ (if stream == other then [] else [])
none_more other stream words = by (stream == other)
  where
    by : (b : Bool) → words ≡ words ++ (if b then [] else [])
    by true = sym (append-nil words)
    by false = sym (append-nil words)

-- Nothing is said on any stream but what was offered, where it was accepted.
said_by_offer : (other stream : ℕ) (said : Said) (found new : Progress) (d : Ready) (r : Took) → Tries d r (Speech stream said) found new → said_so_far other new ≡ said_so_far other found ++ (if stream == other then accepted_by r said else [])
said_by_offer other stream said found new ready.Free took.Taken (wrote, grows, state) = ap (λ is. said_on other (map item_of is)) grows ∙ said_more other stream said found.inputs
said_by_offer other stream said found new ready.Free took.WriteFault (failed, grows, state) = ap (λ is. said_on other (map item_of is)) grows ∙ said_more other stream said found.inputs
said_by_offer other stream said found new ready.Free took.NoMemory (same, grows, state) = ap (λ is. said_on other (map item_of is)) grows ∙ said_more other stream said found.inputs
said_by_offer other stream said found new ready.Free took.Busy never = absurd never
said_by_offer other stream said found new ready.Free took.Gone never = absurd never
said_by_offer other stream said found new ready.Busy r (is, same) = ap (λ p. said_so_far other p) same ∙ none_more other stream (said_so_far other found) ∙ sym (ap (λ t. said_so_far other found ++ (if stream == other then accepted_by t said else [])) is)
said_by_offer other stream said found new ready.Gone r (is, same) = ap (λ p. said_so_far other p) same ∙ none_more other stream (said_so_far other found) ∙ sym (ap (λ t. said_so_far other found ++ (if stream == other then accepted_by t said else [])) is)

-- of a port that is alone
pub said_alone : (other stream : ℕ) (said : Said) (r : Took) (old new : Progress) → Offers true r stream said old new → said_so_far other new ≡ said_so_far other old ++ (if stream == other then accepted_by r said else [])
said_alone other stream said r old new o = said_by_offer other stream said o.found new (ready_in stream o.found) r o.tries ∙ ap (λ p. said_so_far other p ++ (if stream == other then accepted_by r said else [])) (o.alone refl)

-- ---- what an offer gives

one_more_given : (inputs : List Input) (i : Input) → map Some (inputs ++ i ∷ []) ≡ map Some inputs ++ Some i ∷ []
one_more_given [] i = refl
one_more_given (first ∷ inputs) i = ap (λ (is : List (Option Input)). Some first ∷ is) (one_more_given inputs i)

same_given : (stream : ℕ) (said : Said) (found new : Progress) (r t : Took) → r ≡ t → accepted_by t said ≡ [] → new ≡ found → map Some new.inputs ≡ map Some found.inputs ++ given_by r stream said
same_given stream said found new r t is none same =
    ap (λ (p : Progress). map Some p.inputs) same
    ∙ sym (append-nil (map Some found.inputs))
    ∙ ap (λ (words : List Said). map Some found.inputs ++ map (λ word. Some (Speech stream word)) words) (sym (ap (λ (k : Took). accepted_by k said) is ∙ none))

given_by_offer : (stream : ℕ) (said : Said) (found new : Progress) (d : Ready) (r : Took) → Tries d r (Speech stream said) found new → map Some new.inputs ≡ map Some found.inputs ++ given_by r stream said
given_by_offer stream said found new ready.Free took.Taken (wrote, grows, state) = ap (λ is. map Some is) grows ∙ one_more_given found.inputs (Speech stream said)
given_by_offer stream said found new ready.Free took.WriteFault (failed, grows, state) = ap (λ is. map Some is) grows ∙ one_more_given found.inputs (Speech stream said)
given_by_offer stream said found new ready.Free took.NoMemory (same, grows, state) = ap (λ is. map Some is) grows ∙ one_more_given found.inputs (Speech stream said)
given_by_offer stream said found new ready.Free took.Busy never = absurd never
given_by_offer stream said found new ready.Free took.Gone never = absurd never
given_by_offer stream said found new ready.Busy r (is, same) = same_given stream said found new r took.Busy is refl same
given_by_offer stream said found new ready.Gone r (is, same) = same_given stream said found new r took.Gone is refl same

-- through a port that is alone
pub given_alone : (stream : ℕ) (said : Said) (r : Took) (old new : Progress) → Offers true r stream said old new → map Some new.inputs ≡ map Some old.inputs ++ given_by r stream said
given_alone stream said r old new o = given_by_offer stream said o.found new (ready_in stream o.found) r o.tries ∙ ap (λ (p : Progress). map Some p.inputs ++ given_by r stream said) (o.alone refl)

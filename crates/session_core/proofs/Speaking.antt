-- What waits is said, behind what feeders said meanwhile.
use Rattle.std.proofs.Common.{◌≡◌, ◌⊎◌, inl, inr, ℕ, List, ◌∷◌, ◌++◌, sym, ◌∙◌, subst, Result, Ok, Err}
use Rattle.environment.specs.Output.{Output}
use Rattle.h2_events.specs.declared.event.RecvEvent.{RecvEvent}
use Rattle.h2_recv.specs.Receiving.{State}
use Rattle.h2_send.specs.Conditions.{answer_of}
use Rattle.h2_send.specs.Port.{Progress}
use Rattle.h2_send.specs.declared.condition.Condition.TheVariants as condition
use Rattle.h2_send.specs.declared.fault.WireFaultOut.{WireFaultOut}
use Rattle.grpc_requests.specs.declared.request.Request.{Request}
use Rattle.stream_workers.specs.Feeders.{Started}
use Rattle.session_core.specs.declared.waiting.Waiting.{Waiting}
use Rattle.session_core.specs.Saying.{AreBehind}
use Rattle.session_core.specs.Serving.{Start, Standing, deeds_in}
use Rattle.session_core.specs.inner.Ends.{how_of}
use Rattle.session_core.specs.inner.Feeders.{AreOfFeeders, feeder_state}
use Rattle.session_core.specs.inner.Places.{HasEnded, IsWriting, Stands, place_of}
use Rattle.session_core.specs.inner.Sending.{WireHistory, DoesWhereOpen, HasGrown, SaysThere, TellsFault}
use Rattle.session_core.specs.inner.Steps.{Speaks, told_of}
use Rattle.session_core.proofs.Sides.{side_says}
use Rattle.session_core.proofs.Looking.{EndsThere, closed_is, not_both, same_fault, stands_found, told_fault, writing_found}
use Rattle.session_core.proofs.Words.{behind_taken, split_first, word_fails, word_taken, writing_taken}

module _ (fed : List ℕ) (before after : WireHistory) (old new : Progress) (w : Waiting) (answer : Result (Unit {0}) WireFaultOut)
    (d : DoesWhereOpen before.others after.others old new (Speaks w.stream w.said answer) (TellsFault old answer)) (theirs : AreOfFeeders fed after) where
  closed_tells : old.condition ≡ condition.Open → (fault : WireFaultOut) → answer_of d.found.condition ≡ Err fault → (new ≡ d.found) × (answer ≡ Err fault)
  closed_tells was_open fault is =
      let told = d.tells (closed_is d.found.condition fault is) in
      (told.0, told_fault (answer_of d.found.condition) fault (λ f. answer ≡ Err f) is (told.1 was_open))

  speaks_so : (result : Result (Unit {0}) WireFaultOut) → answer ≡ result → d.found.condition ≡ condition.Open → Speaks w.stream w.said result d.found new
  speaks_so result is is_open = subst (λ (r : Result (Unit {0}) WireFaultOut). Speaks w.stream w.said r d.found new) is (d.does is_open)

  -- the sending half goes on, and what else waits behind octets of its stream still does
  pub writing_says : (output : Output) (others : List Waiting) → answer ≡ Ok tt → IsWriting output old → AreBehind old.inputs others → IsWriting output new × AreBehind new.inputs others
  writing_says output others is writing behind = by_either (writing_found fed output others before after old d.found d.finds theirs writing behind) where
    by_either : (IsWriting output d.found × AreBehind d.found.inputs others) ⊎ ((fault : WireFaultOut) × (answer_of d.found.condition ≡ Err fault)) → IsWriting output new × AreBehind new.inputs others
    by_either (inl (now, later)) =
        let speaks = speaks_so (Ok tt) is now.is_open in
        (writing_taken output d.found new w now speaks, behind_taken d.found new others w speaks later)
    by_either (inr (fault, closed)) = absurd (not_both (sym is ∙ (closed_tells writing.is_open fault closed).1))

  module _ (start : Start) (output : Output) (octets : List ℕ) (started : List Started) (grown : HasGrown before after) (there : SaysThere w.stream before after)
      (recv : State) (heard : List RecvEvent) (still items rest : List Waiting) (owed : List Request) (at : Standing) (first : items ≡ w ∷ rest) (behind : AreBehind old.inputs still)
      (stands : Stands fed start output octets (place_of recv old (feeder_state before started) heard (still ++ items) owed at)) where
    abbrev at_here : Progress → List Waiting → Type 0
    at_here p ws = Stands fed start output octets (place_of recv p (feeder_state after started) heard (still ++ ws) owed at)

    -- what goes with feeders, as the call leaves it
    with_side : at_here old items
    with_side =
        let s = split_first fed start output octets (feeder_state before started) recv old heard still items rest w owed at first stands in
        subst (λ (ws : List Waiting). at_here old ws) (sym first) (record {
          moments = s.moments;
          reader = s.reader;
          recv_is = s.recv_is;
          frames = s.frames;
          writing = s.writing;
          heard_is = s.heard_is;
          served = record { served = s.served.served; beside = side_says start.port before after started still rest w s.moments (deeds_in s.served.served) grown there s.served.beside };
        })

    found_so : (at_here d.found items × AreBehind d.found.inputs still) ⊎ EndsThere fed start octets output (feeder_state after started) at d.found
    found_so = stands_found fed start output octets before after old d.found d.finds theirs (feeder_state after started) recv heard (still ++ items) owed at still with_side behind

    pub word_goes : (next : State) → answer ≡ Ok tt → next ≡ told_of w.stream w.said recv → Stands fed start output octets (place_of next new (feeder_state after started) heard (still ++ rest) owed at)
    word_goes next is told = by_either found_so where
      by_either : (at_here d.found items × AreBehind d.found.inputs still) ⊎ EndsThere fed start octets output (feeder_state after started) at d.found → Stands fed start output octets (place_of next new (feeder_state after started) heard (still ++ rest) owed at)
      by_either (inl (now, later)) =
          word_taken fed start output octets (feeder_state after started) recv next d.found new heard still items rest w owed at first later (speaks_so (Ok tt) is now.writing.is_open) told now
      by_either (inr (fault, closed, ended)) = absurd (not_both (sym is ∙ (closed_tells stands.writing.is_open fault closed).1))

    pub word_ends : (fault : WireFaultOut) → answer ≡ Err fault → HasEnded (how_of fault) fed start octets output new (feeder_state after started) at.port at.readings
    word_ends fault is = by_either found_so where
      by_either : (at_here d.found items × AreBehind d.found.inputs still) ⊎ EndsThere fed start octets output (feeder_state after started) at d.found → HasEnded (how_of fault) fed start octets output new (feeder_state after started) at.port at.readings
      by_either (inl (now, later)) =
          word_fails fed start output octets (feeder_state after started) fault recv d.found new heard still items rest w owed at first later (speaks_so (Err fault) is now.writing.is_open) now
      by_either (inr (other, closed, ended)) =
          let told = closed_tells stands.writing.is_open other closed in
          subst (λ (p : Progress). HasEnded (how_of fault) fed start octets output p (feeder_state after started) at.port at.readings) (sym told.0)
          (subst (λ (f : WireFaultOut). HasEnded (how_of f) fed start octets output d.found (feeder_state after started) at.port at.readings) (same_fault {A = Unit {0}} (sym told.1 ∙ is)) ended)

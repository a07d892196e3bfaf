-- What is done together in one turn.
use Rattle.std.proofs.Common.{◌≡◌, ℕ, List, [], ◌∷◌, ◌++◌, Result, Ok, Err, refl, sym, ap, ◌∙◌, subst, append_assoc, append-nil}
use Rattle.std.specs.List.{AllByRecursion}
use Rattle.h2_events.specs.declared.event.RecvEvent.{RecvEvent}
use Rattle.h2_events.specs.declared.port.Ready.{Ready}
use Rattle.h2_events.specs.declared.port.Took.{Took}
use Rattle.h2_events.specs.declared.said.Said.{Said}
use Rattle.h2_frame.specs.ErrorCodes.{flow_control_error}
use Rattle.h2_send.specs.Port.{ready_in}
use Rattle.h2_send.specs.declared.fault.WireFaultOut.{WireFaultOut}
use Rattle.h2_send.specs.declared.fault.WireFaultOut.TheVariants as fault
use Rattle.shared_wire.specs.Records.{WireRecord, ActsOn, ActsOrEnds, Adds, AddsSo, AreRecords, EndsIfTooFar, EndsOn, ReadsOn, ReadsOrTells, SaysOn, SaysOrTells, UnlessFault, fault_in, left_in, overflow_or}
use Rattle.shared_wire.proofs.Holding.{adds_none}

all_both : (P : WireRecord → Type 0) (xs ys : List WireRecord) → AllByRecursion P xs → AllByRecursion P ys → AllByRecursion P (xs ++ ys)
all_both P [] ys one two = two
all_both P (x ∷ xs) ys one two = (one.0, all_both P xs ys one.1 two)

adds_both : (author : ℕ) (old xs mid ys new : List WireRecord) → Adds author old xs mid → Adds author mid ys new → Adds author old (xs ++ ys) new
adds_both author old xs mid ys new one two = record {
  whole = two.whole ∙ ap (λ l. l ++ ys) one.whole ∙ append_assoc old xs ys;
  by = all_both (λ (r : WireRecord). r.author ≡ author) xs ys one.by two.by;
  records = two.records;
}

none_then : (done : Result (Unit {0}) WireFaultOut) (found : List WireRecord) → (done ≡ Err fault.Overflow → ⊥) → EndsIfTooFar done done found []
none_then (Ok tt) found other = (refl, refl)
none_then (Err fault.WriteFault) found other = (refl, refl)
none_then (Err fault.NoMemory) found other = (refl, refl)
none_then (Err fault.Overflow) found other = absurd (other refl)

-- an event that wasn't refused
pub acts_alone : (author : ℕ) (event : RecvEvent) (done : Result (Unit {0}) WireFaultOut) (old new : List WireRecord) → (done ≡ Err fault.Overflow → ⊥) → AddsSo author (ActsOn event done) old new → AddsSo author (ActsOrEnds event done) old new
acts_alone author event done old new other a = record {
  added = a.added;
  adds = a.adds;
  does = record {
    done = done;
    acted = a.added;
    ended = [];
    whole = sym (append-nil a.added);
    acts = a.does;
    ends = none_then done (old ++ a.added) other;
  };
}

-- and one that was
pub acts_then_ends : (author : ℕ) (event : RecvEvent) (ended answer : Result (Unit {0}) WireFaultOut) (old mid new : List WireRecord) → answer ≡ overflow_or ended → AddsSo author (ActsOn event (Err fault.Overflow)) old mid → AddsSo author (EndsOn flow_control_error ended) mid new → AddsSo author (ActsOrEnds event answer) old new
acts_then_ends author event ended answer old mid new is a e = record {
  added = a.added ++ e.added;
  adds = adds_both author old a.added mid e.added new a.adds e.adds;
  does = record {
    done = Err fault.Overflow;
    acted = a.added;
    ended = e.added;
    whole = refl;
    acts = a.does;
    ends = (ended, subst (λ l. EndsOn flow_control_error ended l e.added) a.adds.whole e.does, is);
  };
}

-- ---- a fault that closed the wire before

pub reads_so : (stream : ℕ) (r : Ready) (found : List WireRecord) → fault_in found ≡ Ok tt → r ≡ ready_in stream (left_in found) → ReadsOrTells stream (Ok r) found []
reads_so stream r found none is = subst (λ f. UnlessFault f [] (Ok r) (λ x. ReadsOn stream x found [])) (sym none) (r, refl, record { none = refl; is = is })

pub reads_fault : (stream : ℕ) (f : WireFaultOut) (found : List WireRecord) → fault_in found ≡ Err f → ReadsOrTells stream (Err f) found []
reads_fault stream f found is = subst (λ (e : Result (Unit {0}) WireFaultOut). UnlessFault e [] (Err f) (λ x. ReadsOn stream x found [])) (sym is) (refl, refl)

pub says_so : (author stream : ℕ) (said : Said) (t : Took) (old new : List WireRecord) → fault_in old ≡ Ok tt → AddsSo author (SaysOn stream said t) old new → AddsSo author (SaysOrTells stream said (Ok t)) old new
says_so author stream said t old new none a = record {
  added = a.added;
  adds = a.adds;
  does = subst (λ f. UnlessFault f a.added (Ok t) (λ x. SaysOn stream said x old a.added)) (sym none) (t, refl, a.does);
}

pub says_fault : (author stream : ℕ) (said : Said) (f : WireFaultOut) (old : List WireRecord) → AreRecords old → fault_in old ≡ Err f → AddsSo author (SaysOrTells stream said (Err f)) old old
says_fault author stream said f old are is = record {
  added = [];
  adds = adds_none author old are;
  does = subst (λ (e : Result (Unit {0}) WireFaultOut). UnlessFault e [] (Err f) (λ x. SaysOn stream said x old [])) (sym is) (refl, refl);
}

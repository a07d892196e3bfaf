-- What making twins of a session's ports and meeting them leaves of these.
use Rattle.std.proofs.Common.{◌≡◌, ◌⊎◌, inl, inr, ℕ, List, [], ◌∷◌, ◌++◌, Bool, false, refl, sym, ap, ◌∙◌, subst, append-nil}
use Rattle.std.specs.List.{AllByRecursion}
use Rattle.base_kinds.specs.declared.entry.Entry.{Entry}
use Rattle.book_port.specs.Ports.{PortView, CanMeet, IsTwin, Meets, knows_all}
use Rattle.book_port.specs.declared.port.PassFault.{PassFault}
use Rattle.book_port.specs.declared.port.PassFault.TheVariants as faults
use Rattle.shared_wire.specs.Records.{WireRecord}
use Rattle.shared_wire.specs.Visits.{VisitEnd, VisitView, IsTwin as IsWireTwin, Meets as MeetsVisit, end_of, most_authors}
use Rattle.stream_workers.specs.Ports.{IsUnused, StayTheirs, own_port, own_visit}

-- ---- ports of the book

pub twin_keeps : (old new twin : PortView) → IsTwin old new twin → own_port new ≡ own_port old
twin_keeps old new twin is = ap own_port is.new_is

same_seen : {T : Type 0} (old other new : List T) → (new ≡ old) ⊎ (new ≡ other) → other ≡ old → new ≡ old
same_seen old other new (inl is) same = is
same_seen old other new (inr is) same = is ∙ same

pub meeting_keeps : (old other new : PortView) → Meets old other new → other.seen ≡ old.seen → own_port new ≡ own_port old
meeting_keeps old other new is same =
    ap own_port is.new_is
    ∙ ap (λ (h : List Entry). own_port (record old { seen = h })) (same_seen old.seen other.seen new.seen is.seen same)

twin_seen : (old new twin : PortView) → IsTwin old new twin → twin.seen ≡ new.seen
twin_seen old new twin is = ap (λ (p : PortView). p.seen) is.twin_is ∙ sym (ap (λ (p : PortView). p.seen) is.new_is)

pub can_meet_twin : (old new twin : PortView) → IsTwin old new twin → CanMeet new twin
can_meet_twin old new twin is = record {
  book = ap (λ (p : PortView). p.book) is.twin_is ∙ sym (ap (λ (p : PortView). p.book) is.new_is);
  shared = ap (λ (p : PortView). p.is_alone) is.new_is;
  other_shared = ap (λ (p : PortView). p.is_alone) is.twin_is;
}

-- a twin that is met again
met_keeps : (old mid new twin : PortView) → IsTwin old mid twin → Meets mid twin new → own_port new ≡ own_port old
met_keeps old mid new twin is meets = meeting_keeps mid twin new meets (twin_seen old mid twin is) ∙ twin_keeps old mid twin is

met_shared : (old mid new twin : PortView) → IsTwin old mid twin → Meets mid twin new → new.is_alone ≡ false
met_shared old mid new twin is meets = ap (λ (p : PortView). p.is_alone) meets.new_is ∙ ap (λ (p : PortView). p.is_alone) is.new_is

-- ---- ports of the wire

pub visit_twin_keeps : (old new twin : VisitView) → IsWireTwin old new twin → own_visit new ≡ own_visit old
visit_twin_keeps old new twin is = ap own_visit is.new_is

pub visit_meeting_keeps : (old other new : VisitView) → MeetsVisit old other new → other.seen ≡ old.seen → own_visit new ≡ own_visit old
visit_meeting_keeps old other new is same =
    ap own_visit is.new_is
    ∙ ap (λ (rs : List WireRecord). own_visit (record old { seen = rs })) (same_seen old.seen other.seen new.seen is.seen same)

visit_twin_seen : (old new twin : VisitView) → IsWireTwin old new twin → twin.seen ≡ new.seen
visit_twin_seen old new twin is = ap (λ (v : VisitView). v.seen) is.twin_is ∙ sym (ap (λ (v : VisitView). v.seen) is.new_is)

pub visit_twin_lock : (old new twin : VisitView) → IsWireTwin old new twin → twin.lock ≡ new.lock
visit_twin_lock old new twin is = ap (λ (v : VisitView). v.lock) is.twin_is ∙ sym (ap (λ (v : VisitView). v.lock) is.new_is)

-- a port for whose twin no number or no memory was left
pub visit_knew : (fault : PassFault) (old new : VisitView) → (fault ≡ faults.Spent → new ≡ record old { known = most_authors }) → (fault ≡ faults.NoMemory → new ≡ old) → (known : ℕ) × (new ≡ record old { known = known })
visit_knew faults.Spent old new spent memory = (most_authors, spent refl)
visit_knew faults.NoMemory old new spent memory = (old.known, memory refl)

pub book_knew : (fault : PassFault) (old new : PortView) → (fault ≡ faults.Spent → new ≡ knows_all old) → (fault ≡ faults.NoMemory → new ≡ old) → (known : ℕ) × (new ≡ record old { known = known })
book_knew faults.Spent old new spent memory = (most_authors, spent refl)
book_knew faults.NoMemory old new spent memory = (old.known, memory refl)

-- ---- both

pub both_stay : (book : PortView) (wire : VisitView) → StayTheirs book book wire wire
both_stay book wire = record {
  book_is = refl;
  shared = λ is. is;
  wire_is = refl;
  unused = [];
  met = sym (append-nil wire.met);
  are_unused = tt;
}

-- the numbers of authors are known to be given out
pub book_knows : (book new : PortView) (wire : VisitView) (known : ℕ) → new ≡ record book { known = known } → StayTheirs book new wire wire
book_knows book new wire known is = record {
  book_is = ap own_port is;
  shared = λ shared. ap (λ (p : PortView). p.is_alone) is ∙ shared;
  wire_is = refl;
  unused = [];
  met = sym (append-nil wire.met);
  are_unused = tt;
}

-- no twin of the wire was made, and that of the book is met again
pub book_met : (book mid new twin : PortView) (wire : VisitView) (new_wire : VisitView) (known : ℕ) → IsTwin book mid twin → Meets mid twin new → new_wire ≡ record wire { known = known } → StayTheirs book new wire new_wire
book_met book mid new twin wire new_wire known is meets visit = record {
  book_is = met_keeps book mid new twin is meets;
  shared = λ _. met_shared book mid new twin is meets;
  wire_is = ap own_visit visit;
  unused = [];
  met = ap (λ (v : VisitView). v.met) visit ∙ sym (append-nil wire.met);
  are_unused = tt;
}

pub twins_made : (book new own : PortView) (wire new_wire visit : VisitView) → IsTwin book new own → IsWireTwin wire new_wire visit → StayTheirs book new wire new_wire
twins_made book new own wire new_wire visit is visit_is = record {
  book_is = twin_keeps book new own is;
  shared = λ _. ap (λ (p : PortView). p.is_alone) is.new_is;
  wire_is = visit_twin_keeps wire new_wire visit visit_is;
  unused = [];
  met = ap (λ (v : VisitView). v.met) visit_is.new_is ∙ sym (append-nil wire.met);
  are_unused = tt;
}

-- both twins are met again
pub twins_met : (book mid new own : PortView) (wire mid_wire new_wire visit : VisitView) → IsTwin book mid own → Meets mid own new → IsWireTwin wire mid_wire visit → MeetsVisit mid_wire visit new_wire
    → StayTheirs book new wire new_wire
twins_met book mid new own wire mid_wire new_wire visit is meets visit_is visit_meets = record {
  book_is = met_keeps book mid new own is meets;
  shared = λ _. met_shared book mid new own is meets;
  wire_is = visit_meeting_keeps mid_wire visit new_wire visit_meets (visit_twin_seen wire mid_wire visit visit_is) ∙ visit_twin_keeps wire mid_wire visit visit_is;
  unused = end_of visit ∷ visit.met;
  met = ap (λ (v : VisitView). v.met) visit_meets.new_is
      ∙ ap (λ (ends : List VisitEnd). ends ++ end_of visit ∷ visit.met) (ap (λ (v : VisitView). v.met) visit_is.new_is);
  are_unused = (ap (λ (v : VisitView). v.made) visit_is.twin_is, subst (λ (ends : List VisitEnd). AllByRecursion IsUnused ends) (sym (ap (λ (v : VisitView). v.met) visit_is.twin_is)) tt);
}

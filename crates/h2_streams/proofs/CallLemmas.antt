-- Moments, one behind the other.
use Rattle.std.proofs.Common.{◌≡◌, ℕ, List, [], ◌∷◌, ◌++◌, refl, sym, ap, ◌∙◌, subst, Option, Some, None, Result, Ok}
use Rattle.h2_frame.specs.Frames.{Frame}
use Rattle.h2_events.specs.declared.event.RecvEvent.{RecvEvent}
use Rattle.h2_events.specs.Events.{highest_from}
use Rattle.h2_events.specs.Items.{Read, Event, Ended}
use Rattle.h2_streams.specs.declared.peer.Peer.{Peer}
use Rattle.h2_streams.specs.Outcomes.{EventAndPeer}
use Rattle.h2_streams.specs.Calls.{Moment, read, ended, Cause, came, ends, Leads, Calls, causes_of, frames_of, events_of, reads_of}
use Rattle.h2_streams.proofs.OutcomeLemmas.{one_outcome}
use Rattle.h2_streams.proofs.LawLemmas.{tells_highest}

pub calls_joined : (start middle last : Peer) (one two : List Moment) → Calls start one middle → Calls middle two last → Calls start (one ++ two) last
calls_joined start middle last [] two p q = subst (λ (o : Peer). Calls o two last) (sym p) q
calls_joined start middle last (m ∷ one) two p q = (p.0, p.1, calls_joined p.0 middle last one two p.2 q)

pub calls_cut : (start last : Peer) (one two : List Moment) → Calls start (one ++ two) last → (middle : Peer) × Calls start one middle × Calls middle two last
calls_cut start last [] two p = (start, refl, p)
calls_cut start last (m ∷ one) two p =
    let q = calls_cut p.0 last one two p.2 in
    (q.0, (p.0, p.1, q.1), q.2)

pub frames_joined : (one two : List Moment) → frames_of (one ++ two) ≡ frames_of one ++ frames_of two
frames_joined [] two = refl
frames_joined (read f e ∷ one) two = ap (λ (fs : List Frame). f ∷ fs) (frames_joined one two)
frames_joined (ended s ∷ one) two = frames_joined one two

pub events_joined : (one two : List Moment) → events_of (one ++ two) ≡ events_of one ++ events_of two
events_joined [] two = refl
events_joined (read f (Some e) ∷ one) two = ap (λ (es : List RecvEvent). e ∷ es) (events_joined one two)
events_joined (read f None ∷ one) two = events_joined one two
events_joined (ended s ∷ one) two = events_joined one two

pub reads_joined : (one two : List Moment) → reads_of (one ++ two) ≡ reads_of one ++ reads_of two
reads_joined [] two = refl
reads_joined (read f (Some e) ∷ one) two = ap (λ (rs : List Read). Event e ∷ rs) (reads_joined one two)
reads_joined (read f None ∷ one) two = reads_joined one two
reads_joined (ended s ∷ one) two = ap (λ (rs : List Read). Ended s ∷ rs) (reads_joined one two)

-- ---- frames and ends decide

same_event : (one other : EventAndPeer) → ◌≡◌ {A = Result EventAndPeer ℕ} (Ok one) (Ok other) → (one.event ≡ other.event) × (one.peer ≡ other.peer)
same_event one other e = let same : one ≡ other = cc in (ap (λ (t : EventAndPeer). t.event) same, ap (λ (t : EventAndPeer). t.peer) same)

first_cause : (a b : Cause) (rest more : List Cause) → ◌≡◌ {A = List Cause} (a ∷ rest) (b ∷ more) → (a ≡ b) × (rest ≡ more)
first_cause a b rest more e = (cc, cc)

same_frame : (f g : Frame) → came f ≡ came g → f ≡ g
same_frame f g e = cc

same_end : (s t : ℕ) → ends s ≡ ends t → s ≡ t
same_end s t e = cc

pub one_chain : (start last other_last : Peer) (one other : List Moment) → Calls start one last → Calls start other other_last → causes_of one ≡ causes_of other → (one ≡ other) × (last ≡ other_last)
one_chain start last other_last [] [] p q e = (refl, sym p ∙ q)
one_chain start last other_last [] (read g o ∷ two) p q e = absurd cc
one_chain start last other_last [] (ended t ∷ two) p q e = absurd cc
one_chain start last other_last (read f n ∷ one) [] p q e = absurd cc
one_chain start last other_last (ended s ∷ one) [] p q e = absurd cc
one_chain start last other_last (read f n ∷ one) (ended t ∷ two) p q e = let h = first_cause (came f) (ends t) (causes_of one) (causes_of two) e in let k : came f ≡ ends t = h.0 in absurd cc
one_chain start last other_last (ended s ∷ one) (read g o ∷ two) p q e = let h = first_cause (ends s) (came g) (causes_of one) (causes_of two) e in let k : ends s ≡ came g = h.0 in absurd cc
one_chain start last other_last (read f n ∷ one) (read g o ∷ two) p q e =
    let h = first_cause (came f) (came g) (causes_of one) (causes_of two) e in
    let frames : f ≡ g = same_frame f g h.0 in
    let told = same_event (record { event = n; peer = p.0 }) (record { event = o; peer = q.0 })
    (one_outcome start f (Ok (record { event = n; peer = p.0 })) (Ok (record { event = o; peer = q.0 })) p.1
    (subst (λ (k : Frame). Leads start (read k o) q.0) (sym frames) q.1)) in
    let more = one_chain p.0 last other_last one two p.2 (subst (λ (k : Peer). Calls k two other_last) (sym told.1) q.2) h.1 in
    (ap (λ (k : Frame). read k n ∷ one) frames ∙ ap (λ (k : Option RecvEvent). read g k ∷ one) told.0 ∙ ap (λ (k : List Moment). read g o ∷ k) more.0, more.1)
one_chain start last other_last (ended s ∷ one) (ended t ∷ two) p q e =
    let h = first_cause (ends s) (ends t) (causes_of one) (causes_of two) e in
    let same : s ≡ t = same_end s t h.0 in
    let next : p.0 ≡ q.0 = sym p.1 ∙ subst (λ (k : ℕ). Leads start (ended k) q.0) (sym same) q.1 in
    let more = one_chain p.0 last other_last one two p.2 (subst (λ (k : Peer). Calls k two other_last) (sym next) q.2) h.1 in
    (ap (λ (k : ℕ). ended k ∷ one) same ∙ ap (λ (k : List Moment). ended t ∷ k) more.0, more.1)

-- ---- the highest stream

pub highest_is_from_events : (start last : Peer) (moments : List Moment) → Calls start moments last → last.highest ≡ highest_from start.highest (events_of moments)
highest_is_from_events start last [] p = ap (λ (o : Peer). o.highest) (sym p)
highest_is_from_events start last (read f (Some e) ∷ moments) p =
    highest_is_from_events p.0 last moments p.2
    ∙ ap (λ (n : ℕ). highest_from n (events_of moments)) (tells_highest start f (Ok (record { event = Some e; peer = p.0 })) p.1)
highest_is_from_events start last (read f None ∷ moments) p =
    highest_is_from_events p.0 last moments p.2
    ∙ ap (λ (n : ℕ). highest_from n (events_of moments)) (tells_highest start f (Ok (record { event = None; peer = p.0 })) p.1)
highest_is_from_events start last (ended s ∷ moments) p =
    highest_is_from_events p.0 last moments p.2
    ∙ ap (λ (n : ℕ). highest_from n (events_of moments)) (sym (ap (λ (o : Peer). o.highest) p.1))

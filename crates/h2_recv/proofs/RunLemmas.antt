use Rattle.std.proofs.Common.{◌≡◌, ℕ, ◌+◌, ◌<◌, ◌≤◌, ◌⊎◌, List, [], ◌∷◌, ◌++◌, ◌-◌, length, take, drop, length-drop, refl, sym, ap, subst, ◌∙◌, append_assoc, inl, inr, Option, Some, None, Result, Ok, Err, arith}
use Rattle.std.specs.Prelude.{option_to_list, slice_range}
use Rattle.std.proofs.lemmas.List.{append-nil, take_all, take-append-drop}
use Rattle.h2_frame.specs.declared.frame.Head.{Head}
use Rattle.h2_frame.specs.Frames.{Frame, Spells, BeginsWith, LeadingFrames, StandsFirst, IsPart, frame_of, stated_length}
use Rattle.h2_frame.specs.ErrorCodes.{frame_size_error}
use Rattle.h2_frame.proofs.Reading.{begins}
use Rattle.h2_events.specs.declared.event.RecvEvent.{RecvEvent}
use Rattle.h2_events.specs.declared.event.RecvFault.{RecvFault}
use Rattle.h2_events.specs.declared.event.RecvFault.TheVariants as fault
use Rattle.h2_streams.specs.declared.peer.Peer.{Peer}
use Rattle.h2_events.specs.Events.{largest_frame}
use Rattle.h2_streams.specs.Outcomes.{Outcome}
use Rattle.h2_streams.specs.Meanings.{Means}
use Rattle.h2_streams.specs.Calls.{Moment, read, ended, Leads, Calls, AreRead, frames_of, events_of}
use Rattle.h2_recv.specs.declared.reader.Reader.{Reader}
use Rattle.h2_recv.specs.Receiving.{state_of, share, GoesOn, Opens, FaultStands}
use Rattle.h2_recv.specs.inner.Steps.{IsFrame, Looks, Goes, Fails, Advances, AdvancesTo, HasFailed}

pub leading_more : (octets : List ℕ) (frames : List Frame) (after : List ℕ) (frame : Frame) (next : List ℕ) → LeadingFrames largest_frame octets frames after → BeginsWith largest_frame after frame next
    → LeadingFrames largest_frame octets (frames ++ frame ∷ []) next
leading_more octets [] after frame next p q = (next, subst (λ (o : List ℕ). BeginsWith largest_frame o frame next) (sym p) q, refl)
leading_more octets (f ∷ frames) after frame next p q = (p.0, p.1, leading_more p.0 frames after frame next p.2 q)

pub calls_more : (start : Peer) (moments : List Moment) (middle : Peer) (moment : Moment) (last : Peer) → Calls start moments middle → Leads middle moment last
    → Calls start (moments ++ moment ∷ []) last
calls_more start [] middle moment last p q = (last, subst (λ (o : Peer). Leads o moment last) (sym p) q, refl)
calls_more start (m ∷ moments) middle moment last p q = (p.0, p.1, calls_more p.0 moments middle moment last p.2 q)

pub frames_more : (moments : List Moment) (frame : Frame) (event : Option RecvEvent) → frames_of (moments ++ read frame event ∷ []) ≡ frames_of moments ++ frame ∷ []
frames_more [] frame event = refl
frames_more (read f e ∷ moments) frame event = ap (λ (fs : List Frame). f ∷ fs) (frames_more moments frame event)
frames_more (ended s ∷ moments) frame event = frames_more moments frame event

pub read_more : (moments : List Moment) (frame : Frame) (event : Option RecvEvent) → AreRead moments → AreRead (moments ++ read frame event ∷ [])
read_more [] frame event p = tt
read_more (read f e ∷ moments) frame event p = read_more moments frame event p
read_more (ended s ∷ moments) frame event p = absurd p

pub events_more : (moments : List Moment) (frame : Frame) (event : Option RecvEvent) → events_of (moments ++ read frame event ∷ []) ≡ events_of moments ++ option_to_list event
events_more [] frame (Some event) = refl
events_more [] frame None = refl
events_more (read f (Some e) ∷ moments) frame event = ap (λ (es : List RecvEvent). e ∷ es) (events_more moments frame event)
events_more (read f None ∷ moments) frame event = events_more moments frame event
events_more (ended s ∷ moments) frame event = events_more moments frame event

pub begins_with : (octets after : List ℕ) (frame : Frame) → Spells octets frame → frame.head.length ≤ largest_frame → BeginsWith largest_frame (octets ++ after) frame after
begins_with octets after frame spells allowed = record { front = octets; spells = spells; allowed = allowed; joined = refl }

-- octets more of a frame that isn't whole
pub more_octets : (octets : List ℕ) (start : Peer) (out : List RecvEvent) (rest front behind : List ℕ) (peer : Peer) (events : List RecvEvent)
    → Goes octets start out rest (front ++ behind) peer events → IsPart largest_frame (rest ++ front) → Goes octets start out (rest ++ front) behind peer events
more_octets octets start out rest front behind peer events p part = record {
  moments = p.moments;
  leading = subst (λ (o : List ℕ). LeadingFrames largest_frame octets (frames_of p.moments) o) (sym (append_assoc rest front behind)) p.leading;
  calls = p.calls;
  read = p.read;
  told = p.told;
  part = part;
}

-- a whole frame more
pub more_frames : (octets : List ℕ) (start : Peer) (out : List RecvEvent) (rest front behind : List ℕ) (peer next : Peer) (events : List RecvEvent) (event : Option RecvEvent)
    → Goes octets start out rest (front ++ behind) peer events → IsFrame (rest ++ front) peer (Ok (record { event = event; peer = next }))
    → IsPart largest_frame [] → Goes octets start out [] behind next (events ++ option_to_list event)
more_frames octets start out rest front behind peer next events event p f part =
    let here : LeadingFrames largest_frame octets (frames_of p.moments) ((rest ++ front) ++ behind) = subst (λ (o : List ℕ). LeadingFrames largest_frame octets (frames_of p.moments) o) (sym (append_assoc rest front behind)) p.leading in
    record {
      moments = p.moments ++ read f.frame event ∷ [];
      leading = rw (frames_more p.moments f.frame event) (leading_more octets (frames_of p.moments) _ f.frame behind here (begins_with (rest ++ front) behind f.frame f.spells f.allowed));
      read = read_more p.moments f.frame event p.read;
      calls = calls_more start p.moments peer (read f.frame event) next p.calls f.means;
      told = rw (p.told, events_more p.moments f.frame event) (append_assoc out (events_of p.moments) (option_to_list event));
      part = part;
    }

-- a connection fault
pub fault_stands : (octets : List ℕ) (start : Peer) (out : List RecvEvent) (rest front behind : List ℕ) (peer : Peer) (events : List RecvEvent) (code : ℕ)
    → Goes octets start out rest (front ++ behind) peer events → FaultStands peer ((rest ++ front) ++ behind) code → Fails octets start out code events
fault_stands octets start out rest front behind peer events code p stands = record {
  moments = p.moments;
  after = (rest ++ front) ++ behind;
  peer = peer;
  leading = subst (λ (o : List ℕ). LeadingFrames largest_frame octets (frames_of p.moments) o) (sym (append_assoc rest front behind)) p.leading;
  calls = p.calls;
  read = p.read;
  told = p.told;
  stands = stands;
}

pub part_of_nothing : IsPart largest_frame []
part_of_nothing = begins largest_frame [] (λ i. omega arith) (omega arith) (omega arith)

kept_whole : (octets : List ℕ) (start : Peer) (out : List RecvEvent) (rest behind : List ℕ) (peer : Peer) (events more : List RecvEvent) (event : Option RecvEvent)
    → event ≡ None → more ≡ events ++ option_to_list event → Goes octets start out rest behind peer events → Goes octets start out rest behind peer more
kept_whole octets start out rest behind peer events more event none e p =
    subst (λ (es : List RecvEvent). Goes octets start out rest behind peer es)
    (sym (append-nil events) ∙ ap (λ (o : Option RecvEvent). events ++ option_to_list o) (sym none) ∙ sym e) p

pub looked : (old new : Reader) (rest front behind : List ℕ) (events more : List RecvEvent) (event : Option RecvEvent) → old.rest ≡ rest ++ front
    → Looks old (Ok event) new → more ≡ events ++ option_to_list event → Advances old.peer rest (front ++ behind) events new.peer new.rest behind more
looked old new rest front behind events more event s (inl t) e = λ octets start out p.
    subst (λ (r : Reader). Goes octets start out r.rest behind r.peer more) (sym t.2)
    (kept_whole octets start out old.rest behind old.peer events more event t.0 e
    (subst (λ (o : List ℕ). Goes octets start out o behind old.peer events) (sym s)
    (more_octets octets start out rest front behind old.peer events p (subst (λ (o : List ℕ). IsPart largest_frame o) s t.1))))
looked old new rest front behind events more event s (inr t) e = λ octets start out p.
    subst (λ (es : List RecvEvent). Goes octets start out new.rest behind new.peer es) (sym e)
    (subst (λ (o : List ℕ). Goes octets start out o behind new.peer (events ++ option_to_list event)) (sym (ap (λ (r : Reader). r.rest) t.1))
    (more_frames octets start out rest front behind old.peer new.peer events event p
    (subst (λ (o : List ℕ). IsFrame o old.peer (Ok (record { event = event; peer = new.peer }))) s t.0) part_of_nothing))

pub part_then : (old new : Reader) (event : Option RecvEvent) → Looks old (Ok event) new → IsPart largest_frame new.rest
part_then old new event (inl t) = subst (λ (r : Reader). IsPart largest_frame r.rest) (sym t.2) t.1
part_then old new event (inr t) = subst (λ (o : List ℕ). IsPart largest_frame o) (sym (ap (λ (r : Reader). r.rest) t.1)) part_of_nothing

-- octets behind can't make a stated length less
stated_grows : (octets behind : List ℕ) → stated_length octets ≤ stated_length (octets ++ behind)
stated_grows [] behind = omega arith
stated_grows (a ∷ []) behind = omega arith
stated_grows (a ∷ b ∷ []) behind = omega arith
stated_grows (a ∷ b ∷ c ∷ octets) behind = omega arith

pub grown : (octets behind : List ℕ) → largest_frame < stated_length octets → largest_frame < stated_length (octets ++ behind)
grown octets behind lt = omega (arith, stated_grows octets behind)

stands_behind : (peer : Peer) (octets behind : List ℕ) (code : ℕ) → ((largest_frame < stated_length octets) × (code ≡ frame_size_error)) ⊎ IsFrame octets peer (Err code) → FaultStands peer (octets ++ behind) code
stands_behind peer octets behind code (inl t) = inl (grown octets behind t.0, t.1)
stands_behind peer octets behind code (inr f) = inr (f.frame, behind, begins_with octets behind f.frame f.spells f.allowed, f.means)

pub failed_at : (old new : Reader) (rest front behind : List ℕ) (events : List RecvEvent) (code : ℕ) → old.rest ≡ rest ++ front
    → Looks old (Err (fault.Protocol code)) new → AdvancesTo code old.peer rest (front ++ behind) events events
failed_at old new rest front behind events code s t = λ octets start out p.
    fault_stands octets start out rest front behind old.peer events code p
    (subst (λ (o : List ℕ). FaultStands old.peer (o ++ behind) code) s (stands_behind old.peer old.rest behind code t))

cut_at : (octets : List ℕ) (n : ℕ) → octets ≡ take n octets ++ take (length octets - n) (drop n octets)
cut_at octets n = rw (take_all (length octets - n) (drop n octets) (omega (arith, length-drop n octets))) (sym (take-append-drop n octets))

pub stepped : (old mid new : Reader) (octets : List ℕ) (n : ℕ) (events more : List RecvEvent) (event : Option RecvEvent) → mid ≡ record old { rest = old.rest ++ take n octets }
    → Looks mid (Ok event) new → more ≡ events ++ option_to_list event
    → Advances old.peer old.rest octets events new.peer new.rest (take (length octets - n) (drop n octets)) more
stepped old mid new octets n events more event m l e = λ all start out p.
    let same_rest : mid.rest ≡ old.rest ++ take n octets = ap (λ (r : Reader). r.rest) m in
    let same_peer : mid.peer ≡ old.peer = ap (λ (r : Reader). r.peer) m in
    looked mid new old.rest (take n octets) (take (length octets - n) (drop n octets)) events more event same_rest l e all start out
    (subst (λ (o : List ℕ). Goes all start out old.rest o mid.peer events) (cut_at octets n)
    (subst (λ (q : Peer). Goes all start out old.rest octets q events) (sym same_peer) p))

pub failed_step : (old mid new : Reader) (octets : List ℕ) (n : ℕ) (events : List RecvEvent) (code : ℕ) (why : RecvFault) → mid ≡ record old { rest = old.rest ++ take n octets }
    → why ≡ fault.Protocol code → Looks mid (Err why) new → AdvancesTo code old.peer old.rest octets events events
failed_step old mid new octets n events code why m w l = λ all start out p.
    let same_rest : mid.rest ≡ old.rest ++ take n octets = ap (λ (r : Reader). r.rest) m in
    let same_peer : mid.peer ≡ old.peer = ap (λ (r : Reader). r.peer) m in
    failed_at mid new old.rest (take n octets) (take (length octets - n) (drop n octets)) events code same_rest
    (subst (λ (f : RecvFault). Looks mid (Err f) new) w l) all start out
    (subst (λ (o : List ℕ). Goes all start out old.rest o mid.peer events) (cut_at octets n)
    (subst (λ (q : Peer). Goes all start out old.rest octets q events) (sym same_peer) p))

-- ---- a frame that is whole in the octets

whole_frame : (peer : Peer) (octets : List ℕ) (head : Head) (used : ℕ) (outcome : Outcome) → StandsFirst largest_frame octets head used
    → Means peer (frame_of head (slice_range octets 9 used)) outcome → IsFrame (take used octets) peer outcome
whole_frame peer octets head used outcome p means =
    record { frame = frame_of head (slice_range octets 9 used); spells = p.frame; allowed = p.allowed; means = means }

pub whole_step : (peer next : Peer) (rest octets : List ℕ) (head : Head) (used : ℕ) (events more : List RecvEvent) (event : Option RecvEvent) → rest ≡ []
    → StandsFirst largest_frame octets head used → Means peer (frame_of head (slice_range octets 9 used)) (Ok (record { event = event; peer = next }))
    → more ≡ events ++ option_to_list event → Advances peer rest octets events next rest (take (length octets - used) (drop used octets)) more
whole_step peer next rest octets head used events more event none p means e = λ all start out goes.
    subst (λ (o : List ℕ). Goes all start out o (take (length octets - used) (drop used octets)) next more) (sym none)
    (subst (λ (es : List RecvEvent). Goes all start out [] (take (length octets - used) (drop used octets)) next es) (sym e)
    (more_frames all start out [] (take used octets) (take (length octets - used) (drop used octets)) peer next events event
    (subst (λ (o : List ℕ). Goes all start out [] o peer events) (cut_at octets used) (subst (λ (o : List ℕ). Goes all start out o octets peer events) none goes))
    (whole_frame peer octets head used (Ok (record { event = event; peer = next })) p means) part_of_nothing))

pub whole_fails : (peer : Peer) (rest octets : List ℕ) (head : Head) (used : ℕ) (events : List RecvEvent) (code : ℕ) → rest ≡ []
    → StandsFirst largest_frame octets head used → Means peer (frame_of head (slice_range octets 9 used)) (Err code)
    → AdvancesTo code peer rest octets events events
whole_fails peer rest octets head used events code none p means = λ all start out goes.
    fault_stands all start out [] (take used octets) (take (length octets - used) (drop used octets)) peer events code
    (subst (λ (o : List ℕ). Goes all start out [] o peer events) (cut_at octets used) (subst (λ (o : List ℕ). Goes all start out o octets peer events) none goes))
    (stands_behind peer (take used octets) (take (length octets - used) (drop used octets)) code (inr (whole_frame peer octets head used (Err code) p means)))

pub same_fault : {T : Type 0} (result : Result T RecvFault) (one passed other : RecvFault) → result ≡ Err one → one ≡ passed → result ≡ Err other → passed ≡ other
same_fault result one passed other p q r = cc

pub read_failed : (old : Reader) (piece behind : List ℕ) (begun code : ℕ) (out events : List RecvEvent) → Opens old.begun piece begun behind
    → Fails (old.rest ++ behind) old.peer out code events → HasFailed code old piece out events
read_failed old piece behind begun code out events o f = (
  f.moments,
  inl (record {
    after = f.after;
    begun = begun;
    peer = f.peer;
    reaches = record { behind = behind; opened = o; leading = f.leading; calls = f.calls; read = f.read };
    stands = f.stands;
  }),
  f.told,
)

pub read_astray : (old : Reader) (piece : List ℕ) (code : ℕ) (out : List RecvEvent) → (GoesOn old.begun piece → ⊥) → code ≡ 1 → HasFailed code old piece out out
read_astray old piece code out departs e = ([], inr (record { departs = departs; none = refl; code_is = e }), sym (append-nil out))

pub opened : (begun : ℕ) (piece : List ℕ) (n : ℕ) → GoesOn begun piece → n ≡ share begun piece → Opens begun piece (begun + n) (take (length piece - n) (drop n piece))
opened begun piece n g e = record {
  goes_on = g;
  now_is = ap (λ (k : ℕ). begun + k) e;
  behind_is = take_all (length piece - n) (drop n piece) (omega (arith, length-drop n piece)) ∙ ap (λ (k : ℕ). drop k piece) e;
}

pub same_reader : (why : Option RecvFault) (one other : Reader) → state_of why one ≡ Ok other → one ≡ other
same_reader None one other e = cc
same_reader (Some f) one other e = absurd cc

-- Octets are read in one way at most.
use Rattle.std.proofs.Common.{◌≡◌, ℕ, ◌+◌, ◌<◌, ◌≤◌, ◌⊎◌, List, [], ◌∷◌, ◌++◌, length, get_or, refl, sym, ap, subst, ◌∙◌, arith, inl, inr, Option, Result, Ok, Err}
use Rattle.std.proofs.lemmas.List.{append-nil, get_or_append_left}
use Rattle.h2_frame.specs.Frames.{Frame, Spells, BeginsWith, LeadingFrames, IsPart, IsTooLong, stated_length}
use Rattle.h2_frame.proofs.Reading.{states_least}
use Rattle.h2_frame.proofs.Spelling.{alike, not_part}
use Rattle.h2_events.specs.declared.event.RecvEvent.{RecvEvent}
use Rattle.h2_events.specs.Events.{largest_frame}
use Rattle.h2_streams.specs.declared.peer.Peer.{Peer}
use Rattle.h2_streams.specs.Outcomes.{EventAndPeer}
use Rattle.h2_streams.specs.States.{this_side_ends}
use Rattle.h2_streams.specs.Meanings.{Means}
use Rattle.h2_streams.specs.Calls.{Moment, read, ended, Calls, AreRead, IsFault, frames_of, causes_of}
use Rattle.h2_streams.proofs.CallLemmas.{one_chain}
use Rattle.h2_streams.proofs.OutcomeLemmas.{one_outcome}
use Rattle.h2_recv.specs.declared.reader.Reader.{Reader}
use Rattle.h2_recv.specs.Receiving.{Opens, Reaches, Reads, FaultStands, Faults, Astray, ReachesWithEnds, ReadsWithEnds, FaultsWithEnds, EndAt, ends_from, ends_of}
use Rattle.h2_recv.proofs.PieceLemmas.{spelled_length}

-- no frame is read at this place
abbrev Stuck : Peer → List ℕ → Type 0
Stuck peer octets = IsPart largest_frame octets ⊎ ((code : ℕ) × FaultStands peer octets code)

begun_alike : (octets n m : List ℕ) (f g : Frame) → BeginsWith largest_frame octets f n → BeginsWith largest_frame octets g m → (f ≡ g) × (n ≡ m)
begun_alike octets n m f g p q = let h = alike p.front q.front n m f g p.spells q.spells (sym p.joined ∙ q.joined) in (h.1, h.2)

-- a frame that is allowed states no more than is
not_too_long : (octets after : List ℕ) (f : Frame) → BeginsWith largest_frame octets f after → IsTooLong largest_frame octets → ⊥
not_too_long octets after f p long =
    let size : length p.front ≡ 9 + f.head.length = spelled_length p.front f p.spells in
    let least : stated_length p.front ≤ f.head.length = states_least p.front [] f (subst (λ (o : List ℕ). Spells o f) (sym (append-nil p.front)) p.spells) in
    let a : get_or octets 0 0 ≡ get_or p.front 0 0 = ap (λ (o : List ℕ). get_or o 0 0) p.joined ∙ get_or_append_left p.front after 0 0 (omega arith) in
    let b : get_or octets 1 0 ≡ get_or p.front 1 0 = ap (λ (o : List ℕ). get_or o 1 0) p.joined ∙ get_or_append_left p.front after 0 1 (omega arith) in
    let c : get_or octets 2 0 ≡ get_or p.front 2 0 = ap (λ (o : List ℕ). get_or o 2 0) p.joined ∙ get_or_append_left p.front after 0 2 (omega arith) in
    omega (arith, long, least, a, b, c, p.allowed)

told_no_fault : (peer : Peer) (f g : Frame) (told : EventAndPeer) (code : ℕ) → f ≡ g → Means peer f (Ok told) → IsFault peer g code → ⊥
told_no_fault peer f g told code e p q =
    let same = one_outcome peer f (Ok told) (Err code) p (subst (λ (k : Frame). IsFault peer k code) (sym e) q) in absurd cc

stuck_no_frame : (peer : Peer) (octets after : List ℕ) (f : Frame) (told : EventAndPeer) → Stuck peer octets → BeginsWith largest_frame octets f after → Means peer f (Ok told) → ⊥
stuck_no_frame peer octets after f told (inl part) p means =
    not_part largest_frame p.front after f p.spells (subst (λ (o : List ℕ). IsPart largest_frame o) p.joined part)
stuck_no_frame peer octets after f told (inr (code, inl long)) p means = not_too_long octets after f p long.0
stuck_no_frame peer octets after f told (inr (code, inr stands)) p means =
    let h = begun_alike octets after stands.1 f stands.0 p stands.2 in
    told_no_fault peer f stands.0 told code h.0 means stands.3

stuck_first : (peer last : Peer) (octets a : List ℕ) (g : Frame) (e : Option RecvEvent) (two : List Moment) (b : List ℕ) (other : Peer)
    → octets ≡ a → peer ≡ last → Stuck last a → LeadingFrames largest_frame octets (frames_of (read g e ∷ two)) b → Calls peer (read g e ∷ two) other → ⊥
stuck_first peer last octets a g e two b other same last_is stuck p q =
    stuck_no_frame peer octets p.0 g (record { event = e; peer = q.0 })
    (subst (λ (o : List ℕ). Stuck peer o) (sym same) (subst (λ (k : Peer). Stuck k a) (sym last_is) stuck)) p.1 q.1

same_told : (one other : EventAndPeer) → ◌≡◌ {A = Result EventAndPeer ℕ} (Ok one) (Ok other) → (one.event ≡ other.event) × (one.peer ≡ other.peer)
same_told one other e = let same : one ≡ other = cc in (ap (λ (t : EventAndPeer). t.event) same, ap (λ (t : EventAndPeer). t.peer) same)

one_run : (peer last other : Peer) (octets a b : List ℕ) (one two : List Moment)
    → LeadingFrames largest_frame octets (frames_of one) a → Calls peer one last → AreRead one → Stuck last a
    → LeadingFrames largest_frame octets (frames_of two) b → Calls peer two other → AreRead two → Stuck other b
    → (one ≡ two) × (a ≡ b) × (last ≡ other)
one_run peer last other octets a b [] [] p c r s q d t u = (refl, sym p ∙ q, sym c ∙ d)
one_run peer last other octets a b [] (read g e ∷ two) p c r s q d t u = absurd (stuck_first peer last octets a g e two b other p c s q d)
one_run peer last other octets a b (read f e ∷ one) [] p c r s q d t u = absurd (stuck_first peer other octets b f e one a last q d u p c)
one_run peer last other octets a b (ended n ∷ one) two p c r s q d t u = absurd r
one_run peer last other octets a b [] (ended n ∷ two) p c r s q d t u = absurd t
one_run peer last other octets a b (read f e ∷ one) (ended n ∷ two) p c r s q d t u = absurd t
one_run peer last other octets a b (read f e ∷ one) (read g h ∷ two) p c r s q d t u =
    let first = begun_alike octets p.0 q.0 f g p.1 q.1 in
    let told = same_told (record { event = e; peer = c.0 }) (record { event = h; peer = d.0 })
    (one_outcome peer f (Ok (record { event = e; peer = c.0 })) (Ok (record { event = h; peer = d.0 })) c.1
    (subst (λ (k : Frame). Means peer k (Ok (record { event = h; peer = d.0 }))) (sym first.0) d.1)) in
    let more = one_run c.0 last other p.0 a b one two p.2 c.2 r s
    (subst (λ (o : List ℕ). LeadingFrames largest_frame o (frames_of two) b) (sym first.1) q.2)
    (subst (λ (k : Peer). Calls k two other) (sym told.1) d.2) t u in
    (ap (λ (k : Frame). read k e ∷ one) first.0 ∙ ap (λ (k : Option RecvEvent). read g k ∷ one) told.0 ∙ ap (λ (k : List Moment). read g h ∷ k) more.0, more.1, more.2)

-- ---- the preface

opened_alike : (begun now other : ℕ) (piece b c : List ℕ) → Opens begun piece now b → Opens begun piece other c → (now ≡ other) × (b ≡ c)
opened_alike begun now other piece b c p q = (p.now_is ∙ sym q.now_is, p.behind_is ∙ sym q.behind_is)

one_reach : (old : Reader) (piece a b : List ℕ) (one two : List Moment) (now then : ℕ) (last other : Peer)
    → Reaches old piece one a now last → Stuck last a → Reaches old piece two b then other → Stuck other b
    → (one ≡ two) × (a ≡ b) × (last ≡ other) × (now ≡ then)
one_reach old piece a b one two now then last other p s q u =
    let o = opened_alike old.begun now then piece p.behind q.behind p.opened q.opened in
    let run = one_run old.peer last other (old.rest ++ p.behind) a b one two p.leading p.calls p.read s
    (subst (λ (k : List ℕ). LeadingFrames largest_frame (old.rest ++ k) (frames_of two) b) (sym o.1) q.leading) q.calls q.read u in
    (run.0, run.1, run.2, o.0)

same_readers : (one other : Reader) → one.rest ≡ other.rest → one.peer ≡ other.peer → one.begun ≡ other.begun → one ≡ other
same_readers one other r p b =
    ap (λ (k : List ℕ). record { begun = one.begun; rest = k; peer = one.peer }) r
    ∙ ap (λ (k : Peer). record { begun = one.begun; rest = other.rest; peer = k }) p
    ∙ ap (λ (k : ℕ). record { begun = k; rest = other.rest; peer = other.peer }) b

pub one_read : (old new other : Reader) (piece : List ℕ) (one two : List Moment) → Reads old piece one new → Reads old piece two other → (one ≡ two) × (new ≡ other)
one_read old new other piece one two p q =
    let h = one_reach old piece new.rest other.rest one two new.begun other.begun new.peer other.peer p.reaches (inl p.part) q.reaches (inl q.part) in
    (h.0, same_readers new other h.1 h.2 h.3)

one_code : (peer : Peer) (octets : List ℕ) (code other : ℕ) → FaultStands peer octets code → FaultStands peer octets other → code ≡ other
one_code peer octets code other (inl p) (inl q) = p.1 ∙ sym q.1
one_code peer octets code other (inl p) (inr q) = absurd (not_too_long octets q.1 q.0 q.2 p.0)
one_code peer octets code other (inr p) (inl q) = absurd (not_too_long octets p.1 p.0 p.2 q.0)
one_code peer octets code other (inr p) (inr q) =
    let h = begun_alike octets p.1 q.1 p.0 q.0 p.2 q.2 in
    let same = one_outcome peer p.0 (Err code) (Err other) p.3 (subst (λ (k : Frame). IsFault peer k other) (sym h.0) q.3) in cc

pub one_fault : (old : Reader) (piece : List ℕ) (one two : List Moment) (code other : ℕ) → Faults old piece one code → Faults old piece two other → (one ≡ two) × (code ≡ other)
one_fault old piece one two code other p q =
    let h = one_reach old piece p.after q.after one two p.begun q.begun p.peer q.peer p.reaches (inr (code, p.stands)) q.reaches (inr (other, q.stands)) in (
      h.0,
      one_code p.peer p.after code other p.stands
          (subst (λ (k : Peer). FaultStands k p.after other) (sym h.2) (subst (λ (o : List ℕ). FaultStands q.peer o other) (sym h.1) q.stands)),
    )

pub part_no_fault : (peer : Peer) (octets : List ℕ) (code : ℕ) → IsPart largest_frame octets → FaultStands peer octets code → ⊥
part_no_fault peer octets code part (inl long) =
    let least : stated_length octets ≤ part.frame.head.length = states_least octets part.missing part.frame part.whole in
    omega (arith, long.0, least, part.allowed)
part_no_fault peer octets code part (inr q) =
    not_part largest_frame q.2.front q.1 q.0 q.2.spells (subst (λ (o : List ℕ). IsPart largest_frame o) q.2.joined part)

pub read_no_fault : (old new : Reader) (piece : List ℕ) (one two : List Moment) (code : ℕ) → Reads old piece one new → Faults old piece two code → ⊥
read_no_fault old new piece one two code p q =
    let h = one_reach old piece new.rest q.after one two new.begun q.begun new.peer q.peer p.reaches (inl p.part) q.reaches (inr (code, q.stands)) in
    part_no_fault q.peer q.after code (subst (λ (o : List ℕ). IsPart largest_frame o) h.1 p.part) q.stands

pub read_not_astray : (old new : Reader) (piece : List ℕ) (one two : List Moment) (code : ℕ) → Reads old piece one new → Astray old piece two code → ⊥
read_not_astray old new piece one two code p q = q.departs p.reaches.opened.goes_on

pub fault_not_astray : (old : Reader) (piece : List ℕ) (one two : List Moment) (code other : ℕ) → Faults old piece one code → Astray old piece two other → ⊥
fault_not_astray old piece one two code other p q = q.departs p.reaches.opened.goes_on

-- ---- with ends by this side

same_causes : (one two : List Moment) → causes_of one ≡ causes_of two → frames_of one ≡ frames_of two
same_causes [] [] e = refl
same_causes [] (read f n ∷ two) e = absurd cc
same_causes [] (ended s ∷ two) e = absurd cc
same_causes (read f n ∷ one) [] e = absurd cc
same_causes (ended s ∷ one) [] e = absurd cc
same_causes (read f n ∷ one) (read g m ∷ two) e =
    let first : f ≡ g = cc in
    let more : causes_of one ≡ causes_of two = cc in
    ap (λ (k : Frame). k ∷ frames_of one) first ∙ ap (λ (fs : List Frame). g ∷ fs) (same_causes one two more)
same_causes (read f n ∷ one) (ended s ∷ two) e = absurd cc
same_causes (ended s ∷ one) (read g m ∷ two) e = absurd cc
same_causes (ended s ∷ one) (ended t ∷ two) e =
    let more : causes_of one ≡ causes_of two = cc in same_causes one two more

leading_alike : (octets a b : List ℕ) (frames : List Frame) → LeadingFrames largest_frame octets frames a → LeadingFrames largest_frame octets frames b → a ≡ b
leading_alike octets a b [] p q = sym p ∙ q
leading_alike octets a b (f ∷ frames) p q =
    let h = begun_alike octets p.0 q.0 f f p.1 q.1 in
    leading_alike p.0 a b frames p.2 (subst (λ (o : List ℕ). LeadingFrames largest_frame o frames b) (sym h.1) q.2)

pub one_with_ends : (old new other : Reader) (octets : List ℕ) (one two : List Moment) → ReadsWithEnds old octets one new → ReadsWithEnds old octets two other
    → causes_of one ≡ causes_of two → (one ≡ two) × (new ≡ other)
one_with_ends old new other octets one two p q e =
    let o = opened_alike old.begun new.begun other.begun octets p.reaches.behind q.reaches.behind p.reaches.opened q.reaches.opened in
    let run = one_chain old.peer new.peer other.peer one two p.reaches.calls q.reaches.calls e in
    let rest = leading_alike (old.rest ++ p.reaches.behind) new.rest other.rest (frames_of one) p.reaches.leading
    (subst (λ (fs : List Frame). LeadingFrames largest_frame (old.rest ++ p.reaches.behind) fs other.rest) (sym (same_causes one two e))
    (subst (λ (k : List ℕ). LeadingFrames largest_frame (old.rest ++ k) (frames_of two) other.rest) (sym o.1) q.reaches.leading)) in
    (run.0, same_readers new other rest run.1 o.0)

-- ---- with ends by this side, told at the same places

same_first : (a b : EndAt) (xs ys : List EndAt) → ◌≡◌ {A = List EndAt} (a ∷ xs) (b ∷ ys) → (a ≡ b) × (xs ≡ ys)
same_first a b xs ys e = (cc, cc)

-- what is told behind a frame isn't told before it
told_later : (n m s : ℕ) (moments : List Moment) (ends : List EndAt) → n < m → ends_from m moments ≡ record { frames = n; stream = s } ∷ ends → ⊥
told_later n m s [] ends lt e = absurd cc
told_later n m s (read f v ∷ moments) ends lt e = told_later n (m + 1) s moments ends (omega (arith, lt)) e
told_later n m s (ended t ∷ moments) ends lt e =
    let h = same_first (record { frames = m; stream = t }) (record { frames = n; stream = s }) (ends_from m moments) ends e in
    let k : m ≡ n = ap (λ (x : EndAt). x.frames) h.0 in omega (arith, lt, k)

one_run_with_ends : (n : ℕ) (peer last other : Peer) (octets a b : List ℕ) (one two : List Moment)
    → LeadingFrames largest_frame octets (frames_of one) a → Calls peer one last → Stuck last a
    → LeadingFrames largest_frame octets (frames_of two) b → Calls peer two other → Stuck other b
    → ends_from n one ≡ ends_from n two → (one ≡ two) × (a ≡ b) × (last ≡ other)
one_run_with_ends n peer last other octets a b [] [] p c s q d u v = (refl, sym p ∙ q, sym c ∙ d)
one_run_with_ends n peer last other octets a b [] (read g e ∷ two) p c s q d u v = absurd (stuck_first peer last octets a g e two b other p c s q d)
one_run_with_ends n peer last other octets a b (read f e ∷ one) [] p c s q d u v = absurd (stuck_first peer other octets b f e one a last q d u p c)
one_run_with_ends n peer last other octets a b [] (ended t ∷ two) p c s q d u v = absurd cc
one_run_with_ends n peer last other octets a b (ended t ∷ one) [] p c s q d u v = absurd cc
one_run_with_ends n peer last other octets a b (read f e ∷ one) (ended t ∷ two) p c s q d u v =
    absurd (told_later n (n + 1) t one (ends_from n two) (omega arith) v)
one_run_with_ends n peer last other octets a b (ended t ∷ one) (read f e ∷ two) p c s q d u v =
    absurd (told_later n (n + 1) t two (ends_from n one) (omega arith) (sym v))
one_run_with_ends n peer last other octets a b (read f e ∷ one) (read g h ∷ two) p c s q d u v =
    let first = begun_alike octets p.0 q.0 f g p.1 q.1 in
    let told = same_told (record { event = e; peer = c.0 }) (record { event = h; peer = d.0 })
    (one_outcome peer f (Ok (record { event = e; peer = c.0 })) (Ok (record { event = h; peer = d.0 })) c.1
    (subst (λ (k : Frame). Means peer k (Ok (record { event = h; peer = d.0 }))) (sym first.0) d.1)) in
    let more = one_run_with_ends (n + 1) c.0 last other p.0 a b one two p.2 c.2 s
    (subst (λ (o : List ℕ). LeadingFrames largest_frame o (frames_of two) b) (sym first.1) q.2)
    (subst (λ (k : Peer). Calls k two other) (sym told.1) d.2) u v in
    (ap (λ (k : Frame). read k e ∷ one) first.0 ∙ ap (λ (k : Option RecvEvent). read g k ∷ one) told.0 ∙ ap (λ (k : List Moment). read g h ∷ k) more.0, more.1, more.2)
one_run_with_ends n peer last other octets a b (ended r ∷ one) (ended t ∷ two) p c s q d u v =
    let h = same_first (record { frames = n; stream = r }) (record { frames = n; stream = t }) (ends_from n one) (ends_from n two) v in
    let same : r ≡ t = ap (λ (x : EndAt). x.stream) h.0 in
    let next : c.0 ≡ d.0 = sym c.1 ∙ subst (λ (k : ℕ). this_side_ends k peer ≡ d.0) (sym same) d.1 in
    let more = one_run_with_ends n c.0 last other octets a b one two p c.2 s q (subst (λ (k : Peer). Calls k two other) (sym next) d.2) u h.1 in
    (ap (λ (k : ℕ). ended k ∷ one) same ∙ ap (λ (k : List Moment). ended t ∷ k) more.0, more.1, more.2)

one_reach_with_ends : (old : Reader) (octets a b : List ℕ) (one two : List Moment) (now then : ℕ) (last other : Peer)
    → ReachesWithEnds old octets one a now last → Stuck last a → ReachesWithEnds old octets two b then other → Stuck other b
    → ends_of one ≡ ends_of two → (one ≡ two) × (a ≡ b) × (last ≡ other) × (now ≡ then)
one_reach_with_ends old octets a b one two now then last other p s q u e =
    let o = opened_alike old.begun now then octets p.behind q.behind p.opened q.opened in
    let run = one_run_with_ends 0 old.peer last other (old.rest ++ p.behind) a b one two p.leading p.calls s
    (subst (λ (k : List ℕ). LeadingFrames largest_frame (old.rest ++ k) (frames_of two) b) (sym o.1) q.leading) q.calls u e in
    (run.0, run.1, run.2, o.0)

pub one_reading_with_ends : (old new other : Reader) (octets : List ℕ) (one two : List Moment) → ReadsWithEnds old octets one new → ReadsWithEnds old octets two other
    → ends_of one ≡ ends_of two → (one ≡ two) × (new ≡ other)
one_reading_with_ends old new other octets one two p q e =
    let h = one_reach_with_ends old octets new.rest other.rest one two new.begun other.begun new.peer other.peer p.reaches (inl p.part) q.reaches (inl q.part) e in
    (h.0, same_readers new other h.1 h.2 h.3)

pub one_fault_with_ends : (old : Reader) (octets : List ℕ) (one two : List Moment) (code other : ℕ) → FaultsWithEnds old octets one code → FaultsWithEnds old octets two other
    → ends_of one ≡ ends_of two → (one ≡ two) × (code ≡ other)
one_fault_with_ends old octets one two code other p q e =
    let h = one_reach_with_ends old octets p.after q.after one two p.begun q.begun p.peer q.peer p.reaches (inr (code, p.stands)) q.reaches (inr (other, q.stands)) e in (
      h.0,
      one_code p.peer p.after code other p.stands
          (subst (λ (k : Peer). FaultStands k p.after other) (sym h.2) (subst (λ (o : List ℕ). FaultStands q.peer o other) (sym h.1) q.stands)),
    )

pub read_no_fault_with_ends : (old new : Reader) (octets : List ℕ) (one two : List Moment) (code : ℕ) → ReadsWithEnds old octets one new → FaultsWithEnds old octets two code
    → ends_of one ≡ ends_of two → ⊥
read_no_fault_with_ends old new octets one two code p q e =
    let h = one_reach_with_ends old octets new.rest q.after one two new.begun q.begun new.peer q.peer p.reaches (inl p.part) q.reaches (inr (code, q.stands)) e in
    part_no_fault q.peer q.after code (subst (λ (o : List ℕ). IsPart largest_frame o) h.1 p.part) q.stands

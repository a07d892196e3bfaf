-- What comes in two pieces is what comes in one.
use Rattle.std.proofs.Common.{◌≡◌, ℕ, ◌+◌, ◌-◌, ◌<◌, ◌≤◌, ◌⊎◌, List, [], ◌∷◌, ◌++◌, length, get_or, take, drop, length-append, refl, sym, ap, subst, ◌∙◌, append_assoc, inl, inr, arith}
use Rattle.std.proofs.lemmas.Bool.{cases_lt}
use Rattle.std.proofs.lemmas.List.{append-nil, get_or_append_left, take_all, drop_all, take-append-le, take-append-drop, drop-append-le, drop-take, take-take, drop-drop}
use Rattle.std.proofs.Math.Seq.{drop-append_seam}
use Rattle.h2_frame.specs.Frames.{Frame, Spells, BeginsWith, LeadingFrames, IsPart, stated_length}
use Rattle.h2_frame.proofs.Reading.{states_least}
use Rattle.h2_frame.proofs.Runs.{leading_more}
use Rattle.h2_frame.proofs.Spelling.{not_part}
use Rattle.h2_streams.proofs.CallLemmas.{calls_joined, frames_joined}
use Rattle.h2_recv.proofs.FrameLemmas.{within_end}
use Rattle.h2_streams.specs.declared.peer.Peer.{Peer}
use Rattle.h2_events.specs.Events.{largest_frame}
use Rattle.h2_streams.specs.States.{this_side_ends}
use Rattle.h2_streams.specs.Calls.{Moment, read, ended, AreRead, frames_of}
use Rattle.h2_recv.specs.declared.reader.Reader.{Reader}
use Rattle.h2_recv.specs.inner.Steps.{IsWithin}
use Rattle.h2_recv.specs.Receiving.{next_end}
use Rattle.h2_recv.specs.Receiving.{preface, share, GoesOn, Opens, Reaches, Reads, FaultStands, Faults, Stops, ReachesWithEnds, ReadsWithEnds, FaultsWithEnds, reader_ended}

read_on : (one two : List Moment) → AreRead one → AreRead two → AreRead (one ++ two)
read_on [] two p q = q
read_on (read f e ∷ one) two p q = read_on one two p q
read_on (ended s ∷ one) two p q = absurd p

take_sum : {X : Type 0} (m n : ℕ) (xs : List X) → take (m + n) xs ≡ take m xs ++ take n (drop m xs)
take_sum m n xs =
    sym (take-append-drop m (take (m + n) xs)) ∙ ap (λ o. o ++ drop m (take (m + n) xs)) (take-take m (m + n) xs (omega arith))
    ∙ ap (λ o. take m xs ++ o) (drop-take m n xs)

pub take_past : (x y : List ℕ) (m : ℕ) → take (length x + m) (x ++ y) ≡ x ++ take m y
take_past x y m =
    take_sum (length x) m (x ++ y) ∙ ap (λ (o : List ℕ). o ++ take m (drop (length x) (x ++ y))) (take-append-le (length x) x y (omega arith) ∙ take_all (length x) x (omega arith))
    ∙ ap (λ (o : List ℕ). x ++ take m o) (drop-append_seam x y)

pub drop_past : (x y : List ℕ) (m : ℕ) → drop (length x + m) (x ++ y) ≡ drop m y
drop_past x y m = sym (drop-drop m (length x) (x ++ y)) ∙ ap (drop m) (drop-append_seam x y)

-- the preface ends in the first piece
pub opens_whole : (begun : ℕ) (x y : List ℕ) → length preface - begun ≤ length x → GoesOn begun x → GoesOn begun (x ++ y)
    × (begun + share begun x + share (begun + share begun x) y ≡ begun + share begun (x ++ y))
    × (drop (share begun x) x ++ drop (share (begun + share begun x) y) y ≡ drop (share begun (x ++ y)) (x ++ y))
opens_whole begun x y le g =
    let n = length preface - begun in
    let a : share begun x ≡ n = omega arith in
    let b : share begun (x ++ y) ≡ n = omega (arith, length-append x y) in
    let c : share (begun + share begun x) y ≡ 0 = omega (arith, a) in
    let g2 : take n x ≡ take n (drop begun preface) = subst (λ (k : ℕ). take k x ≡ take k (drop begun preface)) a g in (
      subst (λ (k : ℕ). take k (x ++ y) ≡ take k (drop begun preface)) (sym b) (take-append-le n x y le ∙ g2),
      omega (arith, a, b, c),
      subst (λ (k : ℕ). drop k x ++ drop (share (begun + share begun x) y) y ≡ drop (share begun (x ++ y)) (x ++ y)) (sym a)
          (ap (λ (k : ℕ). drop n x ++ drop k y) c ∙ sym (drop-append-le n x y le) ∙ ap (λ (k : ℕ). drop k (x ++ y)) (sym b)),
    )

-- the preface goes on in the second piece
opens_half : (begun : ℕ) (x y : List ℕ) → length x < length preface - begun → GoesOn begun x → GoesOn (begun + share begun x) y → GoesOn begun (x ++ y)
    × (begun + share begun x + share (begun + share begun x) y ≡ begun + share begun (x ++ y))
    × (drop (share begun x) x ++ drop (share (begun + share begun x) y) y ≡ drop (share begun (x ++ y)) (x ++ y))
opens_half begun x y lt g h =
    let n = length x in
    let m = share (begun + n) y in
    let left = drop begun preface in
    let a : share begun x ≡ n = omega arith in
    let b : share begun (x ++ y) ≡ n + m = omega (arith, length-append x y) in
    let g2 : take n x ≡ take n left = subst (λ (k : ℕ). take k x ≡ take k left) a g in
    let h2 : take m y ≡ take m (drop (begun + n) preface) = subst (λ (k : ℕ). GoesOn (begun + k) y) a h in
    let front : x ≡ take n left = sym (take_all n x (omega arith)) ∙ g2 in
    let behind : take m y ≡ take m (drop n left) = h2 ∙ ap (take m) (sym (drop-drop n begun preface)) in
    let both : take (n + m) (x ++ y) ≡ take (n + m) left =
    take_past x y m ∙ ap (λ (o : List ℕ). o ++ take m y) front ∙ ap (λ (o : List ℕ). take n left ++ o) behind ∙ sym (take_sum n m left) in (
      subst (λ (k : ℕ). take k (x ++ y) ≡ take k left) (sym b) both,
      subst (λ (k : ℕ). begun + k + share (begun + k) y ≡ begun + share begun (x ++ y)) (sym a) (omega (arith, b)),
      subst (λ (k : ℕ). drop k x ++ drop (share (begun + k) y) y ≡ drop (share begun (x ++ y)) (x ++ y)) (sym a)
          (ap (λ (o : List ℕ). o ++ drop m y) (drop_all n x (omega arith)) ∙ sym (drop_past x y m) ∙ ap (λ (k : ℕ). drop k (x ++ y)) (sym b)),
    )

opens_either : (begun : ℕ) (x y : List ℕ) → (length x < length preface - begun) ⊎ (length preface - begun ≤ length x) → GoesOn begun x → GoesOn (begun + share begun x) y → GoesOn begun (x ++ y)
    × (begun + share begun x + share (begun + share begun x) y ≡ begun + share begun (x ++ y))
    × (drop (share begun x) x ++ drop (share (begun + share begun x) y) y ≡ drop (share begun (x ++ y)) (x ++ y))
opens_either begun x y (inl lt) g h = opens_half begun x y lt g h
opens_either begun x y (inr le) g h = opens_whole begun x y le g

opens_on : (begun middle now : ℕ) (x y b c : List ℕ) → Opens begun x middle b → Opens middle y now c → Opens begun (x ++ y) now (b ++ c)
opens_on begun middle now x y b c p q =
    let t = opens_either begun x y (cases_lt (length x) (length preface - begun)) p.goes_on (subst (λ (k : ℕ). GoesOn k y) p.now_is q.goes_on) in
    record {
      goes_on = t.0;
      now_is = q.now_is ∙ ap (λ (k : ℕ). k + share k y) p.now_is ∙ t.1;
      behind_is =
          ap (λ (o : List ℕ). o ++ c) p.behind_is ∙ ap (λ (o : List ℕ). drop (share begun x) x ++ o) (q.behind_is ∙ ap (λ (k : ℕ). drop (share k y) y) p.now_is) ∙ t.2;
    }

reaches_on : (old middle : Reader) (x y after : List ℕ) (begun : ℕ) (peer : Peer) (one two : List Moment) → Reads old x one middle → Reaches middle y two after begun peer
    → Reaches old (x ++ y) (one ++ two) after begun peer
reaches_on old middle x y after begun peer one two p q = record {
  behind = p.reaches.behind ++ q.behind;
  opened = opens_on old.begun middle.begun begun x y p.reaches.behind q.behind p.reaches.opened q.opened;
  leading = rw (frames_joined one two) (subst (λ (o : List ℕ). LeadingFrames largest_frame o (frames_of one ++ frames_of two) after) (append_assoc old.rest p.reaches.behind q.behind)
      (leading_more largest_frame (old.rest ++ p.reaches.behind) q.behind (frames_of one) (frames_of two) middle.rest after p.reaches.leading q.leading));
  read = read_on one two p.reaches.read q.read;
  calls = calls_joined old.peer middle.peer peer one two p.reaches.calls q.calls;
}

pub reads_on : (old middle new : Reader) (x y : List ℕ) (one two : List Moment) → Reads old x one middle → Reads middle y two new → Reads old (x ++ y) (one ++ two) new
reads_on old middle new x y one two p q = record { reaches = reaches_on old middle x y new.rest new.begun new.peer one two p q.reaches; part = q.part }

pub faults_on : (old middle : Reader) (x y : List ℕ) (one two : List Moment) (code : ℕ) → Reads old x one middle → Faults middle y two code → Faults old (x ++ y) (one ++ two) code
faults_on old middle x y one two code p q =
    record { after = q.after; begun = q.begun; peer = q.peer; reaches = reaches_on old middle x y q.after q.begun q.peer one two p q.reaches; stands = q.stands }

pub stops_on : (old middle : Reader) (x y : List ℕ) (one two : List Moment) → Reads old x one middle → Stops middle y two → Stops old (x ++ y) (one ++ two)
stops_on old middle x y one two p q =
    record { after = q.after; begun = q.begun; peer = q.peer; reaches = reaches_on old middle x y q.after q.begun q.peer one two p q.reaches }

-- octets that are no more than the frame that they begin hold one frame at most
pub spelled_length : (octets : List ℕ) (f : Frame) → Spells octets f → length octets ≡ 9 + f.head.length
spelled_length octets f p = omega (arith, ap length p.octets_are, p.fits.payload_length)

pub part_length : (octets : List ℕ) → IsPart largest_frame octets → length octets ≤ 16392
part_length octets p =
    let size : length (octets ++ p.missing) ≡ 9 + p.frame.head.length = spelled_length (octets ++ p.missing) p.frame p.whole in
    omega (arith, size, length-append octets p.missing, p.some_missing, p.allowed)

nothing_left : (octets : List ℕ) → length octets ≤ 0 → octets ≡ []
nothing_left [] le = refl
nothing_left (o ∷ octets) le = absurd (omega arith)

within_first : (octets after : List ℕ) (f : Frame) → IsWithin octets → BeginsWith largest_frame octets f after → after ≡ []
within_first octets after f within p =
    let size : length p.front ≡ 9 + f.head.length = spelled_length p.front f p.spells in
    let least : stated_length p.front ≤ f.head.length = states_least p.front [] f (subst (λ (o : List ℕ). Spells o f) (sym (append-nil p.front)) p.spells) in
    let a : get_or octets 0 0 ≡ get_or p.front 0 0 = ap (λ (o : List ℕ). get_or o 0 0) p.joined ∙ get_or_append_left p.front after 0 0 (omega arith) in
    let b : get_or octets 1 0 ≡ get_or p.front 1 0 = ap (λ (o : List ℕ). get_or o 1 0) p.joined ∙ get_or_append_left p.front after 0 1 (omega arith) in
    let c : get_or octets 2 0 ≡ get_or p.front 2 0 = ap (λ (o : List ℕ). get_or o 2 0) p.joined ∙ get_or_append_left p.front after 0 2 (omega arith) in
    let both : length octets ≡ length p.front + length after = ap length p.joined ∙ length-append p.front after in
    nothing_left after (omega (arith, size, least, a, b, c, both, within))

pub one_at_most : (octets after : List ℕ) (frames : List Frame) → IsWithin octets → LeadingFrames largest_frame octets frames after → length frames ≤ 1
one_at_most octets after [] within p = omega arith
one_at_most octets after (f ∷ []) within p = omega arith
one_at_most octets after (f ∷ g ∷ frames) within p =
    let none : p.0 ≡ [] = within_first octets p.0 f within p.1 in
    let q = p.2 in
    let size : length q.1.front ≡ 9 + g.head.length = spelled_length q.1.front g q.1.spells in
    let both : length p.0 ≡ length q.1.front + length q.0 = ap length q.1.joined ∙ length-append q.1.front q.0 in
    absurd (omega (arith, size, both, ap length none))

part_no_frame : (octets after : List ℕ) (frames : List Frame) → IsPart largest_frame octets → LeadingFrames largest_frame octets frames after → length frames ≤ 1
part_no_frame octets after [] part p = omega arith
part_no_frame octets after (f ∷ frames) part p =
    absurd (not_part largest_frame p.1.front p.0 f p.1.spells (subst (λ (o : List ℕ). IsPart largest_frame o) p.1.joined part))

-- a piece inside the preface holds no frame, and one up to the next end holds one at most
pub one_in_preface : (old : Reader) (piece after : List ℕ) (moments : List Moment) (begun : ℕ) (peer : Peer) → length piece ≤ length preface - old.begun → IsPart largest_frame old.rest
    → Reaches old piece moments after begun peer → length (frames_of moments) ≤ 1
one_in_preface old piece after moments begun peer le part p =
    let none : p.behind ≡ [] = p.opened.behind_is ∙ drop_all (share old.begun piece) piece (omega arith) in
    part_no_frame old.rest after (frames_of moments) part
    (subst (λ (o : List ℕ). LeadingFrames largest_frame o (frames_of moments) after) (ap (λ (o : List ℕ). old.rest ++ o) none ∙ append-nil old.rest) p.leading)

-- past the preface all of a piece is octets of frames
past_preface : (old : Reader) (piece after : List ℕ) (moments : List Moment) (begun : ℕ) (peer : Peer) → length preface ≤ old.begun
    → Reaches old piece moments after begun peer → LeadingFrames largest_frame (old.rest ++ piece) (frames_of moments) after
past_preface old piece after moments begun peer le p =
    let e : p.behind ≡ piece = p.opened.behind_is ∙ ap (λ (k : ℕ). drop k piece) (let z : share old.begun piece ≡ 0 = omega arith in z) in
    subst (λ (o : List ℕ). LeadingFrames largest_frame (old.rest ++ o) (frames_of moments) after) e p.leading

pub one_in_frame : (old : Reader) (piece after : List ℕ) (moments : List Moment) (begun : ℕ) (peer : Peer) → length preface ≤ old.begun → length old.rest < next_end old.rest
    → length old.rest + length piece ≤ next_end old.rest → Reaches old piece moments after begun peer → length (frames_of moments) ≤ 1
one_in_frame old piece after moments begun peer past lt le p =
    one_at_most (old.rest ++ piece) after (frames_of moments) (within_end old.rest piece (omega (arith, length-append old.rest piece)))
    (past_preface old piece after moments begun peer past p)

-- ---- a fault in a piece up to the next end

no_fault_in_none : (peer : Peer) (octets : List ℕ) (code : ℕ) → octets ≡ [] → FaultStands peer octets code → ⊥
no_fault_in_none peer octets code none (inl long) =
    let zero : stated_length octets ≡ 0 = ap stated_length none in
    omega (arith, long.0, zero)
no_fault_in_none peer octets code none (inr q) =
    let size : length q.2.front ≡ 9 + q.0.head.length = spelled_length q.2.front q.0 q.2.spells in
    let both : length octets ≡ length q.2.front + length q.1 = ap length q.2.joined ∙ length-append q.2.front q.1 in
    omega (arith, size, both, ap length none)

none_before_fault : (peer : Peer) (octets after : List ℕ) (frames : List Frame) (code : ℕ) → IsWithin octets → LeadingFrames largest_frame octets frames after → FaultStands peer after code
    → frames ≡ []
none_before_fault peer octets after [] code within p stands = refl
none_before_fault peer octets after (f ∷ []) code within p stands =
    absurd (no_fault_in_none peer after code (sym p.2 ∙ within_first octets p.0 f within p.1) stands)
none_before_fault peer octets after (f ∷ g ∷ frames) code within p stands =
    absurd (omega (arith, one_at_most octets after (f ∷ g ∷ frames) within p))

pub no_moments : (moments : List Moment) → AreRead moments → frames_of moments ≡ [] → moments ≡ []
no_moments [] r e = refl
no_moments (read f n ∷ moments) r e = absurd cc
no_moments (ended s ∷ moments) r e = absurd r

pub first_in_frame : (old : Reader) (piece : List ℕ) (moments : List Moment) (code : ℕ) → length preface ≤ old.begun → length old.rest < next_end old.rest
    → length old.rest + length piece ≤ next_end old.rest → Faults old piece moments code → moments ≡ []
first_in_frame old piece moments code past lt le p =
    no_moments moments p.reaches.read
    (none_before_fault p.peer (old.rest ++ piece) p.after (frames_of moments) code (within_end old.rest piece (omega (arith, length-append old.rest piece)))
    (past_preface old piece p.after moments p.begun p.peer past p.reaches) p.stands)

frames_none : (octets after : List ℕ) (frames : List Frame) → IsPart largest_frame octets → LeadingFrames largest_frame octets frames after → frames ≡ []
frames_none octets after [] part p = refl
frames_none octets after (f ∷ frames) part p =
    absurd (not_part largest_frame p.1.front p.0 f p.1.spells (subst (λ (o : List ℕ). IsPart largest_frame o) p.1.joined part))

pub first_in_preface : (old : Reader) (piece : List ℕ) (moments : List Moment) (code : ℕ) → length piece ≤ length preface - old.begun → IsPart largest_frame old.rest
    → Faults old piece moments code → moments ≡ []
first_in_preface old piece moments code le part p =
    let r = p.reaches in
    let none : r.behind ≡ [] = r.opened.behind_is ∙ drop_all (share old.begun piece) piece (omega arith) in
    no_moments moments r.read
    (frames_none old.rest p.after (frames_of moments) part
    (subst (λ (o : List ℕ). LeadingFrames largest_frame o (frames_of moments) p.after) (ap (λ (o : List ℕ). old.rest ++ o) none ∙ append-nil old.rest) r.leading))

-- ---- ends by this side between pieces

ends_reach_on : (old middle : Reader) (x y after : List ℕ) (begun : ℕ) (peer : Peer) (one two : List Moment) → ReadsWithEnds old x one middle → ReachesWithEnds middle y two after begun peer
    → ReachesWithEnds old (x ++ y) (one ++ two) after begun peer
ends_reach_on old middle x y after begun peer one two p q = record {
  behind = p.reaches.behind ++ q.behind;
  opened = opens_on old.begun middle.begun begun x y p.reaches.behind q.behind p.reaches.opened q.opened;
  leading = rw (frames_joined one two) (subst (λ (o : List ℕ). LeadingFrames largest_frame o (frames_of one ++ frames_of two) after) (append_assoc old.rest p.reaches.behind q.behind)
      (leading_more largest_frame (old.rest ++ p.reaches.behind) q.behind (frames_of one) (frames_of two) middle.rest after p.reaches.leading q.leading));
  calls = calls_joined old.peer middle.peer peer one two p.reaches.calls q.calls;
}

pub ends_read_on : (old middle new : Reader) (x y : List ℕ) (one two : List Moment) → ReadsWithEnds old x one middle → ReadsWithEnds middle y two new
    → ReadsWithEnds old (x ++ y) (one ++ two) new
ends_read_on old middle new x y one two p q = record { reaches = ends_reach_on old middle x y new.rest new.begun new.peer one two p q.reaches; part = q.part }

pub ends_fault_on : (old middle : Reader) (x y : List ℕ) (one two : List Moment) (code : ℕ) → ReadsWithEnds old x one middle → FaultsWithEnds middle y two code
    → FaultsWithEnds old (x ++ y) (one ++ two) code
ends_fault_on old middle x y one two code p q =
    record { after = q.after; begun = q.begun; peer = q.peer; reaches = ends_reach_on old middle x y q.after q.begun q.peer one two p q.reaches; stands = q.stands }

with_ends : (old : Reader) (x after : List ℕ) (moments : List Moment) (begun : ℕ) (peer : Peer) → Reaches old x moments after begun peer → ReachesWithEnds old x moments after begun peer
with_ends old x after moments begun peer p = record { behind = p.behind; opened = p.opened; leading = p.leading; calls = p.calls }

pub read_with_ends : (old new : Reader) (x : List ℕ) (moments : List Moment) → Reads old x moments new → ReadsWithEnds old x moments new
read_with_ends old new x moments p = record { reaches = with_ends old x new.rest moments new.begun new.peer p.reaches; part = p.part }

pub fault_with_ends : (old : Reader) (x : List ℕ) (moments : List Moment) (code : ℕ) → Faults old x moments code → FaultsWithEnds old x moments code
fault_with_ends old x moments code p =
    record { after = p.after; begun = p.begun; peer = p.peer; reaches = with_ends old x p.after moments p.begun p.peer p.reaches; stands = p.stands }

pub end_told : (old new : Reader) (x : List ℕ) (moments : List Moment) (s : ℕ) → ReadsWithEnds old x moments new → ReadsWithEnds old x (moments ++ ended s ∷ []) (reader_ended s new)
end_told old new x moments s p = record {
  reaches = record {
    behind = p.reaches.behind;
    opened = p.reaches.opened;
    leading = subst (λ (fs : List Frame). LeadingFrames largest_frame (old.rest ++ p.reaches.behind) fs new.rest) (sym (frames_joined moments (ended s ∷ []) ∙ append-nil (frames_of moments))) p.reaches.leading;
    calls = calls_joined old.peer new.peer (this_side_ends s new.peer) moments (ended s ∷ []) p.reaches.calls (this_side_ends s new.peer, refl, refl);
  };
  part = p.part;
}

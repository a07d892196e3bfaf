-- A fault in one piece is a fault in what begins with it, and a second piece departs from the preface where both do.
use Rattle.std.proofs.Common.{◌≡◌, ℕ, ◌+◌, ◌-◌, ◌<◌, ◌≤◌, min, ◌⊎◌, List, [], ◌∷◌, ◌++◌, length, take, drop, length-append, refl, sym, ap, subst, ◌∙◌, append_assoc, inl, inr, arith}
use Rattle.std.proofs.lemmas.Bool.{cases_lt}
use Rattle.std.proofs.lemmas.List.{append-nil, drop_all, take-append-le, drop-append-le, take-take, drop-drop, drop-take}
use Rattle.h2_frame.specs.Frames.{Frame, LeadingFrames, IsPart}
use Rattle.h2_frame.proofs.Spelling.{not_part}
use Rattle.h2_events.specs.Events.{largest_frame}
use Rattle.h2_streams.specs.declared.peer.Peer.{Peer}
use Rattle.h2_streams.specs.Calls.{Moment, frames_of}
use Rattle.h2_recv.specs.declared.reader.Reader.{Reader}
use Rattle.h2_recv.specs.Receiving.{preface, share, GoesOn, Opens, Reaches, Reads, FaultStands, Faults, Astray}
use Rattle.h2_recv.proofs.RunLemmas.{grown}
use Rattle.h2_recv.proofs.PieceLemmas.{no_moments}
use Rattle.h2_recv.proofs.ExactLemmas.{part_no_fault}

-- octets behind a place where a fault stands
fault_grows : (peer : Peer) (octets more : List ℕ) (code : ℕ) → FaultStands peer octets code → FaultStands peer (octets ++ more) code
fault_grows peer octets more code (inl long) = inl (grown octets more long.0, long.1)
fault_grows peer octets more code (inr stands) =
    let p = stands.2 in
    inr (
      stands.0,
      stands.1 ++ more,
      record {
        front = p.front;
        spells = p.spells;
        allowed = p.allowed;
        joined = ap (λ (o : List ℕ). o ++ more) p.joined ∙ append_assoc p.front stands.1 more;
      },
      stands.3,
    )

leading_grows : (octets after more : List ℕ) (frames : List Frame) → LeadingFrames largest_frame octets frames after → LeadingFrames largest_frame (octets ++ more) frames (after ++ more)
leading_grows octets after more [] p = ap (λ (o : List ℕ). o ++ more) p
leading_grows octets after more (f ∷ frames) p =
    let q = p.1 in (
      p.0 ++ more,
      record {
        front = q.front;
        spells = q.spells;
        allowed = q.allowed;
        joined = ap (λ (o : List ℕ). o ++ more) q.joined ∙ append_assoc q.front p.0 more;
      },
      leading_grows p.0 after more frames p.2,
    )

-- nothing but part of a frame is there
alone : (octets after : List ℕ) (frames : List Frame) → IsPart largest_frame octets → LeadingFrames largest_frame octets frames after → (frames ≡ []) × (octets ≡ after)
alone octets after [] part p = (refl, p)
alone octets after (f ∷ frames) part p =
    absurd (not_part largest_frame p.1.front p.0 f p.1.spells (subst (λ (o : List ℕ). IsPart largest_frame o) p.1.joined part))

-- within the preface nothing comes behind it
none_behind : (begun now : ℕ) (x behind : List ℕ) → length x < length preface - begun → Opens begun x now behind → behind ≡ []
none_behind begun now x behind lt o = o.behind_is ∙ drop_all (share begun x) x (omega arith)

inside : (old : Reader) (x after : List ℕ) (moments : List Moment) (now : ℕ) (last : Peer) → IsPart largest_frame old.rest → length x < length preface - old.begun
    → Reaches old x moments after now last → (moments ≡ []) × (old.rest ≡ after)
inside old x after moments now last part lt p =
    let none = none_behind old.begun now x p.behind lt p.opened in
    let h = alone old.rest after (frames_of moments) part
    (subst (λ (o : List ℕ). LeadingFrames largest_frame o (frames_of moments) after) (ap (λ (o : List ℕ). old.rest ++ o) none ∙ append-nil old.rest) p.leading) in
    (no_moments moments p.read h.0, h.1)

-- the preface ended in the first piece
opens_more : (begun now : ℕ) (x y behind : List ℕ) → length preface - begun ≤ length x → Opens begun x now behind → Opens begun (x ++ y) now (behind ++ y)
opens_more begun now x y behind le o =
    let n = length preface - begun in
    let a : share begun x ≡ n = omega arith in
    let b : share begun (x ++ y) ≡ n = omega (arith, length-append x y) in
    let goes : take n x ≡ take n (drop begun preface) = subst (λ (k : ℕ). take k x ≡ take k (drop begun preface)) a o.goes_on in
    record {
      goes_on = subst (λ (k : ℕ). take k (x ++ y) ≡ take k (drop begun preface)) (sym b) (take-append-le n x y le ∙ goes);
      now_is = o.now_is ∙ ap (λ (k : ℕ). begun + k) (a ∙ sym b);
      behind_is =
          ap (λ (o : List ℕ). o ++ y) (o.behind_is ∙ ap (λ (k : ℕ). drop k x) a) ∙ sym (drop-append-le n x y le) ∙ ap (λ (k : ℕ). drop k (x ++ y)) (sym b);
    }

faults_either : (old : Reader) (x y : List ℕ) (moments : List Moment) (code : ℕ) → IsPart largest_frame old.rest
    → (length x < length preface - old.begun) ⊎ (length preface - old.begun ≤ length x) → Faults old x moments code → Faults old (x ++ y) moments code
faults_either old x y moments code part (inl lt) p =
    let h = inside old x p.after moments p.begun p.peer part lt p.reaches in
    absurd (part_no_fault p.peer p.after code (subst (λ (o : List ℕ). IsPart largest_frame o) h.1 part) p.stands)
faults_either old x y moments code part (inr le) p =
    let r = p.reaches in
    record {
      after = p.after ++ y;
      begun = p.begun;
      peer = p.peer;
      reaches = record {
        behind = r.behind ++ y;
        opened = opens_more old.begun p.begun x y r.behind le r.opened;
        leading = subst (λ (o : List ℕ). LeadingFrames largest_frame o (frames_of moments) (p.after ++ y)) (append_assoc old.rest r.behind y)
            (leading_grows (old.rest ++ r.behind) p.after y (frames_of moments) r.leading);
        calls = r.calls;
        read = r.read;
      };
      stands = fault_grows p.peer p.after y code p.stands;
    }

pub faults_grow : (old : Reader) (x y : List ℕ) (moments : List Moment) (code : ℕ) → IsPart largest_frame old.rest → Faults old x moments code → Faults old (x ++ y) moments code
faults_grow old x y moments code part p = faults_either old x y moments code part (cases_lt (length x) (length preface - old.begun)) p

-- ---- another preface

goes_before : (begun : ℕ) (x y : List ℕ) → (length x < length preface - begun) ⊎ (length preface - begun ≤ length x) → GoesOn begun (x ++ y) → GoesOn begun x
goes_before begun x y (inr le) g =
    let n = length preface - begun in
    let a : share begun x ≡ n = omega arith in
    let b : share begun (x ++ y) ≡ n = omega (arith, length-append x y) in
    let h : take n (x ++ y) ≡ take n (drop begun preface) = subst (λ (k : ℕ). take k (x ++ y) ≡ take k (drop begun preface)) b g in
    subst (λ (k : ℕ). take k x ≡ take k (drop begun preface)) (sym a) (sym (take-append-le n x y le) ∙ h)
goes_before begun x y (inl lt) g =
    let n = length x in
    let left = drop begun preface in
    let k = share begun (x ++ y) in
    let a : share begun x ≡ n = omega arith in
    let b : n ≤ k = omega (arith, length-append x y) in
    let c : min n k ≡ n = omega (arith, b) in
    let h : take n (take k (x ++ y)) ≡ take n (take k left) = ap (take n) g in
    let xs : take n (x ++ y) ≡ take n left = sym (take-take n k (x ++ y) b) ∙ h ∙ take-take n k left b in
    subst (λ (i : ℕ). take i x ≡ take i left) (sym a) (sym (take-append-le n x y (omega arith)) ∙ xs)

pub astray_grows : (old : Reader) (x y : List ℕ) (moments : List Moment) (code : ℕ) → Astray old x moments code → Astray old (x ++ y) moments code
astray_grows old x y moments code p = record {
  departs = λ g. p.departs (goes_before old.begun x y (cases_lt (length x) (length preface - old.begun)) g);
  none = p.none;
  code_is = p.code_is;
}

-- what goes on in both goes on in the second
goes_behind : (begun : ℕ) (x y : List ℕ) → length x < length preface - begun → GoesOn begun (x ++ y) → GoesOn (begun + length x) y
goes_behind begun x y lt g =
    let n = length x in
    let m = share (begun + n) y in
    let left = drop begun preface in
    let b : share begun (x ++ y) ≡ n + m = omega (arith, length-append x y) in
    let h : take (n + m) (x ++ y) ≡ take (n + m) left = subst (λ (k : ℕ). take k (x ++ y) ≡ take k left) b g in
    let d : drop n (take (n + m) (x ++ y)) ≡ drop n (take (n + m) left) = ap (drop n) h in
    let y_is : drop n (x ++ y) ≡ y = drop-append-le n x y (omega arith) ∙ ap (λ (o : List ℕ). o ++ y) (drop_all n x (omega arith)) in
    sym (ap (take m) y_is) ∙ sym (drop-take n m (x ++ y)) ∙ d ∙ drop-take n m left ∙ ap (take m) (drop-drop n begun preface)

-- past the preface no octets depart from it
goes_past : (begun : ℕ) (y : List ℕ) → length preface ≤ begun → GoesOn begun y
goes_past begun y le = let none : share begun y ≡ 0 = omega arith in subst (λ (k : ℕ). take k y ≡ take k (drop begun preface)) (sym none) refl

astray_either : (old middle : Reader) (x y : List ℕ) (one two : List Moment) (code : ℕ) → IsPart largest_frame old.rest
    → (length x < length preface - old.begun) ⊎ (length preface - old.begun ≤ length x)
    → Reads old x one middle → Astray middle y two code → Astray old (x ++ y) (one ++ two) code
astray_either old middle x y one two code part (inl lt) p q =
    let h = inside old x middle.rest one middle.begun middle.peer part lt p.reaches in
    let all : share old.begun x ≡ length x = omega arith in
    let now : middle.begun ≡ old.begun + length x = p.reaches.opened.now_is ∙ ap (λ (k : ℕ). old.begun + k) all in
    record {
      departs = λ g. q.departs (subst (λ (k : ℕ). GoesOn k y) (sym now) (goes_behind old.begun x y lt g));
      none = ap (λ (o : List Moment). o ++ two) h.0 ∙ q.none;
      code_is = q.code_is;
    }
astray_either old middle x y one two code part (inr le) p q =
    let all : share old.begun x ≡ length preface - old.begun = omega arith in
    let now : length preface ≤ middle.begun = omega (arith, p.reaches.opened.now_is, all) in
    absurd (q.departs (goes_past middle.begun y now))

pub astray_on : (old middle : Reader) (x y : List ℕ) (one two : List Moment) (code : ℕ) → IsPart largest_frame old.rest → Reads old x one middle → Astray middle y two code
    → Astray old (x ++ y) (one ++ two) code
astray_on old middle x y one two code part p q = astray_either old middle x y one two code part (cases_lt (length x) (length preface - old.begun)) p q

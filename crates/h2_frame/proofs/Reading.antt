-- What stands first in octets: a reader's answer is the only one.
use Rattle.std.proofs.Common.{◌≡◌, ℕ, zero, suc, ◌+◌, ◌*◌, ◌/◌, ◌%◌, ◌-◌, ◌^◌, ◌<◌, ◌≤◌, List, [], ◌∷◌, ◌++◌, length, get_or, take, drop, replicate, refl, sym, ap, subst, ◌∙◌, arith}
use Rattle.std.specs.Prelude.{slice_range}
use Rattle.std.proofs.lemmas.List.{append-nil, length-append, length-take, length-replicate, get_or-take, get_or_default, get_or_past, take-append-drop, drop-take}
use Rattle.std.proofs.lemmas.Bool.{cases_lt}
use Rattle.std.proofs.Common.{inl, inr}
use Rattle.h2_frame.specs.declared.frame.Head.{Head}
use Rattle.h2_frame.specs.declared.frame.Got.{Got}
use Rattle.h2_frame.specs.declared.frame.Got.TheVariants as got
use Rattle.h2_frame.specs.Frames.{Frame, frame_of, Spells, StandsFirst, IsPart, IsReadAs, stated_length}
use Rattle.h2_frame.proofs.Spelling.{alike, not_part}

abbrev pub IsOctets : List ℕ → Type 0
IsOctets octets = (i : ℕ) → get_or octets i 0 < 256

abbrev pub head_of : ℕ → ℕ → ℕ → ℕ → ℕ → ℕ → ℕ → ℕ → ℕ → Head
head_of a b c kind flags s0 s1 s2 s3 = record {
  length = a * 2 ^ 16 + b * 2 ^ 8 + c;
  kind = kind;
  flags = flags;
  stream = s0 % 128 * 2 ^ 24 + s1 * 2 ^ 16 + s2 * 2 ^ 8 + s3;
}

-- the head that the first nine octets are
abbrev pub head_at : List ℕ → Head
head_at o = head_of (get_or o 0 0) (get_or o 1 0) (get_or o 2 0) (get_or o 3 0) (get_or o 4 0) (get_or o 5 0) (get_or o 6 0) (get_or o 7 0) (get_or o 8 0)

-- nine octets of a list that are those of a frame
nine : (a b c k f d e g h a' b' c' d' e' g' h' : ℕ) (p : List ℕ) → a ≡ a' → b ≡ b' → c ≡ c' → d ≡ d' → e ≡ e' → g ≡ g' → h ≡ h' → a ∷ b ∷ c ∷ k ∷ f ∷ d ∷ e ∷ g ∷ h ∷ p ≡ a' ∷ b' ∷ c' ∷ k ∷ f ∷ d' ∷ e' ∷ g' ∷ h' ∷ p
nine a b c k f d e g h a' b' c' d' e' g' h' p qa qb qc qd qe qg qh = cc

-- octets of the length that they state are a frame
whole_frame : (whole : List ℕ) → IsOctets whole → length whole ≡ 9 + stated_length whole → Spells whole (frame_of (head_at whole) (drop 9 whole))
whole_frame (a ∷ b ∷ c ∷ k ∷ f ∷ d ∷ e ∷ g ∷ h ∷ payload) octets len =
    let qa : a < 256 = octets 0 in
    let qb : b < 256 = octets 1 in
    let qc : c < 256 = octets 2 in
    let qk : k < 256 = octets 3 in
    let qf : f < 256 = octets 4 in
    let qd : d < 256 = octets 5 in
    let qe : e < 256 = octets 6 in
    let qg : g < 256 = octets 7 in
    let qh : h < 256 = octets 8 in
    record {
      reserved = d / 128;
      is_bit = omega arith;
      octets_are = nine a b c k f d e g h _ _ _ _ _ _ _ payload (omega arith) (omega arith) (omega arith) (omega arith) (omega arith) (omega arith) (omega arith);
      fits = record {
        payload_length = omega arith;
        length_fits = omega arith;
        kind_fits = qk;
        flags_fit = qf;
        stream_fits = omega arith;
        octets_fit = λ i x lt. rw (get_or_default payload i x 0 lt) (octets (suc (suc (suc (suc (suc (suc (suc (suc (suc i))))))))));
      };
    }
whole_frame _ octets len = absurd (omega arith)

same_head : (make : ℕ → ℕ → ℕ → ℕ → ℕ → ℕ → ℕ → ℕ → ℕ → Head) (xs ys : List ℕ) → ((i : ℕ) → i < 9 → get_or xs i 0 ≡ get_or ys i 0)
    → make (get_or xs 0 0) (get_or xs 1 0) (get_or xs 2 0) (get_or xs 3 0) (get_or xs 4 0) (get_or xs 5 0) (get_or xs 6 0) (get_or xs 7 0) (get_or xs 8 0)
    ≡ make (get_or ys 0 0) (get_or ys 1 0) (get_or ys 2 0) (get_or ys 3 0) (get_or ys 4 0) (get_or ys 5 0) (get_or ys 6 0) (get_or ys 7 0) (get_or ys 8 0)
same_head make xs ys h = cc (h 0 (omega arith), h 1 (omega arith), h 2 (omega arith), h 3 (omega arith), h 4 (omega arith), h 5 (omega arith), h 6 (omega arith), h 7 (omega arith), h 8 (omega arith))

IsOctets-take : (n : ℕ) (octets : List ℕ) → IsOctets octets → IsOctets (take n octets)
IsOctets-take n octets h i =
    elim (cases_lt i n) [
      | inl lt ↦ rw (get_or-take n octets i 0 lt) (h i)
      | inr le ↦ rw (get_or_past (take n octets) i 0 (omega (arith, length-take n octets))) (omega arith)
    ]

-- a whole frame stands first where as many octets are there as are stated
pub stands : (max : ℕ) (octets : List ℕ) → IsOctets octets → stated_length octets ≤ max → 9 + stated_length octets ≤ length octets → StandsFirst max octets (head_at octets) (9 + stated_length octets)
stands max octets fits le long =
    let n = stated_length octets in
    let front = take (9 + n) octets in
    let reads : (i : ℕ) → i < 9 → get_or front i 0 ≡ get_or octets i 0 = λ i lt. get_or-take (9 + n) octets i 0 (omega arith) in
    let heads : head_at front ≡ head_at octets = same_head head_of front octets reads in
    let states : stated_length front ≡ n = ap (λ (h : Head). h.length) heads in
    let len : length front ≡ 9 + stated_length front = omega (arith, length-take (9 + n) octets) in
    let payload : drop 9 front ≡ slice_range octets 9 (9 + n) = drop-take 9 n octets ∙ ap (λ (k : ℕ). take k (drop 9 octets)) (let same : n ≡ 9 + n - 9 = omega arith in same) in
    record {
      size = refl;
      within = long;
      frame = subst (λ (h : Head). Spells front (frame_of h (slice_range octets 9 (9 + n)))) heads (subst (λ (p : List ℕ). Spells front (frame_of (head_at front) p)) payload (whole_frame front (IsOctets-take (9 + n) octets fits) len));
      allowed = le;
    }

abbrev zeros : ℕ → List ℕ
zeros n = replicate n 0

all_zero : (n i : ℕ) → get_or (zeros n) i 0 ≡ 0
all_zero zero i = refl
all_zero (suc n) zero = refl
all_zero (suc n) (suc i) = all_zero n i

zeros_behind : (xs : List ℕ) (n i : ℕ) → get_or (xs ++ zeros n) i 0 ≡ get_or xs i 0
zeros_behind [] n i = all_zero n i
zeros_behind (x ∷ xs) n zero = refl
zeros_behind (x ∷ xs) n (suc i) = zeros_behind xs n i

-- where fewer octets are there than are stated, zeros complete a frame
pub begins : (max : ℕ) (octets : List ℕ) → IsOctets octets → stated_length octets ≤ max → length octets < 9 + stated_length octets → IsPart max octets
begins max octets fits le short =
    let missing = zeros (9 + stated_length octets - length octets) in
    let whole = octets ++ missing in
    let heads : head_at whole ≡ head_at octets = same_head head_of whole octets (λ i lt. zeros_behind octets (9 + stated_length octets - length octets) i) in
    let states : stated_length whole ≡ stated_length octets = ap (λ (h : Head). h.length) heads in
    let zero_count : length missing ≡ 9 + stated_length octets - length octets = length-replicate (9 + stated_length octets - length octets) 0 in
    let len : length whole ≡ 9 + stated_length whole = omega (arith, length-append octets missing) in
    record {
      missing = missing;
      frame = frame_of (head_at whole) (drop 9 whole);
      some_missing = omega arith;
      whole = whole_frame whole (λ i. rw (zeros_behind octets (9 + stated_length octets - length octets) i) (fits i)) len;
      allowed = omega arith;
    }

-- an octet is there, or more may bring it
front_least : (xs ys : List ℕ) (i : ℕ) → get_or xs i 0 ≤ get_or (xs ++ ys) i 0
front_least [] ys i = omega arith
front_least (x ∷ xs) ys zero = omega arith
front_least (x ∷ xs) ys (suc i) = front_least xs ys i

-- a frame that begins with the octets has no fewer octets of payload than they state
pub states_least : (octets more : List ℕ) (f : Frame) → Spells (octets ++ more) f → stated_length octets ≤ f.head.length
states_least octets more f p =
    let n = f.head.length in
    let fits : n < 2 ^ 24 = p.fits.length_fits in
    let a : get_or (octets ++ more) 0 0 ≡ n / 65536 % 256 = ap (λ (l : List ℕ). get_or l 0 0) p.octets_are in
    let b : get_or (octets ++ more) 1 0 ≡ n / 256 % 256 = ap (λ (l : List ℕ). get_or l 1 0) p.octets_are in
    let c : get_or (octets ++ more) 2 0 ≡ n % 256 = ap (λ (l : List ℕ). get_or l 2 0) p.octets_are in
    omega (arith, front_least octets more 0, front_least octets more 1, front_least octets more 2)

frame_only : (max : ℕ) (octets : List ℕ) (h k : Head) (m n : ℕ) → StandsFirst max octets h m → StandsFirst max octets k n → (h ≡ k) × (m ≡ n)
frame_only max octets h k m n p q =
    let t = alike (take m octets) (take n octets) (drop m octets) (drop n octets) _ _ p.frame q.frame (take-append-drop m octets ∙ sym (take-append-drop n octets)) in
    let lens : length (take m octets) ≡ length (take n octets) = ap length t.0 in
    (ap (λ (f : Frame). f.head) t.1, omega (arith, length-take m octets, length-take n octets, p.within, q.within))

pub frame_no_part : (max : ℕ) (octets : List ℕ) (h : Head) (n : ℕ) → StandsFirst max octets h n → IsPart max octets → ⊥
frame_no_part max octets h n p q = not_part max (take n octets) (drop n octets) _ p.frame (subst (λ (o : List ℕ). IsPart max o) (sym (take-append-drop n octets)) q)

frame_least : (max : ℕ) (octets : List ℕ) (h : Head) (n : ℕ) → StandsFirst max octets h n → stated_length octets ≤ max
frame_least max octets h n p =
    let front = take n octets in
    let spells : Spells (front ++ []) (frame_of h (slice_range octets 9 n)) = subst (λ (o : List ℕ). Spells o (frame_of h (slice_range octets 9 n))) (sym (append-nil front)) p.frame in
    let least : stated_length front ≤ h.length = states_least front [] _ spells in
    let long : 9 ≤ length front = omega (arith, ap length p.frame.octets_are) in
    let enough : 9 ≤ n = omega (arith, length-take n octets) in
    omega (arith, get_or-take n octets 0 0 (omega arith), get_or-take n octets 1 0 (omega arith), get_or-take n octets 2 0 (omega arith), p.allowed)

-- an answer that says what holds is the only one
pub only : (max : ℕ) (octets : List ℕ) (a b : Got) → IsReadAs max octets a → IsReadAs max octets b → a ≡ b
only max octets (got.Frame h m) (got.Frame k n) p q =
    let t = frame_only max octets h k m n p q in
    let heads : h ≡ k = t.0 in
    let uses : m ≡ n = t.1 in
    cc
only max octets (got.Frame h m) got.More p q = absurd (frame_no_part max octets h m p q)
only max octets (got.Frame h m) (got.Bad code) p q = absurd (omega (arith, frame_least max octets h m p, q.1))
only max octets got.More (got.Frame h m) p q = absurd (frame_no_part max octets h m q p)
only max octets got.More got.More p q = refl
only max octets got.More (got.Bad code) p q = absurd (omega (arith, states_least octets p.missing p.frame p.whole, p.allowed, q.1))
only max octets (got.Bad code) (got.Frame h m) p q = absurd (omega (arith, frame_least max octets h m q, p.1))
only max octets (got.Bad code) got.More p q = absurd (omega (arith, states_least octets q.missing q.frame q.whole, q.allowed, p.1))
only max octets (got.Bad code) (got.Bad other) p q =
    let same : code ≡ other = p.0 ∙ sym q.0 in
    cc

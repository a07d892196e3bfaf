-- One frame: its octets determine it, and no frame begins another.
use Rattle.std.proofs.Common.{◌≡◌, ℕ, ◌+◌, ◌*◌, ◌/◌, ◌%◌, ◌-◌, ◌^◌, ◌<◌, ◌≤◌, List, [], ◌∷◌, ◌++◌, length, take, drop, refl, sym, ap, subst, ◌∙◌, append_assoc, arith}
use Rattle.std.proofs.lemmas.List.{append-nil, length-append, take_at, drop_at}
use Rattle.std.specs.Prelude.{slice_range}
use Rattle.h2_frame.specs.Frames.{Frame, frame_of, spelling, spelling_with, Fits, Spells, StandsFirst, IsPart}

-- three octets are those of one number
same_three : (m n : ℕ) → m < 2 ^ 24 → n < 2 ^ 24 → m / 65536 % 256 ≡ n / 65536 % 256 → m / 256 % 256 ≡ n / 256 % 256 → m % 256 ≡ n % 256 → m ≡ n
same_three m n hm hn a b c = omega arith

-- four octets are those of one number
same_four : (m n : ℕ) → m < 2 ^ 32 → n < 2 ^ 32 → m / 16777216 % 256 ≡ n / 16777216 % 256 → m / 65536 % 256 ≡ n / 65536 % 256 → m / 256 % 256 ≡ n / 256 % 256 → m % 256 ≡ n % 256 → m ≡ n
same_four m n hm hn a b c d = omega arith

-- the highest bit, and what is below it
same_bit : (r s m n : ℕ) → m < 2 ^ 31 → n < 2 ^ 31 → r * 2 ^ 31 + m ≡ s * 2 ^ 31 + n → (r ≡ s) × (m ≡ n)
same_bit r s m n hm hn e = (omega arith, omega arith)

-- equal lists, whose fronts have one length
same_fronts : (p q a b : List ℕ) → length p ≡ length q → p ++ a ≡ q ++ b → (p ≡ q) × (a ≡ b)
same_fronts [] [] a b len e = (refl, e)
same_fronts [] (y ∷ q) a b len e = absurd (omega arith)
same_fronts (x ∷ p) [] a b len e = absurd (omega arith)
same_fronts (x ∷ p) (y ∷ q) a b len e =
    let first : x ≡ y = cc in
    let rest : p ++ a ≡ q ++ b = cc in
    let lens : length p ≡ length q = omega arith in
    let t = same_fronts p q a b lens rest in
    let ts : p ≡ q = t.0 in
    (cc, t.1)

-- a frame from its fields
abbrev made : ℕ → ℕ → ℕ → ℕ → List ℕ → Frame
made len kind flags stream payload = frame_of (record { length = len; kind = kind; flags = flags; stream = stream }) payload

same_results : (make : ℕ → ℕ → ℕ → ℕ → List ℕ → Frame) (a b c d a' b' c' d' : ℕ) (p p' : List ℕ) → a ≡ a' → b ≡ b' → c ≡ c' → d ≡ d' → p ≡ p' → make a b c d p ≡ make a' b' c' d' p'
same_results make a b c d a' b' c' d' p p' ea eb ec ed ep = cc

same_frames : (r s : ℕ) (f g : Frame) (a b : List ℕ) → r < 2 → s < 2 → Fits f → Fits g → spelling_with r f ++ a ≡ spelling_with s g ++ b → (spelling_with r f ≡ spelling_with s g) × (f ≡ g) × (a ≡ b)
same_frames r s f g a b hr hs p q e =
    let l2 : f.head.length / 65536 % 256 ≡ g.head.length / 65536 % 256 = cc in
    let l1 : f.head.length / 256 % 256 ≡ g.head.length / 256 % 256 = cc in
    let l0 : f.head.length % 256 ≡ g.head.length % 256 = cc in
    let kind : f.head.kind ≡ g.head.kind = cc in
    let flags : f.head.flags ≡ g.head.flags = cc in
    let s3 : (r * 2 ^ 31 + f.head.stream) / 16777216 % 256 ≡ (s * 2 ^ 31 + g.head.stream) / 16777216 % 256 = cc in
    let s2 : (r * 2 ^ 31 + f.head.stream) / 65536 % 256 ≡ (s * 2 ^ 31 + g.head.stream) / 65536 % 256 = cc in
    let s1 : (r * 2 ^ 31 + f.head.stream) / 256 % 256 ≡ (s * 2 ^ 31 + g.head.stream) / 256 % 256 = cc in
    let s0 : (r * 2 ^ 31 + f.head.stream) % 256 ≡ (s * 2 ^ 31 + g.head.stream) % 256 = cc in
    let behind : f.payload ++ a ≡ g.payload ++ b = cc in
    let lens = same_three f.head.length g.head.length p.length_fits q.length_fits l2 l1 l0 in
    let fs = p.stream_fits in
    let gs = q.stream_fits in
    let words = same_four (r * 2 ^ 31 + f.head.stream) (s * 2 ^ 31 + g.head.stream) (omega arith) (omega arith) s3 s2 s1 s0 in
    let streams = same_bit r s f.head.stream g.head.stream p.stream_fits q.stream_fits words in
    let rest = same_fronts f.payload g.payload a b (p.payload_length ∙ lens ∙ sym q.payload_length) behind in
    let same : f ≡ g = same_results made _ _ _ _ _ _ _ _ _ _ lens kind flags streams.1 rest.0 in
    (ap (λ (k : ℕ). spelling_with k f) streams.0 ∙ ap (λ (h : Frame). spelling_with s h) same, same, rest.1)

-- octets that begin with frames, and are equal, begin with one frame
pub alike : (x y a b : List ℕ) (f g : Frame) → Spells x f → Spells y g → x ++ a ≡ y ++ b → (x ≡ y) × (f ≡ g) × (a ≡ b)
alike x y a b f g p q e =
    let spelled : spelling_with p.reserved f ++ a ≡ spelling_with q.reserved g ++ b = ap (λ (l : List ℕ). l ++ a) (sym p.octets_are) ∙ e ∙ ap (λ (l : List ℕ). l ++ b) q.octets_are in
    let t = same_frames p.reserved q.reserved f g a b p.is_bit q.is_bit p.fits q.fits spelled in
    (p.octets_are ∙ t.0 ∙ sym q.octets_are, t.1, t.2)

-- a frame is no proper prefix of a frame
pub none_more : (x more : List ℕ) (f g : Frame) → Spells x f → Spells (x ++ more) g → more ≡ []
none_more x more f g p q = (alike x (x ++ more) more [] f g p q (sym (append-nil (x ++ more)))).2

-- what begins with a whole frame is no part of one
pub not_part : (max : ℕ) (x a : List ℕ) (f : Frame) → Spells x f → IsPart max (x ++ a) → ⊥
not_part max x a f p q =
    let t = alike x ((x ++ a) ++ q.missing) (a ++ q.missing) [] f q.frame p q.whole (sym (append_assoc x a q.missing) ∙ sym (append-nil ((x ++ a) ++ q.missing))) in
    let none : length (a ++ q.missing) ≡ 0 = ap length t.2 in
    omega (arith, length-append a q.missing, q.some_missing)

-- what is written is spelled
pub spelled : (f : Frame) → Fits f → Spells (spelling f) f
spelled f fits = record { reserved = 0; is_bit = omega arith; octets_are = refl; fits = fits }

pub read_again : (max : ℕ) (f : Frame) (after : List ℕ) → Fits f → f.head.length ≤ max
    → StandsFirst max (spelling f ++ after) f.head (9 + f.head.length)
    × (slice_range (spelling f ++ after) 9 (9 + f.head.length) ≡ f.payload)
    × (drop (9 + f.head.length) (spelling f ++ after) ≡ after)
read_again max f after fits le =
    let len : length (spelling f) ≡ 9 + f.head.length = omega (arith, fits.payload_length) in
    let payload : slice_range (spelling f ++ after) 9 (9 + f.head.length) ≡ f.payload = take_at f.payload after (9 + f.head.length - 9) (omega (arith, fits.payload_length)) in
    let front : take (9 + f.head.length) (spelling f ++ after) ≡ spelling f = take_at (spelling f) after (9 + f.head.length) len in (
      record {
        size = refl;
        within = omega (arith, length-append (spelling f) after);
        frame = subst (λ (x : List ℕ). Spells x (frame_of f.head (slice_range (spelling f ++ after) 9 (9 + f.head.length)))) (sym front) (subst (λ (x : List ℕ). Spells (spelling f) (frame_of f.head x)) (sym payload) (spelled f fits));
        allowed = le;
      },
      payload,
      drop_at (spelling f) after (9 + f.head.length) len,
    )

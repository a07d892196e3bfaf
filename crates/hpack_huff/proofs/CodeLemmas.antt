-- The canonical code: what its tables say, and that no code begins another.
use Rattle.std.proofs.Common.{◌≡◌, ℕ, zero, suc, ◌+◌, ◌-◌, ◌*◌, ◌/◌, ◌%◌, ◌^◌, ◌<◌, ◌≤◌, ◌==◌, Bool, true, ◌&&◌, nat_lt, nat_le, List, ◌++◌, length, map, slice_index, refl, sym, ap, ◌∙◌, subst, ◌⊎◌, ⊎_elim, arith}
use Rattle.std.specs.List.{range_with_len, list_all}
use Rattle.std.proofs.lemmas.Bool.{and_parts, cases_lt, cases_order, leb-true, ltb-true, eqb-true}
use Rattle.std.proofs.lemmas.List.{append_assoc}
use Rattle.std.proofs.lemmas.List.FromFn.{get_or-map-range_with_len}
use Rattle.std.proofs.lemmas.Nat.{shr_split, shr-shr, shl-shr, shr_below, shl_below, mod_below, pow_pos, mul-le, le-div, div_below}
use Rattle.std.proofs.Math.Nat.{pow-succ', mul_assoc}
use Rattle.hpack_huff.specs.Bits.{bits_of}
use Rattle.hpack_huff.specs.Code.{code_lengths, code_length, codes_with, first_code, rank, code_value, code_of}
use Rattle.hpack_huff.specs.inner.Window.{IsFirst, IsShort, HasRank, limit}
use Rattle.hpack_huff.specs.declared.table.TheConstants.{SYMBOLS, FIRST, LIMITS, PLACES, SHORT_SYMBOLS, SHORT_LENGTHS}
use Rattle.hpack_huff.proofs.BitsLemmas.{length-bits_of, bits_of-split, bits_of-injective, append-same_length, append-front}

-- what is tested of a range holds at each of its numbers
pub passes : (test : ℕ → Bool) (n a : ℕ) → list_all test (range_with_len a n) ≡ true → (k : ℕ) → a ≤ k → k < a + n → test k ≡ true
passes test zero a h k low high = absurd (omega arith)
passes test (suc n) a h k low high =
    let parts = and_parts (test a) (list_all test (range_with_len (a + 1) n)) h in
    ⊎_elim (λ (later : a < k). passes test n (a + 1) parts.1 k (omega arith) (omega arith))
    (λ (here : k ≤ a). let e : a ≡ k = omega arith in subst (λ j. test j ≡ true) e parts.0)
    (cases_lt a k)

-- the place in the list of all symbols, of the i-th whose code has n bits
abbrev pub place : ℕ → ℕ → ℕ
place n i = i + slice_index PLACES n

-- tests of what the tables say of a symbol
long_enough : ℕ → Bool
long_enough s = nat_le 5 (code_length s)

short_enough : ℕ → Bool
short_enough s = nat_le (code_length s) 30

low_enough : ℕ → Bool
low_enough s = nat_lt (rank s) (codes_with (code_length s))

fits : ℕ → Bool
fits s = nat_lt (code_value s) (2 ^ code_length s)

listed : ℕ → Bool
listed s = slice_index SYMBOLS (place (code_length s) (rank s)) == s

knows : ℕ → Bool
knows s = long_enough s && (short_enough s && (low_enough s && (fits s && listed s)))

knows_all : list_all knows (range_with_len 0 257) ≡ true
unfolding knows long_enough short_enough low_enough fits listed code_value code_length code_lengths first_code rank codes_with
knows_all = refl

pub record Known (s : ℕ) : Type 0 where
  pub least : 5 ≤ code_length s
  pub most : code_length s ≤ 30
  pub low : rank s < codes_with (code_length s)
  pub value_fits : code_value s < 2 ^ code_length s
  pub is_listed : slice_index SYMBOLS (place (code_length s) (rank s)) ≡ s

pub known : (s : ℕ) → s < 257 → Known s
unfolding knows long_enough short_enough low_enough fits listed
known s h =
    let all = passes knows 257 0 knows_all s (omega arith) (omega arith) in
    let p = and_parts (long_enough s) (short_enough s && (low_enough s && (fits s && listed s))) all in
    let q = and_parts (short_enough s) (low_enough s && (fits s && listed s)) p.1 in
    let r = and_parts (low_enough s) (fits s && listed s) q.1 in
    let t = and_parts (fits s) (listed s) r.1 in
    record {
      least = leb-true 5 (code_length s) p.0;
      most = leb-true (code_length s) 30 q.0;
      low = ltb-true (rank s) (codes_with (code_length s)) r.0;
      value_fits = ltb-true (code_value s) (2 ^ code_length s) t.0;
      is_listed = eqb-true (slice_index SYMBOLS (place (code_length s) (rank s))) s t.1;
    }

-- a test of the list of all symbols, at the i-th whose code has n bits
right_length : ℕ → ℕ → Bool
right_length n i = code_length (slice_index SYMBOLS (place n i)) == n

right_rank : ℕ → ℕ → Bool
right_rank n i = rank (slice_index SYMBOLS (place n i)) == i

right_symbol : ℕ → ℕ → Bool
right_symbol n i = nat_lt (slice_index SYMBOLS (place n i)) 257

right_place : ℕ → ℕ → Bool
right_place n i = nat_lt (place n i) 257

right : ℕ → ℕ → Bool
right n i = right_length n i && (right_rank n i && (right_symbol n i && right_place n i))

right_from : ℕ → Bool
right_from n = list_all (right n) (range_with_len 0 (codes_with n))

right_all : list_all right_from (range_with_len 0 31) ≡ true
unfolding right_from right right_length right_rank right_symbol right_place code_length code_lengths rank codes_with
right_all = refl

-- what stands in the list of all symbols
pub has_rank : (n i : ℕ) → n < 31 → i < codes_with n → HasRank (slice_index SYMBOLS (place n i)) n i
unfolding right_from right right_length right_rank right_symbol
has_rank n i h low =
    let of_length = passes right_from 31 0 right_all n (omega arith) (omega arith) in
    let all = passes (right n) (codes_with n) 0 of_length i (omega arith) (omega arith) in
    let p = and_parts (right_length n i) (right_rank n i && (right_symbol n i && right_place n i)) all in
    let q = and_parts (right_rank n i) (right_symbol n i && right_place n i) p.1 in
    let r = and_parts (right_symbol n i) (right_place n i) q.1 in
    record {
      is_symbol = ltb-true (slice_index SYMBOLS (place n i)) 257 r.0;
      count_is = eqb-true (code_length (slice_index SYMBOLS (place n i))) n p.0;
      rank_is = eqb-true (rank (slice_index SYMBOLS (place n i))) i q.0;
    }

pub place_within : (n i : ℕ) → n < 31 → i < codes_with n → place n i < 257
unfolding right_from right right_place
place_within n i h low =
    let of_length = passes right_from 31 0 right_all n (omega arith) (omega arith) in
    let all = passes (right n) (codes_with n) 0 of_length i (omega arith) (omega arith) in
    let p = and_parts (right_length n i) (right_rank n i && (right_symbol n i && right_place n i)) all in
    let q = and_parts (right_rank n i) (right_symbol n i && right_place n i) p.1 in
    let r = and_parts (right_symbol n i) (right_place n i) q.1 in
    ltb-true (place n i) 257 r.1

limits_are : LIMITS ≡ map limit (range_with_len 0 31)
unfolding limit first_code codes_with code_lengths
limits_are = refl

first_are : FIRST ≡ map first_code (range_with_len 0 31)
unfolding first_code codes_with code_lengths
first_are = refl

pub limits_at : (n : ℕ) → n < 31 → slice_index LIMITS n ≡ limit n
limits_at n h = ap (λ t. slice_index t n) limits_are ∙ get_or-map-range_with_len limit 0 31 n n 0 h (omega arith)

pub first_at : (n : ℕ) → n < 31 → slice_index FIRST n ≡ first_code n
first_at n h = ap (λ t. slice_index t n) first_are ∙ get_or-map-range_with_len first_code 0 31 n n 0 h (omega arith)

-- the codes fill the tree: above the longest there is nothing left
pub limit_last : limit 30 ≡ 2 ^ 40
unfolding limit first_code codes_with code_lengths
limit_last = refl

-- the codes of the next length begin where those of this length end
pub limit_next : (n : ℕ) → n < 40 → limit n ≡ first_code (suc n) * 2 ^ (40 - suc n)
unfolding limit first_code
limit_next n h =
    let shorter : 40 - n ≡ suc (40 - suc n) = omega arith in
    let power : 2 ^ (40 - n) ≡ 2 * 2 ^ (40 - suc n) = ap (λ k. 2 ^ k) shorter ∙ pow-succ' 2 (40 - suc n) in
    ap (λ p. (first_code n + codes_with n) * p) power ∙ sym (mul_assoc (first_code n + codes_with n) 2 (2 ^ (40 - suc n)))

pub first_below : (n : ℕ) → first_code n * 2 ^ (40 - n) ≤ limit n
unfolding limit
first_below n = mul-le (first_code n) (2 ^ (40 - n)) (first_code n + codes_with n) (2 ^ (40 - n)) (omega arith) (omega arith)

-- all codes of m bits are below those of more
pub limit_below : (m n : ℕ) → m < n → n ≤ 40 → limit m ≤ first_code n * 2 ^ (40 - n)
limit_below m zero h k = absurd (omega arith)
limit_below m (suc n) h k =
    let next = limit_next n (omega arith) in
    ⊎_elim
    (λ (shorter : m < n).
    let before = limit_below m n shorter (omega arith) in
    let here : first_code n * 2 ^ (40 - n) ≤ limit n = first_below n in
    omega arith)
    (λ (last : n ≤ m). let e : m ≡ n = omega arith in let f : limit m ≡ limit n = ap limit e in omega arith)
    (cases_lt m n)

-- where a window stands that begins with a code of n bits
above : (w s n : ℕ) → IsFirst w s n → first_code n * 2 ^ (40 - n) ≤ w
unfolding code_value
above w s n h =
    let p = 2 ^ (40 - n) in
    let same : first_code (code_length s) ≡ first_code n = ap first_code (sym h.count_is) in
    let value = h.value_is in
    let low : first_code n ≤ w / p = omega arith in
    let split = shr_split w (40 - n) in
    let most = mul-le (first_code n) p (w / p) p low (omega arith) in
    omega arith

below : (w s n : ℕ) → IsFirst w s n → w < limit n
unfolding code_value limit
below w s n h =
    let p = 2 ^ (40 - n) in
    let k = known s h.is_symbol in
    let same : first_code (code_length s) ≡ first_code n = ap first_code (sym h.count_is) in
    let with : codes_with (code_length s) ≡ codes_with n = ap codes_with (sym h.count_is) in
    let value = h.value_is in
    let low = k.low in
    let high : w / p + 1 ≤ first_code n + codes_with n = omega arith in
    let split = shr_split w (40 - n) in
    let part : w % p < p = mod_below w p (pow_pos (40 - n)) in
    let most : (w / p + 1) * p ≤ (first_code n + codes_with n) * p = mul-le (w / p + 1) p (first_code n + codes_with n) p high (omega arith) in
    let more : (w / p + 1) * p ≡ w / p * p + p = omega arith in
    omega arith

-- one window begins with one code
pub same_first : (w a b m n : ℕ) → IsFirst w a m → IsFirst w b n → a ≡ b
unfolding code_value
same_first w a b m n f g =
    let ka = known a f.is_symbol in
    let kb = known b g.is_symbol in
    let fa = above w a m f in
    let fb = below w a m f in
    let ga = above w b n g in
    let gb = below w b n g in
    let ca = f.count_is in
    let cb = g.count_is in
    let la = ka.most in
    let lb = kb.most in
    ⊎_elim
    (λ (same : m ≡ n).
    let lengths : code_length a ≡ code_length b = cc in
    let firsts : first_code (code_length a) ≡ first_code (code_length b) = ap first_code lengths in
    let values : w / 2 ^ (40 - m) ≡ w / 2 ^ (40 - n) = ap (λ k. w / 2 ^ (40 - k)) same in
    let va = f.value_is in
    let vb = g.value_is in
    let ranks : rank a ≡ rank b = omega arith in
    let at : slice_index SYMBOLS (place (code_length a) (rank a)) ≡ slice_index SYMBOLS (place (code_length b) (rank b)) =
    ap (λ k. slice_index SYMBOLS (place k (rank a))) lengths ∙ ap (λ r. slice_index SYMBOLS (place (code_length b) r)) ranks in
    sym ka.is_listed ∙ at ∙ kb.is_listed)
    (λ (other : (m < n) ⊎ (n < m)).
    ⊎_elim
    (λ (shorter : m < n). let apart = limit_below m n shorter (omega arith) in absurd (omega arith))
    (λ (longer : n < m). let apart = limit_below n m longer (omega arith) in absurd (omega arith))
    other)
    (cases_order m n)

-- ---- the search by length

-- a window above all codes of n bits has a longer code
pub limit_step : (n w : ℕ) → n ≤ 30 → limit n ≤ w → w < 2 ^ 40 → (n + 1 ≤ 30) × (first_code (n + 1) * 2 ^ (40 - (n + 1)) ≤ w)
limit_step n w h low high =
    let shorter : n < 30 =
    ⊎_elim (λ (below : n < 30). below)
    (λ (above : 30 ≤ n).
    let e : n ≡ 30 = omega arith in
    let same : limit n ≡ 2 ^ 40 = ap limit e ∙ limit_last in
    absurd (omega arith))
    (cases_lt n 30) in
    let next = limit_next n (omega arith) in
    let more : suc n ≡ n + 1 = omega arith in
    let moved : first_code (suc n) * 2 ^ (40 - suc n) ≡ first_code (n + 1) * 2 ^ (40 - (n + 1)) = ap (λ m. first_code m * 2 ^ (40 - m)) more in
    (omega arith, omega arith)

pub rank_low : (w n : ℕ) → first_code n * 2 ^ (40 - n) ≤ w → w < limit n
    → (first_code n ≤ w / 2 ^ (40 - n)) × (w / 2 ^ (40 - n) - first_code n < codes_with n)
unfolding limit
rank_low w n low high =
    let p = 2 ^ (40 - n) in
    let positive : 0 < p = pow_pos (40 - n) in
    let at_least : first_code n ≤ w / p = le-div (first_code n) w p positive low in
    let at_most : w / p < first_code n + codes_with n = div_below w p (first_code n + codes_with n) positive high in
    (at_least, omega arith)

pub first-from_rank : (w n s : ℕ) → first_code n ≤ w / 2 ^ (40 - n) → HasRank s n (w / 2 ^ (40 - n) - first_code n) → IsFirst w s n
unfolding code_value
first-from_rank w n s low r =
    let length_is = r.count_is in
    let rank_is = r.rank_is in
    let firsts : first_code (code_length s) ≡ first_code n = ap first_code length_is in
    record { is_symbol = r.is_symbol; count_is = sym length_is; value_is = omega arith }

-- ---- the search by the first 8 bits

short_symbol : ℕ → Bool
short_symbol t = nat_lt (slice_index SHORT_SYMBOLS t) 257

short_length : ℕ → Bool
short_length t = slice_index SHORT_LENGTHS t == code_length (slice_index SHORT_SYMBOLS t)

short_count : ℕ → Bool
short_count t = nat_le (slice_index SHORT_LENGTHS t) 8

short_value : ℕ → Bool
short_value t = t / 2 ^ (8 - slice_index SHORT_LENGTHS t) == code_value (slice_index SHORT_SYMBOLS t)

short_right : ℕ → Bool
short_right t = short_symbol t && (short_length t && (short_count t && short_value t))

short_all : list_all short_right (range_with_len 0 254) ≡ true
unfolding short_right short_symbol short_length short_count short_value code_value code_length code_lengths first_code rank codes_with
short_all = refl

pub short_at : (t : ℕ) → t < 254 → IsShort t (slice_index SHORT_SYMBOLS t) (slice_index SHORT_LENGTHS t)
unfolding short_right short_symbol short_length short_count short_value
short_at t h =
    let all = passes short_right 254 0 short_all t (omega arith) (omega arith) in
    let p = and_parts (short_symbol t) (short_length t && (short_count t && short_value t)) all in
    let q = and_parts (short_length t) (short_count t && short_value t) p.1 in
    let r = and_parts (short_count t) (short_value t) q.1 in
    record {
      is_symbol = ltb-true (slice_index SHORT_SYMBOLS t) 257 p.0;
      count_is = eqb-true (slice_index SHORT_LENGTHS t) (code_length (slice_index SHORT_SYMBOLS t)) q.0;
      short = leb-true (slice_index SHORT_LENGTHS t) 8 r.0;
      value_is = eqb-true (t / 2 ^ (8 - slice_index SHORT_LENGTHS t)) (code_value (slice_index SHORT_SYMBOLS t)) r.1;
    }

pub first-from_short : (w s n : ℕ) → IsShort (w / 2 ^ 32) s n → IsFirst w s n
first-from_short w s n h =
    let short = h.short in
    let places : 40 - n ≡ 32 + (8 - n) = omega arith in
    record {
      is_symbol = h.is_symbol;
      count_is = h.count_is;
      value_is = ap (λ k. w / 2 ^ k) places ∙ sym (shr-shr w 32 (8 - n)) ∙ h.value_is;
    }

-- the codes of 10 bits begin above those of 8
pub first_code_10 : first_code 10 ≡ 1016
unfolding first_code codes_with code_lengths
first_code_10 = refl

pub long_from_top : (w : ℕ) → 254 ≤ w / 2 ^ 32 → first_code 10 * 2 ^ 30 ≤ w
long_from_top w h =
    let split = shr_split w 32 in
    let e = first_code_10 in
    omega arith

-- ---- the same of bits

pub bits-from_first : (w s n : ℕ) → IsFirst w s n → bits_of 40 w ≡ code_of s ++ bits_of (40 - n) w
unfolding code_of
bits-from_first w s n h =
    let k = known s h.is_symbol in
    let most = k.most in
    let count = h.count_is in
    let whole : 40 ≡ n + (40 - n) = omega arith in
    bits_of-split n 40 (40 - n) w whole
    ∙ ap (λ v. bits_of n v ++ bits_of (40 - n) w) h.value_is
    ∙ ap (λ m. bits_of m (code_value s) ++ bits_of (40 - n) w) count

pub first-from_bits : (w s : ℕ) (rest : List Bool) → s < 257 → w < 2 ^ 40 → bits_of 40 w ≡ code_of s ++ rest → IsFirst w s (code_length s)
unfolding code_of
first-from_bits w s rest h fits e =
    let k = known s h in
    let n = code_length s in
    let most = k.most in
    let whole : 40 ≡ n + (40 - n) = omega arith in
    let split = bits_of-split n 40 (40 - n) w whole in
    let la = length-bits_of n (w / 2 ^ (40 - n)) in
    let lb = length-bits_of n (code_value s) in
    let fronts = append-same_length (bits_of n (w / 2 ^ (40 - n))) (bits_of n (code_value s)) (bits_of (40 - n) w) rest (la ∙ sym lb) (sym split ∙ e) in
    let fits_n : w < 2 ^ (n + (40 - n)) = subst (λ m. w < 2 ^ m) whole fits in
    let short : w / 2 ^ (40 - n) < 2 ^ n = shr_below w n (40 - n) fits_n in
    record {
      is_symbol = h;
      count_is = refl;
      value_is = bits_of-injective n (w / 2 ^ (40 - n)) (code_value s) short k.value_fits fronts.0;
    }

pub length-code_of : (s : ℕ) → length (code_of s) ≡ code_length s
unfolding code_of
length-code_of s = length-bits_of (code_length s) (code_value s)

-- the code of b in a window, with zeros after it
padded : ℕ → ℕ
padded b = code_value b * 2 ^ (40 - code_length b)

padded_first : (b : ℕ) → b < 257 → (padded b < 2 ^ 40) × IsFirst (padded b) b (code_length b)
unfolding padded
padded_first b h =
    let k = known b h in
    let n = code_length b in
    let most = k.most in
    let whole : n + (40 - n) ≡ 40 = omega arith in (
      subst (λ m. padded b < 2 ^ m) whole (shl_below (code_value b) n (40 - n) k.value_fits),
      record { is_symbol = h; count_is = refl; value_is = shl-shr (code_value b) (40 - n) },
    )

same_ordered : (a b : ℕ) (x y : List Bool) → a < 257 → b < 257 → code_length a ≤ code_length b → code_of a ++ x ≡ code_of b ++ y → a ≡ b
same_ordered a b x y ha hb le e =
    let la = length-code_of a in
    let lb = length-code_of b in
    let front = append-front (code_of a) (code_of b) x y (omega arith) e in
    let p = padded_first b hb in
    let w = padded b in
    let whole = bits-from_first w b (code_length b) p.1 in
    let again : bits_of 40 w ≡ code_of a ++ (front.0 ++ bits_of (40 - code_length b) w) =
    whole ∙ ap (λ bs. bs ++ bits_of (40 - code_length b) w) front.1
    ∙ append_assoc (code_of a) front.0 (bits_of (40 - code_length b) w) in
    same_first w a b (code_length a) (code_length b) (first-from_bits w a _ ha p.0 again) p.1

-- no code begins another
pub same_symbol : (a b : ℕ) (x y : List Bool) → a < 257 → b < 257 → code_of a ++ x ≡ code_of b ++ y → a ≡ b
same_symbol a b x y ha hb e =
    ⊎_elim (λ (shorter : code_length a < code_length b). same_ordered a b x y ha hb (omega arith) e)
    (λ (longer : code_length b ≤ code_length a). sym (same_ordered b a y x hb ha longer (sym e)))
    (cases_lt (code_length a) (code_length b))

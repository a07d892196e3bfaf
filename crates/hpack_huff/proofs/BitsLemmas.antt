-- Numbers as bits.
use Rattle.std.proofs.Common.{◌≡◌, ℕ, zero, suc, ◌+◌, ◌-◌, ◌*◌, ◌/◌, ◌%◌, ◌^◌, ◌<◌, ◌≤◌, ◌==◌, Bool, true, List, [], ◌∷◌, ◌++◌, length, replicate, refl, sym, ap, ◌∙◌, subst, ⊎_elim, arith, zero-add}
use Rattle.std.specs.Int.{bit_at}
use Rattle.std.proofs.lemmas.Nat.{shr-shr, shr_split, shr_high}
use Rattle.std.proofs.lemmas.Nat.Bits.{bit_at_cat_low, bit_at-lt, same_from_bits_below, bit_at_ones}
use Rattle.std.proofs.lemmas.Bool.{cases_lt}
use Rattle.std.proofs.lemmas.Bool.Decides.{nat_tests}
use Rattle.std.proofs.lemmas.List.{append-nil}
use Rattle.std.proofs.lemmas.List.Concat.{flat_map-append}
use Rattle.hpack_huff.specs.Bits.{bits_of, octet_bits}

pub length-bits_of : (n v : ℕ) → length (bits_of n v) ≡ n
unfolding bits_of
length-bits_of zero v = refl
length-bits_of (suc n) v = ap suc (length-bits_of n v)

-- the higher bits, and then the lower
pub bits_of-split : (i n j v : ℕ) → n ≡ i + j → bits_of n v ≡ bits_of i (v / 2 ^ j) ++ bits_of j v
unfolding bits_of
bits_of-split zero n j v e = ap (λ m. bits_of m v) (e ∙ zero-add j)
bits_of-split (suc i) zero j v e = absurd (omega arith)
bits_of-split (suc i) (suc n) j v e =
    let r : n ≡ i + j = omega arith in
    let turned : n ≡ j + i = omega arith in
    let head : bit_at v n ≡ bit_at (v / 2 ^ j) i =
    ap (λ m. v / 2 ^ m % 2) turned ∙ ap (λ m. m % 2) (sym (shr-shr v j i)) in
    let rest = bits_of-split i n j v r in
    cc

-- higher bits do not matter
pub bits_of-low : (n k v w : ℕ) → n ≤ k → bits_of n (v * 2 ^ k + w) ≡ bits_of n w
unfolding bits_of
bits_of-low zero k v w h = refl
bits_of-low (suc n) k v w h =
    let below : n < k = omega arith in
    let within : n ≤ k = omega arith in
    let head = bit_at_cat_low v k w n below in
    let rest = bits_of-low n k v w within in
    cc

pub bits_of-mod : (n v : ℕ) → bits_of n (v % 2 ^ n) ≡ bits_of n v
bits_of-mod n v =
    let within : n ≤ n = omega arith in
    sym (bits_of-low n n (v / 2 ^ n) (v % 2 ^ n) within) ∙ ap (bits_of n) (shr_split v n)

same_bit : (x y : ℕ) → x < 2 → y < 2 → (x == 1) ≡ (y == 1) → x ≡ y
same_bit x y p q e = grind (arith, nat_tests)

bits_same : (n a b : ℕ) → bits_of n a ≡ bits_of n b → (i : ℕ) → i < n → bit_at a i ≡ bit_at b i
unfolding bits_of
bits_same zero a b e i h = absurd (omega arith)
bits_same (suc n) a b e i h =
    let head : (bit_at a n == 1) ≡ (bit_at b n == 1) = cc in
    let rest : bits_of n a ≡ bits_of n b = cc in
    let top = same_bit _ _ (bit_at-lt a n) (bit_at-lt b n) head in
    ⊎_elim (λ (low : i < n). bits_same n a b rest i low)
    (λ (high : n ≤ i). let here : n ≡ i = omega arith in subst (λ k. bit_at a k ≡ bit_at b k) here top)
    (cases_lt i n)

-- numbers of n bits with the same bits are the same
pub bits_of-injective : (n a b : ℕ) → a < 2 ^ n → b < 2 ^ n → bits_of n a ≡ bits_of n b → a ≡ b
bits_of-injective n a b p q e = same_from_bits_below n a b p q (bits_same n a b e)

-- an octet after other bits
pub bits_of-cat : (n v octet : ℕ) → octet < 2 ^ 8 → bits_of (n + 8) (v * 2 ^ 8 + octet) ≡ bits_of n v ++ bits_of 8 octet
bits_of-cat n v octet h =
    let whole = bits_of-split n (n + 8) 8 (v * 2 ^ 8 + octet) refl in
    let high = shr_high v 8 octet h in
    let low = bits_of-low 8 8 v octet (omega arith) in
    cc

-- all ones
pub bits_of-ones : (m k : ℕ) → m ≤ k → bits_of m (2 ^ k - 1) ≡ replicate m true
unfolding bits_of
bits_of-ones zero k h = refl
bits_of-ones (suc m) k h =
    let below : m < k = omega arith in
    let within : m ≤ k = omega arith in
    let head : (bit_at (2 ^ k - 1) m == 1) ≡ true = ap (λ b. b == 1) (bit_at_ones k m below) in
    let rest = bits_of-ones m k within in
    cc

-- one octet more
pub octet_bits-push : (octets : List ℕ) (octet : ℕ) → octet_bits (octets ++ octet ∷ []) ≡ octet_bits octets ++ bits_of 8 octet
unfolding octet_bits
octet_bits-push octets octet =
    flat_map-append (bits_of 8) octets (octet ∷ []) ∙ ap (λ bs. octet_bits octets ++ bs) (append-nil (bits_of 8 octet))

pub octet_bits-append : (xs ys : List ℕ) → octet_bits (xs ++ ys) ≡ octet_bits xs ++ octet_bits ys
unfolding octet_bits
octet_bits-append xs ys = flat_map-append (bits_of 8) xs ys

-- two lists that are cut at one place
pub append-same_length : (a b x y : List Bool) → length a ≡ length b → a ++ x ≡ b ++ y → (a ≡ b) × (x ≡ y)
append-same_length [] [] x y l e = (refl, e)
append-same_length [] (c ∷ b) x y l e = absurd (omega arith)
append-same_length (c ∷ a) [] x y l e = absurd (omega arith)
append-same_length (c ∷ a) (d ∷ b) x y l e =
    let shorter : length a ≡ length b = omega arith in
    let heads : c ≡ d = cc in
    let tails : a ++ x ≡ b ++ y = cc in
    let rest = append-same_length a b x y shorter tails in
    (let f = rest.0 in cc, rest.1)

-- of two fronts of one list, the longer begins with the shorter
pub append-front : (a b x y : List Bool) → length a ≤ length b → a ++ x ≡ b ++ y → (u : List Bool) × (b ≡ a ++ u)
append-front [] b x y l e = (b, refl)
append-front (c ∷ a) [] x y l e = absurd (omega arith)
append-front (c ∷ a) (d ∷ b) x y l e =
    let shorter : length a ≤ length b = omega arith in
    let heads : c ≡ d = cc in
    let tails : a ++ x ≡ b ++ y = cc in
    let rest = append-front a b x y shorter tails in
    (rest.0, (let f = rest.1 in cc))

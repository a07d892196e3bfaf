-- Pending bits as a number and a count.
use Rattle.std.proofs.Common.{◌≡◌, ℕ, ◌+◌, ◌-◌, ◌*◌, ◌/◌, ◌%◌, ◌^◌, ◌<◌, ◌≤◌, true, ◌++◌, length, replicate, sym, ap, ◌∙◌, subst, arith}
use Rattle.std.specs.Prelude.{bit_and}
use Rattle.std.proofs.lemmas.List.{append_assoc, length-append}
use Rattle.std.proofs.lemmas.Nat.{shl_whole, shl_below, shl-shr, shr-shr, pow-add, pow_pos, one_shl, and_mask, mod_below}
use Rattle.hpack_huff.specs.Bits.{bits_of}
use Rattle.hpack_huff.specs.Code.{code_of, code_length, code_value}
use Rattle.hpack_huff.specs.Huffman.{IsPadding}
use Rattle.hpack_huff.specs.inner.Taken.{IsUnfinished}
use Rattle.hpack_huff.specs.inner.Window.{IsFirst}
use Rattle.hpack_huff.proofs.BitsLemmas.{length-bits_of, bits_of-split, bits_of-mod, bits_of-injective, bits_of-cat, bits_of-ones}
use Rattle.hpack_huff.proofs.CodeLemmas.{known, bits-from_first, same_symbol, length-code_of}

-- ---- an octet is added

pub pushed_fits : (v n octet : ℕ) → v < 2 ^ n → n ≤ 32 → octet < 256 → v * 256 % 2 ^ 64 + octet < 2 ^ (n + 8)
pushed_fits v n octet h k low =
    let whole : v * 256 % 2 ^ 64 ≡ v * 256 = shl_whole v n 8 64 h (omega arith) in
    let power : 2 ^ (n + 8) ≡ 2 ^ n * 256 = pow-add 2 n 8 in
    omega arith

pub pushed_bits : (v n octet : ℕ) → v < 2 ^ n → n ≤ 32 → octet < 256
    → bits_of (n + 8) (v * 256 % 2 ^ 64 + octet) ≡ bits_of n v ++ bits_of 8 octet
pushed_bits v n octet h k low =
    let whole : v * 256 % 2 ^ 64 ≡ v * 256 = shl_whole v n 8 64 h (omega arith) in
    ap (λ m. bits_of (n + 8) (m + octet)) whole ∙ bits_of-cat n v octet low

-- ---- the window

-- the bits, and zeros after them
pub window_of : ℕ → ℕ → ℕ
window_of v n = v * 2 ^ (40 - n)

pub window_is : (v n : ℕ) → v < 2 ^ n → n ≤ 40 → v * 2 ^ (40 - n) % 2 ^ 64 ≡ window_of v n
unfolding window_of
window_is v n h k = shl_whole v n (40 - n) 64 h (omega arith)

pub window_fits : (v n : ℕ) → v < 2 ^ n → n ≤ 40 → window_of v n < 2 ^ 40
unfolding window_of
window_fits v n h k =
    let whole : n + (40 - n) ≡ 40 = omega arith in
    subst (λ m. v * 2 ^ (40 - n) < 2 ^ m) whole (shl_below v n (40 - n) h)

window_bits : (v n : ℕ) → n ≤ 40 → bits_of 40 (window_of v n) ≡ bits_of n v ++ bits_of (40 - n) (window_of v n)
unfolding window_of
window_bits v n k =
    let whole : 40 ≡ n + (40 - n) = omega arith in
    bits_of-split n 40 (40 - n) (v * 2 ^ (40 - n)) whole
    ∙ ap (λ m. bits_of n m ++ bits_of (40 - n) (v * 2 ^ (40 - n))) (shl-shr v (40 - n))

-- the code that the window begins with is longer than the bits
pub unfinished : (v n s m : ℕ) → n ≤ 40 → IsFirst (window_of v n) s m → n < m → IsUnfinished (bits_of n v)
unfinished v n s m k h short =
    let w = window_of v n in
    let knows = known s h.is_symbol in
    let most = knows.most in
    let count = h.count_is in
    let long = length-bits_of n v in
    record {
      few = omega arith;
      none = λ symbol rest low e.
          let mine = bits-from_first w s m h in
          let other : bits_of 40 w ≡ code_of symbol ++ (rest ++ bits_of (40 - n) w) =
          window_bits v n k ∙ ap (λ bs. bs ++ bits_of (40 - n) w) e ∙ append_assoc (code_of symbol) rest (bits_of (40 - n) w) in
          let same = same_symbol symbol s (rest ++ bits_of (40 - n) w) (bits_of (40 - m) w) (omega arith) h.is_symbol (sym other ∙ mine) in
          let whole : n ≡ code_length symbol + length rest =
          sym long ∙ ap length e ∙ length-append (code_of symbol) rest ∙ ap (λ j. j + length rest) (length-code_of symbol) in
          let lengths : code_length symbol ≡ code_length s = ap code_length same in
          omega arith;
    }

-- ---- a code is taken

pub masked : (v k : ℕ) → k ≤ 40 → bit_and v (1 * 2 ^ k % 2 ^ 64 - 1) ≡ v % 2 ^ k
masked v k h = ap (λ m. bit_and v (m - 1)) (one_shl k 64 (omega arith)) ∙ and_mask v k

pub masked_fits : (v k : ℕ) → k ≤ 40 → bit_and v (1 * 2 ^ k % 2 ^ 64 - 1) < 2 ^ k
masked_fits v k h =
    let low = mod_below v (2 ^ k) (pow_pos k) in
    let e = masked v k h in
    omega arith

pub taken_bits : (v n s m : ℕ) → n ≤ 40 → IsFirst (window_of v n) s m → m ≤ n
    → bits_of n v ≡ code_of s ++ bits_of (n - m) (bit_and v (1 * 2 ^ (n - m) % 2 ^ 64 - 1))
unfolding window_of code_of
taken_bits v n s m k h fits =
    let rest = n - m in
    let whole : n ≡ m + rest = omega arith in
    let within : rest ≤ 40 = omega arith in
    let places : 40 - m ≡ (40 - n) + rest = omega arith in
    let w = v * 2 ^ (40 - n) in
    let top : v / 2 ^ rest ≡ w / 2 ^ (40 - m) =
    ap (λ j. j / 2 ^ rest) (sym (shl-shr v (40 - n))) ∙ shr-shr w (40 - n) rest ∙ ap (λ j. w / 2 ^ j) (sym places) in
    bits_of-split m n rest v whole
    ∙ ap (λ j. bits_of m j ++ bits_of rest v) (top ∙ h.value_is)
    ∙ ap (λ j. bits_of j (code_value s) ++ bits_of rest v) h.count_is
    ∙ ap (λ bs. bits_of (code_length s) (code_value s) ++ bs) (sym (bits_of-mod rest v) ∙ ap (bits_of rest) (sym (masked v rest within)))

-- ---- padding

ones_fit : (n : ℕ) → 2 ^ n - 1 < 2 ^ n
ones_fit n = omega (arith, pow_pos n)

pub padding_from_ones : (v n : ℕ) → n ≤ 7 → v ≡ 1 * 2 ^ n % 2 ^ 64 - 1 → IsPadding (bits_of n v)
padding_from_ones v n h e =
    let ones : v ≡ 2 ^ n - 1 = e ∙ ap (λ m. m - 1) (one_shl n 64 (omega arith)) in
    let long = length-bits_of n v in
    record {
      few = omega arith;
      ones = ap (bits_of n) ones ∙ bits_of-ones n n (omega arith) ∙ ap (λ m. replicate m true) (sym long);
    }

pub ones_from_padding : (v n : ℕ) → v < 2 ^ n → n ≤ 7 → IsPadding (bits_of n v) → v ≡ 1 * 2 ^ n % 2 ^ 64 - 1
ones_from_padding v n fits h p =
    let long = length-bits_of n v in
    let same : bits_of n v ≡ bits_of n (2 ^ n - 1) =
    p.ones ∙ ap (λ m. replicate m true) long ∙ sym (bits_of-ones n n (omega arith)) in
    bits_of-injective n v (2 ^ n - 1) fits (ones_fit n) same ∙ ap (λ m. m - 1) (sym (one_shl n 64 (omega arith)))

pub few_from_padding : (v n : ℕ) → IsPadding (bits_of n v) → n ≤ 7
few_from_padding v n p = let long = length-bits_of n v in let few = p.few in omega arith

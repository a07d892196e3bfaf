-- The strings that stand for decimals are those that spell one.
use Rattle.std.proofs.Common.{◌≡◌, ℕ, ◌+◌, ◌<◌, List, [], ◌∷◌, ◌++◌, Bool, true, false, cond, not, ◌&&◌, ltb, leb, eqb, length, take, drop, refl, sym, ap, ◌∙◌, subst, IsTrue, ℤ, Option, Some, None, IfSome, IfNone, get_or, arith}
use Rattle.std.specs.List.{before_first, after_first, position_or_len}
use Rattle.std.specs.Char.{digit_value}
use Rattle.std.specs.Fmt.{sign_text}
use Rattle.std.specs.Str.{bytes_eq}
use Rattle.std.specs.Str.Parse.{AllDigits, starts_with_minus}
use Rattle.std.proofs.lemmas.Bool.{and_parts, and_from, cond-true, lt-ltb, ltb-true, leb-true, le-leb, not_from_false, ne_eqb}
use Rattle.std.proofs.lemmas.Slice.Eq.{bytes_eq-Decides}
use Rattle.std.proofs.lemmas.List.{drop-drop}
use Rattle.base_kinds.specs.Values.{fits_signed}
use Rattle.plain_texts.proofs.Decimals.{left_out}
use Rattle.value_core.specs.Decimals.{IsDecimal, point_text, is_point, are_digits, is_decimal, decimal_value, decimal_if, unsigned_part, decimal_of}
use Rattle.plain_texts.specs.Splits.{lacks, IsCut}
use Rattle.value_core.specs.laws.Texts.{DecimalsByFunction}
use Rattle.plain_texts.proofs.Cuts.{cut_there, same_parts}
use Rattle.value_core.proofs.Cuts.{at_point}
use Rattle.value_core.proofs.IntegersRead.{same_texts, no_minus, let_through}

digits_from : (octets : List ℕ) → are_digits octets ≡ true → AllDigits 10 octets
digits_from [] h = tt
digits_from (x ∷ xs) h =
    let parts = and_parts (ltb (digit_value x) 10) (are_digits xs) h in
    (ltb-true (digit_value x) 10 parts.0, digits_from xs parts.1)

digits_to : (octets : List ℕ) → AllDigits 10 octets → are_digits octets ≡ true
digits_to [] h = refl
digits_to (x ∷ xs) h = and_from (ltb (digit_value x) 10) (are_digits xs) (lt-ltb (digit_value x) 10 h.0) (digits_to xs h.1)

six_parts : (a b c d e f : Bool) → (a && b && c && d && e && f) ≡ true → (a ≡ true) × ((b ≡ true) × ((c ≡ true) × ((d ≡ true) × ((e ≡ true) × (f ≡ true)))))
six_parts a b c d e f h =
    let p = and_parts (a && b && c && d && e) f h in
    let q = and_parts (a && b && c && d) e p.0 in
    let r = and_parts (a && b && c) d q.0 in
    let s = and_parts (a && b) c r.0 in
    let t = and_parts a b s.0 in
    (t.0, (t.1, (s.1, (r.1, (q.1, p.1)))))

six_from : (a b c d e f : Bool) → a ≡ true → b ≡ true → c ≡ true → d ≡ true → e ≡ true → f ≡ true → (a && b && c && d && e && f) ≡ true
six_from a b c d e f ha hb hc hd he hf = and_from (a && b && c && d && e) f (and_from (a && b && c && d) e (and_from (a && b && c) d (and_from (a && b) c (and_from a b ha hb) hc) hd) he) hf

abbrev spelling : Bool → List ℕ → List ℕ → List ℕ
spelling negative whole behind = sign_text negative ++ (whole ++ point_text behind)

spelled_decimal : (places : ℕ) (text : List ℕ) (negative : Bool) (whole behind : List ℕ) → is_decimal places text negative whole behind ≡ true → IsDecimal places text (decimal_value places negative whole behind)
spelled_decimal places text negative whole behind h =
    let parts = six_parts (bytes_eq text (spelling negative whole behind)) (ltb 0 (length whole)) (are_digits whole) (are_digits behind) (leb (length behind) places) (fits_signed 64 (decimal_value places negative whole behind)) h in
    record {
      negative = negative;
      whole = whole;
      behind = behind;
      spelled = (bytes_eq-Decides text (spelling negative whole behind)).0 parts.0;
      some = ltb-true 0 (length whole) parts.1.0;
      whole_digits = digits_from whole parts.1.1.0;
      behind_digits = digits_from behind parts.1.1.1.0;
      few = leb-true (length behind) places parts.1.1.1.1.0;
      meaning = refl;
      held = parts.1.1.1.1.1;
    }

tested : (places : ℕ) (text : List ℕ) (digits : ℤ) (is : IsDecimal places text digits) → is_decimal places text is.negative is.whole is.behind ≡ true
tested places text digits is =
    six_from (bytes_eq text (spelling is.negative is.whole is.behind)) (ltb 0 (length is.whole)) (are_digits is.whole) (are_digits is.behind) (leb (length is.behind) places) (fits_signed 64 (decimal_value places is.negative is.whole is.behind))
    (same_texts text (spelling is.negative is.whole is.behind) is.spelled)
    (lt-ltb 0 (length is.whole) is.some)
    (digits_to is.whole is.whole_digits)
    (digits_to is.behind is.behind_digits)
    (le-leb (length is.behind) places is.few)
    (subst (λ z. IsTrue (fits_signed 64 z)) is.meaning is.held)

no_point : digit_value 46 < 10 → ⊥
no_point h = omega (arith, h)

digits_lack_point : (octets : List ℕ) → AllDigits 10 octets → IsTrue (lacks 46 octets)
digits_lack_point [] h = refl
digits_lack_point (x ∷ xs) h =
    and_from (not (eqb x 46)) (lacks 46 xs) (not_from_false (eqb x 46) (ne_eqb x 46 (λ e. no_point (subst (λ y. digit_value y < 10) e h.0)))) (digits_lack_point xs h.1)

unsigned_at : (unsigned : List ℕ) (minus : Bool) → eqb (get_or unsigned 0 0) 45 ≡ minus → minus ≡ false → (starts_with_minus unsigned ≡ false) × (unsigned_part unsigned ≡ unsigned)
unsigned_at unsigned minus is off =
    let none : eqb (get_or unsigned 0 0) 45 ≡ false = is ∙ off in
    (none, ap (λ m. drop (cond m 1 0) unsigned) none)

first_of : (whole rest : List ℕ) → 0 < length whole → AllDigits 10 whole → eqb (get_or (whole ++ rest) 0 0) 45 ≡ false
first_of [] rest some all = absurd (omega arith)
first_of (x ∷ xs) rest some all = ne_eqb x 45 (λ e. no_minus (subst (λ y. digit_value y < 10) e all.0))

signed_at : (negative : Bool) (whole rest : List ℕ) → 0 < length whole → AllDigits 10 whole → (starts_with_minus (sign_text negative ++ (whole ++ rest)) ≡ negative) × (unsigned_part (sign_text negative ++ (whole ++ rest)) ≡ whole ++ rest)
signed_at true whole rest some all = (refl, refl)
signed_at false whole rest some all = unsigned_at (whole ++ rest) false (first_of whole rest some all) refl

one_behind : (behind : List ℕ) → drop 1 (point_text behind) ≡ behind
one_behind [] = refl
one_behind (x ∷ xs) = refl

behind_cut : (n : ℕ) (octets behind : List ℕ) → point_text behind ≡ drop n octets → drop (n + 1) octets ≡ behind
behind_cut n octets behind e = sym (drop-drop 1 n octets) ∙ ap (λ r. drop 1 r) (sym e) ∙ one_behind behind

cut_at : (whole behind : List ℕ) → AllDigits 10 whole → (before_first is_point (whole ++ point_text behind) ≡ whole) × (after_first is_point (whole ++ point_text behind) ≡ behind)
cut_at whole behind all =
    let octets = whole ++ point_text behind in
    let n = position_or_len is_point octets in
    let cut : IsCut 46 octets (take n octets) (drop n octets) = cut_there 46 octets in
    let same = same_parts 46 whole (point_text behind) (take n octets) (drop n octets) cut.whole (digits_lack_point whole all) (at_point behind) cut.lacking cut.begins in
    (sym same.0, behind_cut n octets behind same.1)

pub decimal_read : (places : ℕ) (text : List ℕ) (digits : ℤ) → IsDecimal places text digits → decimal_of places text ≡ Some digits
unfolding decimal_of
decimal_read places text digits is =
    let signs = signed_at is.negative is.whole (point_text is.behind) is.some is.whole_digits in
    let cuts = cut_at is.whole is.behind is.whole_digits in
    let unsigned : unsigned_part text ≡ is.whole ++ point_text is.behind = ap unsigned_part is.spelled ∙ signs.1 in
    let negative : starts_with_minus text ≡ is.negative = ap starts_with_minus is.spelled ∙ signs.0 in
    let whole : before_first is_point (unsigned_part text) ≡ is.whole = ap (before_first is_point) unsigned ∙ cuts.0 in
    let behind : after_first is_point (unsigned_part text) ≡ is.behind = ap (after_first is_point) unsigned ∙ cuts.1 in
    ap (λ n. decimal_if places text n (before_first is_point (unsigned_part text)) (after_first is_point (unsigned_part text))) negative
    ∙ ap (λ w. decimal_if places text is.negative w (after_first is_point (unsigned_part text))) whole
    ∙ ap (λ b. decimal_if places text is.negative is.whole b) behind
    ∙ cond-true (is_decimal places text is.negative is.whole is.behind) (Some (decimal_value places is.negative is.whole is.behind)) None (tested places text digits is)
    ∙ ap (λ z. Some z) (sym is.meaning)

pub decimal_refused : (places : ℕ) (text : List ℕ) → ((digits : ℤ) → IsDecimal places text digits → ⊥) → decimal_of places text ≡ None
unfolding decimal_of
decimal_refused places text none =
    let negative = starts_with_minus text in
    let whole = before_first is_point (unsigned_part text) in
    let behind = after_first is_point (unsigned_part text) in
    left_out (is_decimal places text negative whole behind) (decimal_value places negative whole behind) (λ h. none (decimal_value places negative whole behind) (spelled_decimal places text negative whole behind h))

pub decimal_is : (places : ℕ) (text : List ℕ) (read : Option ℤ) → IfSome read (λ digits. IsDecimal places text digits) → IfNone read ((digits : ℤ) → IsDecimal places text digits → ⊥) → read ≡ decimal_of places text
decimal_is places text (Some digits) is none = sym (decimal_read places text digits is)
decimal_is places text None is none = sym (decimal_refused places text none)

pub decimals_by_function : DecimalsByFunction
unfolding decimal_of
decimals_by_function places text digits = (there, decimal_read places text digits)
  where
    there : decimal_of places text ≡ Some digits → IsDecimal places text digits
    there is =
        let negative = starts_with_minus text in
        let whole = before_first is_point (unsigned_part text) in
        let behind = after_first is_point (unsigned_part text) in
        let through = let_through (is_decimal places text negative whole behind) (decimal_value places negative whole behind) digits is in
        subst (λ d. IsDecimal places text d) through.1 (spelled_decimal places text negative whole behind through.0)

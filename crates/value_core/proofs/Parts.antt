-- What the parts of octets say of the decimal that they spell.
use Rattle.std.proofs.Common.{◌≡◌, ℕ, ◌-◌, ◌<◌, ◌≤◌, ◌^◌, List, [], ◌∷◌, ◌++◌, Bool, true, false, not, eqb, length, replicate, sym, ap, subst, refl, ◌∙◌, ℤ, IsTrue, arith}
use Rattle.std.specs.Char.{digit_value}
use Rattle.std.specs.Fmt.{sign_text}
use Rattle.std.specs.Str.Parse.{AllDigits, digits_value, digits_value_after}
use Rattle.std.proofs.lemmas.Bool.{and_from, not_from_false, ne_eqb}
use Rattle.base_kinds.specs.Values.{fits_signed}
use Rattle.value_core.specs.Decimals.{signed, filled, point_text, IsDecimal}
use Rattle.plain_texts.specs.Splits.{lacks}
use Rattle.value_core.specs.inner.Cuts.{HasParts}
use Rattle.value_core.proofs.Cuts.{one_cut}
use Rattle.value_core.proofs.Digits.{value_append, value_ge}
use Rattle.value_core.proofs.Ranges.{held_small}

-- the octets with these parts are this decimal
pub record Means (places : ℕ) (negative : Bool) (whole behind : List ℕ) (digits : ℤ) : Type 0 where
  pub some : 0 < length whole
  pub whole_digits : AllDigits 10 whole
  pub behind_digits : AllDigits 10 behind
  pub few : length behind ≤ places
  pub meaning : digits ≡ signed negative (digits_value 10 (whole ++ filled places behind))
  pub held : IsTrue (fits_signed 64 digits)

not_point : (octet : ℕ) → digit_value octet < 10 → octet ≡ 46 → ⊥
not_point octet digit e =
    let point = subst (λ o. digit_value o < 10) e digit in
    absurd (omega (arith, point))

digits_lack : (digits : List ℕ) → AllDigits 10 digits → IsTrue (lacks 46 digits)
digits_lack [] all = refl
digits_lack (d ∷ ds) all = and_from (not (eqb d 46)) (lacks 46 ds) (not_from_false (eqb d 46) (ne_eqb d 46 (not_point d all.0))) (digits_lack ds all.1)

digits_signless : (digits after rest : List ℕ) → 0 < length digits → AllDigits 10 digits → digits ++ after ≡ 45 ∷ rest → ⊥
digits_signless [] after rest some all e = absurd (omega arith)
digits_signless (d ∷ ds) after rest some all e =
    let same : d ≡ 45 = cc in
    let minus = subst (λ o. digit_value o < 10) same all.0 in
    absurd (omega (arith, minus))

no_sign_of : (negative : Bool) (octets digits after : List ℕ) → 0 < length digits → AllDigits 10 digits → octets ≡ sign_text negative ++ (digits ++ after) → negative ≡ false → (rest : List ℕ) → octets ≡ 45 ∷ rest → ⊥
no_sign_of true octets digits after some all is e rest f = absurd (cc)
no_sign_of false octets digits after some all is e rest f = digits_signless digits after rest some all (sym is ∙ f)

pub cut_of : (places : ℕ) (octets : List ℕ) (digits : ℤ) (d : IsDecimal places octets digits) → HasParts octets d.negative d.whole d.behind
cut_of places octets digits d = record {
  spelled = d.spelled;
  lacking = digits_lack d.whole d.whole_digits;
  signless = no_sign_of d.negative octets d.whole (point_text d.behind) d.some d.whole_digits d.spelled;
}

pub means : (places : ℕ) (octets : List ℕ) (negative : Bool) (whole behind : List ℕ) (digits : ℤ) → HasParts octets negative whole behind → IsDecimal places octets digits → Means places negative whole behind digits
means places octets negative whole behind digits cut d =
    let same = one_cut octets d.negative negative d.whole d.behind whole behind (cut_of places octets digits d) cut in
    let own : Means places d.negative d.whole d.behind digits = record { some = d.some; whole_digits = d.whole_digits; behind_digits = d.behind_digits; few = d.few; meaning = d.meaning; held = d.held } in
    subst (λ b. Means places negative whole b digits) same.1.1
    (subst (λ w. Means places negative w d.behind digits) same.1.0
    (subst (λ n. Means places n d.whole d.behind digits) same.0 own))

pub decimal_from : (places : ℕ) (octets : List ℕ) (negative : Bool) (whole behind : List ℕ) (digits : ℤ) → HasParts octets negative whole behind → Means places negative whole behind digits → IsDecimal places octets digits
decimal_from places octets negative whole behind digits cut m = record {
  negative = negative;
  whole = whole;
  behind = behind;
  spelled = cut.spelled;
  some = m.some;
  whole_digits = m.whole_digits;
  behind_digits = m.behind_digits;
  few = m.few;
  meaning = m.meaning;
  held = m.held;
}

pub one_decimal : (places : ℕ) (octets : List ℕ) (a b : ℤ) → IsDecimal places octets a → IsDecimal places octets b → a ≡ b
one_decimal places octets a b d e = d.meaning ∙ sym (means places octets d.negative d.whole d.behind b (cut_of places octets a d) e).meaning

-- the number of all digits, part by part
pub value_parts : (places : ℕ) (whole behind : List ℕ) → digits_value 10 (whole ++ filled places behind) ≡ digits_value_after 10 (digits_value_after 10 (digits_value_after 10 0 whole) behind) (replicate (places - length behind) 48)
value_parts places whole behind =
    value_append 0 whole (behind ++ replicate (places - length behind) 48)
    ∙ value_append (digits_value_after 10 0 whole) behind (replicate (places - length behind) 48)

reach : (a b c : ℕ) → a ≤ b → b ≤ c → a ≤ c
reach a b c h k = omega arith

crossed : (v : ℕ) → 2 ^ 64 ≤ v → v < 2 ^ 64 → ⊥
crossed v h k = omega arith

small_value : (places : ℕ) (negative : Bool) (whole behind : List ℕ) (digits : ℤ) → Means places negative whole behind digits → digits_value_after 10 (digits_value_after 10 (digits_value_after 10 0 whole) behind) (replicate (places - length behind) 48) < 2 ^ 64
small_value places negative whole behind digits m =
    subst (λ v. v < 2 ^ 64) (value_parts places whole behind) (held_small negative (digits_value 10 (whole ++ filled places behind)) (subst (λ z. IsTrue (fits_signed 64 z)) m.meaning m.held))

pub no_whole : (places : ℕ) (negative : Bool) (whole behind : List ℕ) → (AllDigits 10 whole → 2 ^ 64 ≤ digits_value_after 10 0 whole) → (digits : ℤ) → Means places negative whole behind digits → ⊥
no_whole places negative whole behind large digits m =
    let v = digits_value_after 10 0 whole in
    let w = digits_value_after 10 v behind in
    crossed _ (reach (2 ^ 64) w _ (reach (2 ^ 64) v w (large m.whole_digits) (value_ge v behind)) (value_ge w (replicate (places - length behind) 48))) (small_value places negative whole behind digits m)

pub no_behind : (places : ℕ) (negative : Bool) (whole behind : List ℕ) (front : ℕ) → front ≡ digits_value_after 10 0 whole → (AllDigits 10 behind → 2 ^ 64 ≤ digits_value_after 10 front behind) → (digits : ℤ) → Means places negative whole behind digits → ⊥
no_behind places negative whole behind front is large digits m =
    let w = digits_value_after 10 (digits_value_after 10 0 whole) behind in
    crossed _ (reach (2 ^ 64) w _ (subst (λ f. 2 ^ 64 ≤ digits_value_after 10 f behind) is (large m.behind_digits)) (value_ge w (replicate (places - length behind) 48))) (small_value places negative whole behind digits m)

pub no_zeros : (places zeros : ℕ) (negative : Bool) (whole behind : List ℕ) (front next : ℕ) → zeros ≡ places - length behind → front ≡ digits_value_after 10 0 whole → next ≡ digits_value_after 10 front behind → 2 ^ 64 ≤ digits_value_after 10 next (replicate zeros 48) → (digits : ℤ) → Means places negative whole behind digits → ⊥
no_zeros places zeros negative whole behind front next count is is' large digits m =
    crossed _ (subst (λ v. 2 ^ 64 ≤ v) (same_number places zeros whole behind front next count is is') large) (small_value places negative whole behind digits m)
  where
    same_number : (places zeros : ℕ) (whole behind : List ℕ) (front next : ℕ) → zeros ≡ places - length behind → front ≡ digits_value_after 10 0 whole → next ≡ digits_value_after 10 front behind → digits_value_after 10 next (replicate zeros 48) ≡ digits_value_after 10 (digits_value_after 10 (digits_value_after 10 0 whole) behind) (replicate (places - length behind) 48)
    same_number places zeros whole behind front next count is is' =
        ap (λ k. digits_value_after 10 next (replicate k 48)) count
        ∙ ap (λ n. digits_value_after 10 n (replicate (places - length behind) 48)) (is' ∙ ap (λ f. digits_value_after 10 f behind) is)

-- the number that was read is that of all digits
pub whole_number : (places zeros : ℕ) (whole behind : List ℕ) (front next number : ℕ) → zeros ≡ places - length behind → front ≡ digits_value_after 10 0 whole → next ≡ digits_value_after 10 front behind → number ≡ digits_value_after 10 next (replicate zeros 48) → number ≡ digits_value 10 (whole ++ filled places behind)
whole_number places zeros whole behind front next number count is is' value =
    value ∙ ap (λ k. digits_value_after 10 next (replicate k 48)) count
    ∙ ap (λ n. digits_value_after 10 n (replicate (places - length behind) 48)) (is' ∙ ap (λ f. digits_value_after 10 f behind) is)
    ∙ sym (value_parts places whole behind)

pub no_sign : (places : ℕ) (negative : Bool) (whole behind : List ℕ) (number : ℕ) → number ≡ digits_value 10 (whole ++ filled places behind) → (IsTrue (fits_signed 64 (signed negative number)) → ⊥) → (digits : ℤ) → Means places negative whole behind digits → ⊥
no_sign places negative whole behind number value none digits m =
    none (subst (λ z. IsTrue (fits_signed 64 z)) (m.meaning ∙ ap (signed negative) (sym value)) m.held)

pub read_so : (places : ℕ) (negative : Bool) (whole behind : List ℕ) (number : ℕ) (digits : ℤ) → 0 < length whole → length behind ≤ places → AllDigits 10 whole → AllDigits 10 behind → number ≡ digits_value 10 (whole ++ filled places behind) → digits ≡ signed negative number → IsTrue (fits_signed 64 digits) → Means places negative whole behind digits
read_so places negative whole behind number digits some few all all' value is held = record {
  some = some;
  whole_digits = all;
  behind_digits = all';
  few = few;
  meaning = is ∙ ap (signed negative) value;
  held = held;
}

pub uncut : (places : ℕ) (octets : List ℕ) → ((negative : Bool) (whole behind : List ℕ) → HasParts octets negative whole behind → ⊥) → (digits : ℤ) → IsDecimal places octets digits → ⊥
uncut places octets none digits d = none d.negative d.whole d.behind (cut_of places octets digits d)

pub meaningless : (places : ℕ) (octets : List ℕ) (negative : Bool) (whole behind : List ℕ) → HasParts octets negative whole behind → ((digits : ℤ) → Means places negative whole behind digits → ⊥) → (digits : ℤ) → IsDecimal places octets digits → ⊥
meaningless places octets negative whole behind cut none digits d = none digits (means places octets negative whole behind digits cut d)

pub some_from : (octets : List ℕ) → eqb (length octets) 0 ≡ false → 0 < length octets
some_from [] e = absurd (cc)
some_from (x ∷ xs) e = omega arith

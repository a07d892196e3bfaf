-- Single numbers that are written, and what a message of two holds.
use Rattle.std.proofs.Common.{◌≡◌, ℕ, zero, suc, ◌+◌, ◌^◌, ◌<◌, ◌≤◌, true, false, eqb, List, [], ◌∷◌, ◌++◌, length, None, refl, ap, ◌∙◌, arith, append-nil, lit≤}
use Rattle.std.specs.Prelude.{unwrap_or}
use Rattle.std.specs.List.{last_or}
use Rattle.std.proofs.lemmas.List.{length-append}
use Rattle.pb_wire.specs.Varint.{shortest}
use Rattle.pb_wire.specs.Values.{varints}
use Rattle.pb_wire.proofs.WritingLemmas.{IsVarint-shortest}
use Rattle.pb_message.specs.Fields.{all_fields, is_message}
use Rattle.pb_message.proofs.Repeated.{empty_fields, empty_passes}
use Rattle.pb_message.proofs.Written.{message_appended, numbers_appended, varint_passes, numbers_here, numbers_elsewhere}
use Rattle.gnmi_data_msg.specs.Writing.{number_field}

abbrev pub number_list : ℕ → List ℕ
number_list zero = []
number_list (suc n) = suc n ∷ []

pub number_passes : (number n : ℕ) → 1 ≤ number → number ≤ 15 → n < 2 ^ 64 → is_message (number_field number n) ≡ true
number_passes number zero low high fits = empty_passes
number_passes number (suc n) low high fits = varint_passes number (suc n) low high fits

pub number_there : (number n : ℕ) → 1 ≤ number → number ≤ 15 → n < 2 ^ 64 → varints number (all_fields (number_field number n)) ≡ number_list n
number_there number zero low high fits = ap (varints number) empty_fields
number_there number (suc n) low high fits = numbers_here number (suc n) low high fits

pub number_not_there : (other number n : ℕ) → 1 ≤ number → number ≤ 15 → n < 2 ^ 64 → eqb number other ≡ false → varints other (all_fields (number_field number n)) ≡ []
number_not_there other number zero low high fits differ = ap (varints other) empty_fields
number_not_there other number (suc n) low high fits differ = numbers_elsewhere other number (suc n) low high fits differ

pub last_number : (n : ℕ) → unwrap_or (last_or None (number_list n)) 0 ≡ n
last_number zero = refl
last_number (suc n) = refl

pub number_short : (number n : ℕ) → n < 2 ^ 64 → length (number_field number n) ≤ 11
number_short number zero fits = lit≤ tt
number_short number (suc n) fits =
    let v = IsVarint-shortest (suc n) fits in
    let all : length (number_field number (suc n)) ≡ suc (length (shortest (suc n))) = refl in
    omega (arith, all, v.short)

-- two of them, under two numbers
abbrev pub pair_message : ℕ → ℕ → ℕ → ℕ → List ℕ
pair_message one other first second = number_field one first ++ number_field other second

pub record Pair (one other first second : ℕ) : Type 0 where
  pub passes : is_message (pair_message one other first second) ≡ true
  pub first_is : varints one (all_fields (pair_message one other first second)) ≡ number_list first
  pub second_is : varints other (all_fields (pair_message one other first second)) ≡ number_list second
  pub short : length (pair_message one other first second) ≤ 22

pub pair_there : (one other first second : ℕ) → 1 ≤ one → one ≤ 15 → 1 ≤ other → other ≤ 15 → eqb one other ≡ false → eqb other one ≡ false
    → first < 2 ^ 64 → second < 2 ^ 64 → Pair one other first second
pair_there one other first second low1 high1 low2 high2 differ1 differ2 f s =
    let a : List ℕ = number_field one first in
    let b : List ℕ = number_field other second in
    let is_a : is_message a ≡ true = number_passes one first low1 high1 f in
    let is_b : is_message b ≡ true = number_passes other second low2 high2 s in
    let sum : length (a ++ b) ≡ length a + length b = length-append a b in
    record {
      passes = message_appended a b is_a is_b;
      first_is = numbers_appended one a b is_a is_b
          ∙ ap (λ (ns : List ℕ). ns ++ varints one (all_fields b)) (number_there one first low1 high1 f)
          ∙ ap (λ (ns : List ℕ). number_list first ++ ns) (number_not_there one other second low2 high2 s differ2)
          ∙ append-nil (number_list first);
      second_is = numbers_appended other a b is_a is_b
          ∙ ap (λ (ns : List ℕ). ns ++ varints other (all_fields b)) (number_not_there other one first low1 high1 f differ1)
          ∙ number_there other second low2 high2 s;
      short = omega (arith, sum, number_short one first f, number_short other second s);
    }

-- What written octets say under each number.
use Rattle.std.proofs.Common.{◌≡◌, ℕ, zero, suc, ◌+◌, ◌^◌, ◌<◌, ◌≤◌, Bool, true, false, cond, eqb, List, [], ◌∷◌, ◌++◌, length, Option, Some, None, refl, sym, ap, ◌∙◌, subst, arith, append-nil, lit≤}
use Rattle.std.specs.Prelude.{map}
use Rattle.std.specs.List.{AllByRecursion, cons_option}
use Rattle.std.proofs.lemmas.Bool.{eqb-true, eq-eqb}
use Rattle.std.proofs.lemmas.List.{length-append}
use Rattle.pb_wire.specs.declared.field.Field.{Field}
use Rattle.pb_wire.specs.Varint.{shortest}
use Rattle.pb_wire.specs.Writing.{octets_field}
use Rattle.pb_wire.specs.Values.{varints, occurrences}
use Rattle.pb_message.specs.Fields.{all_fields, is_message}
use Rattle.pb_message.specs.Values.{pieces_under}
use Rattle.pb_message.proofs.Repeated.{empty_fields, empty_passes, empty_pieces}
use Rattle.pb_message.proofs.Written.{message_appended, pieces_appended, numbers_appended, octets_fields, octets_pass, pieces_here, pieces_elsewhere, pieces_of_varint}
use Rattle.gnmi_data_msg.specs.Writing.{text_field, number_field, message_fields}
use Rattle.gnmi_data_msg.proofs.Single.{number_list, number_passes, number_there, number_not_there}

-- the octets are a message that holds these numbers and these octets under each number
pub record Says (octets : List ℕ) (numbers : ℕ → List ℕ) (pieces : ℕ → List (List ℕ)) : Type 0 where
  pub is : is_message octets ≡ true
  pub numbers_are : (n : ℕ) → varints n (all_fields octets) ≡ numbers n
  pub pieces_are : (n : ℕ) → pieces_under n octets ≡ pieces n

abbrev pub no_numbers : ℕ → List ℕ
no_numbers n = []

abbrev pub no_pieces : ℕ → List (List ℕ)
no_pieces n = []

-- under one number alone
abbrev pub only : {A : Type 0} → ℕ → List A → ℕ → List A
only number held n = cond (eqb number n) held []

pub nothing : Says [] no_numbers no_pieces
nothing = record {
  is = empty_passes;
  numbers_are = λ n. ap (varints n) empty_fields;
  pieces_are = empty_pieces;
}

pub joined : {a b : List ℕ} {m n : ℕ → List ℕ} {p q : ℕ → List (List ℕ)} → Says a m p → Says b n q
    → Says (a ++ b) (λ k. m k ++ n k) (λ k. p k ++ q k)
joined {a} {b} {m} {n} {p} {q} x y = record {
  is = message_appended a b x.is y.is;
  numbers_are = λ k.
      numbers_appended k a b x.is y.is
      ∙ ap (λ (found : List ℕ). found ++ varints k (all_fields b)) (x.numbers_are k)
      ∙ ap (λ (found : List ℕ). m k ++ found) (y.numbers_are k);
  pieces_are = λ k.
      pieces_appended k a b x.is y.is
      ∙ ap (λ (found : List (List ℕ)). found ++ pieces_under k b) (x.pieces_are k)
      ∙ ap (λ (found : List (List ℕ)). p k ++ found) (y.pieces_are k);
}

pub said_as : {a : List ℕ} {m n : ℕ → List ℕ} {p q : ℕ → List (List ℕ)} → Says a m p
    → ((k : ℕ) → m k ≡ n k) → ((k : ℕ) → p k ≡ q k) → Says a n q
said_as x numbers pieces = record {
  is = x.is;
  numbers_are = λ k. x.numbers_are k ∙ numbers k;
  pieces_are = λ k. x.pieces_are k ∙ pieces k;
}

none_there : {A : Type 0} (number n : ℕ) → ◌≡◌ {A = List A} [] (only number [] n)
none_there {A} number n = by (eqb number n)
  where
    by : (b : Bool) → ◌≡◌ {A = List A} [] (cond b [] [])
    by true = refl
    by false = refl

-- ---- a field of octets

pub octets_say : (number : ℕ) (octets : List ℕ) → 1 ≤ number → number ≤ 15 → length octets < 2 ^ 64
    → Says (octets_field number octets) no_numbers (only number (octets ∷ []))
octets_say number octets low high short = record {
  is = octets_pass number octets low high short;
  numbers_are = λ n. ap (varints n) (octets_fields number octets low high short) ∙ no_number (eqb number n);
  pieces_are = λ n. at n (eqb number n) refl;
}
  where
    no_number : (b : Bool) → ◌≡◌ {A = List ℕ} (cons_option (cond b None None) []) []
    no_number true = refl
    no_number false = refl

    at : (n : ℕ) (test : Bool) → eqb number n ≡ test → pieces_under n (octets_field number octets) ≡ cond (eqb number n) (octets ∷ []) []
    at n true e =
        subst (λ (k : ℕ). pieces_under k (octets_field number octets) ≡ cond (eqb number k) (octets ∷ []) [])
        (eqb-true number n e) (pieces_here number octets low high short ∙ sym (ap (λ (b : Bool). cond b (octets ∷ []) []) (eq-eqb number number refl)))
    at n false e = pieces_elsewhere n number octets low high short e ∙ sym (ap (λ (b : Bool). cond b (octets ∷ []) []) e)

pub messages_say : {A : Type 0} (f : A → List ℕ) (number : ℕ) (items : List A) → 1 ≤ number → number ≤ 15
    → AllByRecursion (λ item. length (f item) < 2 ^ 64) items
    → Says (message_fields f number items) no_numbers (only number (map f items))
messages_say f number [] low high short = said_as nothing (λ k. refl) (none_there number)
messages_say {A} f number (item ∷ items) low high short =
    said_as (joined (octets_say number (f item) low high short.0) (messages_say f number items low high short.1))
    (λ k. refl) (λ k. one_more (eqb number k))
  where
    one_more : (b : Bool) → cond b (f item ∷ []) [] ++ cond b (map f items) [] ≡ cond b (f item ∷ map f items) []
    one_more true = refl
    one_more false = refl

-- ---- a field of a number

pub number_says : (number value : ℕ) → 1 ≤ number → number ≤ 15 → value < 2 ^ 64
    → Says (number_field number value) (only number (number_list value)) no_pieces
number_says number value low high fits = record {
  is = number_passes number value low high fits;
  numbers_are = λ n. at n (eqb number n) refl;
  pieces_are = λ n. none value n fits;
}
  where
    at : (n : ℕ) (test : Bool) → eqb number n ≡ test → varints n (all_fields (number_field number value)) ≡ cond (eqb number n) (number_list value) []
    at n true e =
        subst (λ (k : ℕ). varints k (all_fields (number_field number value)) ≡ cond (eqb number k) (number_list value) [])
        (eqb-true number n e) (number_there number value low high fits ∙ sym (ap (λ (b : Bool). cond b (number_list value) []) (eq-eqb number number refl)))
    at n false e = number_not_there n number value low high fits e ∙ sym (ap (λ (b : Bool). cond b (number_list value) []) e)

    none : (value n : ℕ) → value < 2 ^ 64 → pieces_under n (number_field number value) ≡ []
    none zero n fits = empty_pieces n
    none (suc v) n fits = pieces_of_varint n number (suc v) low high fits

-- ---- lengths

pub octets_long : (number : ℕ) (octets : List ℕ) → length octets < length (octets_field number octets)
octets_long number octets =
    let own : length (shortest (length octets) ++ octets) ≡ length (shortest (length octets)) + length octets = length-append (shortest (length octets)) octets in
    let first : length (octets_field number octets) ≡ suc (length (shortest (length octets) ++ octets)) = refl in
    omega (arith, own, first)

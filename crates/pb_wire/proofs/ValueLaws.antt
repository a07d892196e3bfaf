-- What a list of fields holds where octets are put after others, and what a written field holds.
use Rattle.std.proofs.Common.{◌≡◌, ℕ, suc, ◌+◌, ◌-◌, ◌*◌, ◌≤◌, true, List, [], ◌∷◌, ◌++◌, length, take, drop, Option, Some, None, refl, ap, ◌∙◌, arith, cond, eqb, eq-eqb}
use Rattle.std.specs.Prelude.{slice_range}
use Rattle.std.specs.List.{cons_option}
use Rattle.std.proofs.lemmas.List.{take-append-le, drop-append-le, take_all, length-drop}
use Rattle.std.proofs.lemmas.List.Elements.{filter_map-append}
use Rattle.std.proofs.Math.Seq.{drop-append-add}
use Rattle.pb_wire.specs.declared.field.Body.{Body}
use Rattle.pb_wire.specs.declared.field.Body.TheVariants.{Varint, Eight, Octets, Four}
use Rattle.pb_wire.specs.declared.field.Field.{Field}
use Rattle.pb_wire.specs.Varint.{shortest}
use Rattle.pb_wire.specs.Message.{IsWithin, AreWithin}
use Rattle.pb_wire.specs.Writing.{shifted_body, shifted, octets_field, octets_body}
use Rattle.pb_wire.specs.Values.{number_of_body, octets_of_body, varint_in, octets_in, varints, occurrences}

slice_range-left : (a b : List ℕ) (from to : ℕ) → from ≤ to → to ≤ length a → slice_range (a ++ b) from to ≡ slice_range a from to
slice_range-left a b from to first last =
    let rest : from ≤ length a = omega arith in
    let enough : to - from ≤ length (drop from a) = omega (arith, length-drop from a) in
    ap (take (to - from)) (drop-append-le from a b rest) ∙ take-append-le (to - from) (drop from a) b enough

slice_range-right : (a b : List ℕ) (from to : ℕ) → slice_range (a ++ b) (length a + from) (length a + to) ≡ slice_range b from to
slice_range-right a b from to =
    let count : length a + to - (length a + from) ≡ to - from = omega arith in
    ap (λ (n : ℕ). take n (drop (length a + from) (a ++ b))) count ∙ ap (take (to - from)) (drop-append-add a b from)

-- ---- octets

octets_of_body-left : (a b : List ℕ) (body : Body) → IsWithin (length a) body → octets_of_body (a ++ b) body ≡ octets_of_body a body
octets_of_body-left a b (Varint n) is = refl
octets_of_body-left a b (Eight n) is = refl
octets_of_body-left a b (Octets from to) is = ap (λ (s : List ℕ). Some s) (slice_range-left a b from to is.0 is.1)
octets_of_body-left a b (Four n) is = refl

octets_of_body-right : (a b : List ℕ) (body : Body) → octets_of_body (a ++ b) (shifted_body (length a) body) ≡ octets_of_body b body
octets_of_body-right a b (Varint n) = refl
octets_of_body-right a b (Eight n) = refl
octets_of_body-right a b (Octets from to) = ap (λ (s : List ℕ). Some s) (slice_range-right a b from to)
octets_of_body-right a b (Four n) = refl

occurrences-left : (a b : List ℕ) (number : ℕ) (fields : List Field) → AreWithin a fields → occurrences (a ++ b) number fields ≡ occurrences a number fields
occurrences-left a b number [] within = refl
occurrences-left a b number (field ∷ fields) within =
    let here = octets_of_body-left a b field.body (within 0 field (omega arith)) in
    let others = occurrences-left a b number fields (λ k d lt. within (suc k) d (omega arith)) in
    ap (λ (o : Option (List ℕ)). cons_option (cond (eqb field.number number) o None) (occurrences (a ++ b) number fields)) here
    ∙ ap (cons_option (octets_in a number field)) others

occurrences-right : (a b : List ℕ) (number : ℕ) (fields : List Field) → occurrences (a ++ b) number (shifted (length a) fields) ≡ occurrences b number fields
occurrences-right a b number [] = refl
occurrences-right a b number (field ∷ fields) =
    let here = octets_of_body-right a b field.body in
    ap (λ (o : Option (List ℕ)). cons_option (cond (eqb field.number number) o None) (occurrences (a ++ b) number (shifted (length a) fields))) here
    ∙ ap (cons_option (octets_in b number field)) (occurrences-right a b number fields)

pub occurrences-append : (a b : List ℕ) (number : ℕ) (xs ys : List Field) → AreWithin a xs → occurrences (a ++ b) number (xs ++ shifted (length a) ys) ≡ occurrences a number xs ++ occurrences b number ys
occurrences-append a b number xs ys within =
    filter_map-append (octets_in (a ++ b) number) xs (shifted (length a) ys)
    ∙ ap (λ (found : List (List ℕ)). found ++ occurrences (a ++ b) number (shifted (length a) ys)) (occurrences-left a b number xs within)
    ∙ ap (λ (found : List (List ℕ)). occurrences a number xs ++ found) (occurrences-right a b number ys)

-- ---- varints

number_of_body-shifted : (by : ℕ) (body : Body) → number_of_body (shifted_body by body) ≡ number_of_body body
number_of_body-shifted by (Varint n) = refl
number_of_body-shifted by (Eight n) = refl
number_of_body-shifted by (Octets from to) = refl
number_of_body-shifted by (Four n) = refl

varints-shifted : (number by : ℕ) (fields : List Field) → varints number (shifted by fields) ≡ varints number fields
varints-shifted number by [] = refl
varints-shifted number by (field ∷ fields) =
    ap (λ (o : Option ℕ). cons_option (cond (eqb field.number number) o None) (varints number (shifted by fields))) (number_of_body-shifted by field.body)
    ∙ ap (cons_option (varint_in number field)) (varints-shifted number by fields)

pub varints-append : (number by : ℕ) (xs ys : List Field) → varints number (xs ++ shifted by ys) ≡ varints number xs ++ varints number ys
varints-append number by xs ys =
    filter_map-append (varint_in number) xs (shifted by ys) ∙ ap (λ (found : List ℕ). varints number xs ++ found) (varints-shifted number by ys)

-- ---- a written field

pub varints-written : (number value : ℕ) → varints number (record { number = number; body = Varint value } ∷ []) ≡ value ∷ []
varints-written number value = let same : eqb number number ≡ true = eq-eqb number number refl in rw same refl

pub occurrences-written : (number : ℕ) (octets : List ℕ) → occurrences (octets_field number octets) number (record { number = number; body = octets_body octets } ∷ []) ≡ octets ∷ []
occurrences-written number octets =
    let same : eqb number number ≡ true = eq-eqb number number refl in
    rw same (ap (λ (s : List ℕ). s ∷ []) (content_is ((number * 8 + 2) ∷ shortest (length octets)) octets (1 + length (shortest (length octets))) (omega arith)))
  where
    content_is : (front octets : List ℕ) (from : ℕ) → from ≡ length front → slice_range (front ++ octets) from (from + length octets) ≡ octets
    content_is front octets from e =
        let first : from ≡ length front + 0 = omega (arith, e) in
        let last : from + length octets ≡ length front + length octets = omega (arith, e) in
        ap (λ (n : ℕ). slice_range (front ++ octets) n (from + length octets)) first
        ∙ ap (λ (n : ℕ). slice_range (front ++ octets) (length front + 0) n) last
        ∙ slice_range-right front octets 0 (length octets)
        ∙ take_all (length octets - 0) octets (omega arith)

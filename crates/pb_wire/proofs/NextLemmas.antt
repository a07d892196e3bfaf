-- Fields that are read one at a time.
use Rattle.std.proofs.Common.{◌≡◌, ℕ, zero, suc, ◌+◌, ◌-◌, ◌<◌, ◌≤◌, List, [], ◌∷◌, ◌++◌, length, take, drop, Option, Some, None, refl, sym, ap, ◌∙◌, subst, arith}
use Rattle.std.specs.Prelude.{slice_range}
use Rattle.std.proofs.lemmas.List.{length-append, length-take, length-drop, take-append-drop, take_at}
use Rattle.std.proofs.lemmas.Option.{some_pair_parts}
use Rattle.base_lists.specs.SevenBits.{IsMarked}
use Rattle.pb_wire.specs.declared.field.Field.{Field}
use Rattle.pb_wire.specs.Message.{IsField, AreFields, FieldsFrom, IsNextField, IsWithin}
use Rattle.pb_wire.specs.inner.Reading.{field_at}
use Rattle.pb_wire.proofs.FieldLemmas.{field_again, field_takes}
use Rattle.pb_wire.proofs.MessageLemmas.{AreFields-first, IsField-within, field_at-nil}

drop_on : {A : Type 0} (m n : ℕ) (xs : List A) → drop m (drop n xs) ≡ drop (n + m) xs
drop_on m zero xs = let e : m ≡ 0 + m = omega arith in ap (λ (k : ℕ). drop k xs) e
drop_on m (suc n) [] =
    let e : suc n + m ≡ suc (n + m) = omega arith in
    nil m ∙ ap (λ (k : ℕ). drop k []) (sym e)
  where
    nil : {B : Type 0} (m : ℕ) → ◌≡◌ {A = List B} (drop m []) []
    nil zero = refl
    nil (suc m) = refl
drop_on m (suc n) (x ∷ xs) =
    let e : suc n + m ≡ suc (n + m) = omega arith in
    drop_on m n xs ∙ ap (λ (k : ℕ). drop k (x ∷ xs)) (sym e)

-- the octets from the place on are the field's, and those from the next place on
parts_at : (octets : List ℕ) (place : ℕ) (field : Field) (next : ℕ) → IsNextField octets place field next → drop place octets ≡ slice_range octets place next ++ drop next octets
parts_at octets place field next is =
    let later = is.later in
    let sum : place + (next - place) ≡ next = omega arith in
    sym (take-append-drop (next - place) (drop place octets)) ∙ ap (λ (s : List ℕ). slice_range octets place next ++ s) (drop_on (next - place) place octets ∙ ap (λ (n : ℕ). drop n octets) sum)

length_at : (octets : List ℕ) (place : ℕ) (field : Field) (next : ℕ) → IsNextField octets place field next → place + length (slice_range octets place next) ≡ next
length_at octets place field next is =
    let later = is.later in
    let within = is.within in
    omega (arith, length-take (next - place) (drop place octets), length-drop place octets)

drop_all : (xs : List ℕ) → drop (length xs) xs ≡ []
drop_all [] = refl
drop_all (x ∷ xs) = drop_all xs

pub one_more : (octets : List ℕ) (place : ℕ) (field : Field) (next : ℕ) (fields : List Field) → IsNextField octets place field next → FieldsFrom octets next fields → FieldsFrom octets place (field ∷ fields)
one_more octets place field next fields is are = (
  slice_range octets place next,
  drop next octets,
  parts_at octets place field next is,
  is.is_field,
  subst (λ (n : ℕ). AreFields n (drop next octets) fields) (sym (length_at octets place field next is)) are,
)

-- the field is the one that is read there
read_at : (octets : List ℕ) (place : ℕ) (field : Field) (next : ℕ) → IsNextField octets place field next → field_at (length octets) (drop place octets) ≡ Some (field, drop next octets)
read_at octets place field next is =
    let later = is.later in
    let within = is.within in
    let parts = parts_at octets place field next is in
    let sum : place + length (slice_range octets place next ++ drop next octets) ≡ length octets = omega (arith, ap length parts, length-drop place octets) in
    ap (field_at (length octets)) parts ∙ field_again (length octets) place (slice_range octets place next) (drop next octets) field sum is.is_field

pub first_is : (octets : List ℕ) (place : ℕ) (field : Field) (next : ℕ) (fields : List Field) → IsNextField octets place field next → FieldsFrom octets place fields
    → (more : List Field) × (fields ≡ field ∷ more) × FieldsFrom octets next more
first_is octets place field next [] is are =
    let later = is.later in
    let within = is.within in
    absurd (omega (arith, ap length are, length-drop place octets))
first_is octets place field next (other ∷ others) is are =
    let later = is.later in
    let within = is.within in
    let all : place + length (drop place octets) ≡ length octets = omega (arith, length-drop place octets) in
    let first = AreFields-first (length octets) place (drop place octets) other others all are in
    let same = some_pair_parts other field first.0 (drop next octets) (sym first.1 ∙ read_at octets place field next is) in
    let here : length octets - length (drop next octets) ≡ next = omega (arith, length-drop next octets) in (
      others,
      ap (λ (f : Field). f ∷ others) same.0,
      subst (λ (n : ℕ). AreFields n (drop next octets) others) here (subst (λ (s : List ℕ). AreFields (length octets - length s) s others) same.1 first.3),
    )

-- what is read there stands there
pub read_is : (octets : List ℕ) (place : ℕ) (field : Field) (rest : List ℕ) → place ≤ length octets → length rest < length (drop place octets) → field_at (length octets) (drop place octets) ≡ Some (field, rest)
    → IsNextField octets place field (length octets - length rest)
read_is octets place field rest le shorter e =
    let all : place + length (drop place octets) ≡ length octets = omega (arith, length-drop place octets) in
    let t = field_takes (length octets) place (drop place octets) field rest all e in
    let sum : length (drop place octets) ≡ length t.front + length rest = ap length t.parts ∙ length-append t.front rest in
    let size : length t.front ≡ length octets - length rest - place = omega (arith, all, sum) in
    let front : slice_range octets place (length octets - length rest) ≡ t.front = ap (take (length octets - length rest - place)) t.parts ∙ take_at t.front rest (length octets - length rest - place) size in
    record {
      later = omega (arith, all, shorter);
      within = omega arith;
      is_field = subst (λ (s : List ℕ). IsField place s field) (sym front) t.is;
    }

clash : (x : Option (Field × List ℕ)) (y : Field × List ℕ) → x ≡ None → x ≡ Some y → ⊥
clash x y none read = cc

pub none_there : (octets : List ℕ) (place : ℕ) → field_at (length octets) (drop place octets) ≡ None → (field : Field) (next : ℕ) → IsNextField octets place field next → ⊥
none_there octets place none field next is = clash (field_at (length octets) (drop place octets)) (field, drop next octets) none (read_at octets place field next is)

-- where octets are left and no field stands, no fields do
pub no_fields : (octets : List ℕ) (place : ℕ) (fields : List Field) → place < length octets → ((field : Field) (next : ℕ) → IsNextField octets place field next → ⊥) → FieldsFrom octets place fields → ⊥
no_fields octets place [] lt none are = omega (arith, ap length are, length-drop place octets)
no_fields octets place (field ∷ fields) lt none are =
    let parts : drop place octets ≡ are.0 ++ are.1 = are.2 in
    let all : place + length (drop place octets) ≡ length octets = omega (arith, length-drop place octets) in
    let first = AreFields-first (length octets) place (drop place octets) field fields all are in
    let sum : length (drop place octets) ≡ length are.0 + length are.1 = ap length parts ∙ length-append are.0 are.1 in
    some_front are.0 are.3 (omega (arith, all, sum)) (tag_there are.3) (ap (take (place + length are.0 - place)) parts ∙ take_at are.0 are.1 (place + length are.0 - place) (omega arith))
  where
    tag_there : {front : List ℕ} → IsField place front field → 1 ≤ length front
    tag_there {front} is = some is.tag is.body is.is_tag.marked (ap length is.parts ∙ length-append is.tag is.body)
      where
        some : (tag body : List ℕ) → IsMarked tag → length front ≡ length tag + length body → 1 ≤ length front
        some [] body m e = absurd m
        some (b ∷ tag) body m e = omega (arith, e)

    some_front : (front : List ℕ) → IsField place front field → place + length front ≤ length octets → 1 ≤ length front → slice_range octets place (place + length front) ≡ front → ⊥
    some_front front is le some same =
        none field (place + length front) (record { later = omega arith; within = le; is_field = subst (λ (s : List ℕ). IsField place s field) (sym same) is })

pub at_the_end : (octets : List ℕ) (fields : List Field) → FieldsFrom octets (length octets) fields → fields ≡ []
at_the_end octets [] are = refl
at_the_end octets (field ∷ fields) are =
    let all : length octets + length (drop (length octets) octets) ≡ length octets = omega (arith, length-drop (length octets) octets) in
    let first = AreFields-first (length octets) (length octets) (drop (length octets) octets) field fields all are in
    let none : drop (length octets) octets ≡ [] = drop_all octets in
    absurd (clash (field_at (length octets) []) (field, first.0) (field_at-nil (length octets)) (ap (field_at (length octets)) (sym none) ∙ first.1))

pub nothing_left : (octets : List ℕ) → FieldsFrom octets (length octets) []
nothing_left octets = drop_all octets

pub next_within : (octets : List ℕ) (place : ℕ) (field : Field) (next : ℕ) → IsNextField octets place field next → IsWithin (length octets) field.body
next_within octets place field next is =
    let within = is.within in
    IsField-within (length octets) place (slice_range octets place next) field (omega (arith, length_at octets place field next is)) is.is_field

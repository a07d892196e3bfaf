-- Reading the fields of a message one at a time.
use Rattle.std.proofs.Common.{◌≡◌, ℕ, zero, suc, ◌+◌, ◌-◌, ◌<◌, ◌≤◌, List, [], ◌∷◌, ◌++◌, length, take, drop, Option, Some, None, true, refl, sym, ap, ◌∙◌, subst, arith}
use Rattle.std.specs.Prelude.{slice_range, nat_eq, IfSome}
use Rattle.std.proofs.lemmas.Bool.{eqb-true}
use Rattle.std.proofs.lemmas.List.{length-append, length-take, length-drop, take-append-drop}
use Rattle.base_lists.specs.SevenBits.{IsMarked}
use Rattle.pb_wire.specs.declared.field.Field.{Field}
use Rattle.pb_wire.specs.Message.{IsField, AreFields, IsMessage, IsNextField}
use Rattle.pb_wire.proofs.MessageLemmas.{AreFields-nil}
use Rattle.pb_message.specs.Fronts.{front_field}
use Rattle.pb_message.proofs.Fronts.{front_again, front_takes, front_nil, first_front, front_next}
use Rattle.pb_message.specs.Fields.{after_field, read_most, read_from, fields_at, all_fields, is_message}

-- a field has octets
field_some : (place : ℕ) (front : List ℕ) (field : Field) → IsField place front field → 1 ≤ length front
field_some place front field is =
    some is.tag is.body is.is_tag.marked (ap length is.parts ∙ length-append is.tag is.body)
  where
    some : (tag body : List ℕ) → IsMarked tag → length front ≡ length tag + length body → 1 ≤ length front
    some [] body marked sum = absurd marked
    some (t ∷ tag) body marked sum = omega arith

-- so fewer are left behind it
left_fewer : (total : ℕ) (octets : List ℕ) (field : Field) (rest : List ℕ) → length octets ≤ total
    → front_field total octets ≡ Some (field, rest) → length rest < length octets
left_fewer total octets field rest le read =
    let place : ℕ = total - length octets in
    let all : place + length octets ≡ total = omega arith in
    let t = front_takes total place octets field rest all read in
    let some : 1 ≤ length t.front = field_some place t.front field t.is in
    let sum : length octets ≡ length t.front + length rest = ap length t.parts ∙ length-append t.front rest in
    omega (arith, some, sum)

abbrev Read : Type 0
Read = List Field × List ℕ

read_alike : (m n total : ℕ) (octets : List ℕ) → length octets ≤ total
    → ((rest : List ℕ) → length rest < length octets → read_most m total rest ≡ read_most n total rest)
    → (read : Option (Field × List ℕ)) → front_field total octets ≡ read
    → after_field (read_most m total) octets read ≡ after_field (read_most n total) octets read
read_alike m n total octets le same None e = refl
read_alike m n total octets le same (Some x) e =
    ap (λ (r : Read). (x.0 ∷ r.0, r.1)) (same x.1 (left_fewer total octets x.0 x.1 le e))

-- with as many steps as there are octets all fields are read
pub enough : (m n total : ℕ) (octets : List ℕ) → length octets ≤ total → length octets ≤ m → length octets ≤ n
    → read_most m total octets ≡ read_most n total octets
enough zero zero total octets le l1 l2 = refl
enough zero (suc n) total [] le l1 l2 =
    sym (ap (after_field (read_most n total) []) (front_nil total))
enough zero (suc n) total (o ∷ os) le l1 l2 = absurd (omega arith)
enough (suc m) zero total [] le l1 l2 =
    ap (after_field (read_most m total) []) (front_nil total)
enough (suc m) zero total (o ∷ os) le l1 l2 = absurd (omega arith)
enough (suc m) (suc n) total octets le l1 l2 =
    read_alike m n total octets le (λ rest fewer. enough m n total rest (omega arith) (omega arith) (omega arith))
    (front_field total octets) refl

drop_on : {A : Type 0} (m n : ℕ) (xs : List A) → drop m (drop n xs) ≡ drop (n + m) xs
drop_on m zero xs = let e : m ≡ 0 + m = omega arith in ap (λ (k : ℕ). drop k xs) e
drop_on m (suc n) [] =
    let e : suc n + m ≡ suc (n + m) = omega arith in
    nil m ∙ ap (λ (k : ℕ). drop k []) (sym e)
  where
    nil : {B : Type 0} (m : ℕ) → ◌≡◌ {A = List B} (drop m []) []
    nil zero = refl
    nil (suc m) = refl
drop_on m (suc n) (x ∷ xs) =
    let e : suc n + m ≡ suc (n + m) = omega arith in
    drop_on m n xs ∙ ap (λ (k : ℕ). drop k (x ∷ xs)) (sym e)

-- what stands at a place is what is read there
read_there : (octets : List ℕ) (place : ℕ) (field : Field) (next : ℕ) → IsNextField octets place field next
    → front_field (length octets) (drop place octets) ≡ Some (field, drop next octets)
read_there octets place field next is =
    let later : place < next = is.later in
    let within : next ≤ length octets = is.within in
    let front : List ℕ = slice_range octets place next in
    let whole : place + (next - place) ≡ next = omega arith in
    let parts : drop place octets ≡ front ++ drop next octets =
    sym (take-append-drop (next - place) (drop place octets))
    ∙ ap (λ (s : List ℕ). front ++ s) (drop_on (next - place) place octets ∙ ap (λ (n : ℕ). drop n octets) whole) in
    let sum : place + length (front ++ drop next octets) ≡ length octets =
    omega (arith, ap length parts, length-drop place octets) in
    ap (front_field (length octets)) parts
    ∙ front_again (length octets) place front (drop next octets) field sum is.is_field

-- one field, and those behind it
abbrev pub begun : Field → Read → Read
begun field others = (field ∷ others.0, others.1)

pub first_read : (octets : List ℕ) (place : ℕ) (field : Field) (next : ℕ) → IsNextField octets place field next
    → read_from octets place ≡ begun field (read_from octets next)
unfolding read_from
first_read octets place field next is =
    let total : ℕ = length octets in
    let here : List ℕ = drop place octets in
    let there : List ℕ = drop next octets in
    let le1 : length here ≤ total = omega (arith, length-drop place octets) in
    let le2 : length there ≤ total = omega (arith, length-drop next octets) in
    let fewer : length there ≤ length here = omega (arith, length-drop place octets, length-drop next octets, is.later) in
    let one_more : read_most (length here) total here ≡ read_most (suc (length here)) total here =
    enough (length here) (suc (length here)) total here le1 (omega arith) (omega arith) in
    let first : after_field (read_most (length here) total) here (front_field total here) ≡ begun field (read_most (length here) total there) =
    ap (after_field (read_most (length here) total) here) (read_there octets place field next is) in
    let same : read_most (length here) total there ≡ read_most (length there) total there =
    enough (length here) (length there) total there le2 fewer (omega arith) in
    one_more ∙ first ∙ ap (begun field) same

pub none_read : (octets : List ℕ) (place : ℕ) → place ≤ length octets
    → ((field : Field) (next : ℕ) → IsNextField octets place field next → ⊥)
    → read_from octets place ≡ ([], drop place octets)
unfolding read_from
none_read octets place le none =
    let total : ℕ = length octets in
    let here : List ℕ = drop place octets in
    let le1 : length here ≤ total = omega (arith, length-drop place octets) in
    let one_more : read_most (length here) total here ≡ read_most (suc (length here)) total here =
    enough (length here) (suc (length here)) total here le1 (omega arith) (omega arith) in
    one_more ∙ ap (after_field (read_most (length here) total) here) (nothing (front_field total here) refl)
  where
    nothing : (read : Option (Field × List ℕ)) → front_field (length octets) (drop place octets) ≡ read → read ≡ None
    nothing None e = refl
    nothing (Some x) e =
        let le1 : length (drop place octets) ≤ length octets = omega (arith, length-drop place octets) in
        let fewer : length x.1 < length (drop place octets) = left_fewer (length octets) (drop place octets) x.0 x.1 le1 e in
        absurd (none x.0 (length octets - length x.1) (front_next octets place x.0 x.1 le fewer e))

-- ---- IsMessage

fields_are_read : (most total place : ℕ) (octets : List ℕ) (fields : List Field) → place + length octets ≡ total
    → length octets ≤ most → AreFields place octets fields → read_most most total octets ≡ (fields, [])
fields_are_read zero total place [] fields all le are = ap (λ (fs : List Field). (fs, [])) (sym (AreFields-nil place fields are))
fields_are_read zero total place (o ∷ os) fields all le are = absurd (omega arith)
fields_are_read (suc most) total place octets [] all le are =
    ap (λ (s : List ℕ). after_field (read_most most total) s (front_field total s)) are
    ∙ ap (after_field (read_most most total) []) (front_nil total)
fields_are_read (suc most) total place octets (field ∷ fields) all le are =
    let first = first_front total place octets field fields all are in
    let le1 : length octets ≤ total = omega arith in
    let fewer : length first.0 < length octets = left_fewer total octets field first.0 le1 first.1 in
    let at : total - length first.0 + length first.0 ≡ total = omega arith in
    let others : read_most most total first.0 ≡ (fields, []) =
    fields_are_read most total (total - length first.0) first.0 fields at (omega arith) first.3 in
    ap (after_field (read_most most total) octets) first.1 ∙ ap (begun field) others

first_is_field : (most total place : ℕ) (octets : List ℕ) → place + length octets ≡ total
    → ((next : ℕ) (rest : List ℕ) → next + length rest ≡ total → (read_most most total rest).1 ≡ []
    → AreFields next rest (read_most most total rest).0)
    → (read : Option (Field × List ℕ)) → front_field total octets ≡ read
    → (after_field (read_most most total) octets read).1 ≡ []
    → AreFields place octets (after_field (read_most most total) octets read).0
first_is_field most total place octets all others None is e = e
first_is_field most total place octets all others (Some x) is e =
    let t = front_takes total place octets x.0 x.1 all is in
    let sum : length octets ≡ length t.front + length x.1 = ap length t.parts ∙ length-append t.front x.1 in
    (t.front, x.1, t.parts, t.is, others (place + length t.front) x.1 (omega (arith, sum)) e)

read_are_fields : (most total place : ℕ) (octets : List ℕ) → place + length octets ≡ total
    → (read_most most total octets).1 ≡ [] → AreFields place octets (read_most most total octets).0
read_are_fields zero total place octets all e = e
read_are_fields (suc most) total place octets all e =
    first_is_field most total place octets all (λ next rest sum none. read_are_fields most total next rest sum none)
    (front_field total octets) refl e

pub message_read : (octets : List ℕ) (fields : List Field) → IsMessage octets fields → read_from octets 0 ≡ (fields, [])
unfolding read_from
message_read octets fields is = fields_are_read (length octets) (length octets) 0 octets fields (omega arith) (omega arith) is.are_fields

pub read_is_message : (octets : List ℕ) → is_message octets ≡ true → IsMessage octets (all_fields octets)
unfolding read_from
read_is_message octets e = record {
  are_fields = read_are_fields (length octets) (length octets) 0 octets (omega arith)
      (nothing_left (read_most (length octets) (length octets) octets).1 e);
}
  where
    nothing_left : (xs : List ℕ) → nat_eq (length xs) 0 ≡ true → xs ≡ []
    nothing_left [] e = refl
    nothing_left (x ∷ xs) e = absurd (omega (arith, eqb-true (length (x ∷ xs)) 0 e))

-- ---- what `next_field` answers

pub some_field : (octets : List ℕ) (place : ℕ) (found : Option (Field × ℕ))
    → IfSome found (λ x. IsNextField octets place x.0 x.1)
    → IfSome found (λ x. fields_at octets place ≡ x.0 ∷ fields_at octets x.1)
some_field octets place None is = is
some_field octets place (Some x) is = ap (λ (r : Read). r.0) (first_read octets place x.0 x.1 is)

pub some_left : (octets : List ℕ) (place : ℕ) (found : Option (Field × ℕ))
    → IfSome found (λ x. IsNextField octets place x.0 x.1)
    → IfSome found (λ x. (read_from octets place).1 ≡ (read_from octets x.1).1)
some_left octets place None is = is
some_left octets place (Some x) is = ap (λ (r : Read). r.1) (first_read octets place x.0 x.1 is)

-- One list of fields, and the fields of octets that are put after others.
use Rattle.std.proofs.Common.{◌≡◌, ℕ, ◌+◌, ◌-◌, ◌*◌, ◌≤◌, List, [], ◌∷◌, ◌++◌, length, refl, sym, ap, ◌∙◌, subst, arith, append_assoc}
use Rattle.std.proofs.lemmas.List.{length-append}
use Rattle.std.proofs.lemmas.Option.{some_pair_parts}
use Rattle.pb_wire.specs.declared.field.Body.{Body}
use Rattle.pb_wire.specs.declared.field.Body.TheVariants.{Varint, Eight, Octets, Four}
use Rattle.pb_wire.specs.declared.field.Field.{Field}
use Rattle.pb_wire.specs.Varint.{IsVarint}
use Rattle.pb_wire.specs.Message.{wire_type, IsBody, IsField, AreFields, IsMessage}
use Rattle.pb_wire.specs.inner.Reading.{varint_at}
use Rattle.pb_wire.specs.Writing.{shifted_body, shifted}
use Rattle.pb_wire.proofs.SpellingLemmas.{varint_again}
use Rattle.pb_wire.proofs.MessageLemmas.{AreFields-first, AreFields-nil}

-- ---- one list

AreFields-unique : (total place : ℕ) (octets : List ℕ) (xs ys : List Field) → place + length octets ≡ total → AreFields place octets xs → AreFields place octets ys → xs ≡ ys
AreFields-unique total place octets [] ys all p q = sym (AreFields-nil place ys (subst (λ (s : List ℕ). AreFields place s ys) p q))
AreFields-unique total place octets (x ∷ xs) [] all p q = AreFields-nil place (x ∷ xs) (subst (λ (s : List ℕ). AreFields place s (x ∷ xs)) q p)
AreFields-unique total place octets (x ∷ xs) (y ∷ ys) all p q =
    let first = AreFields-first total place octets x xs all p in
    let other = AreFields-first total place octets y ys all q in
    let same = some_pair_parts x y first.0 other.0 (sym first.1 ∙ other.1) in
    let shorter : length first.0 ≤ length octets = first.2 in
    let moved : AreFields (total - length first.0) first.0 ys = subst (λ (s : List ℕ). AreFields (total - length s) s ys) (sym same.1) other.3 in
    let others : xs ≡ ys = AreFields-unique total (total - length first.0) first.0 xs ys (omega (arith, all, shorter)) first.3 moved in
    ap (λ (f : Field). f ∷ xs) same.0 ∙ ap (λ (fs : List Field). y ∷ fs) others

pub IsMessage-unique : (octets : List ℕ) (fields others : List Field) → IsMessage octets fields → IsMessage octets others → fields ≡ others
IsMessage-unique octets fields others p q = AreFields-unique (length octets) 0 octets fields others (omega arith) p.are_fields q.are_fields

-- no spelling of a varint begins another
pub IsVarint-unique : (a b x y : List ℕ) (m n : ℕ) → IsVarint a m → IsVarint b n → a ++ x ≡ b ++ y → (m ≡ n) × (x ≡ y)
IsVarint-unique a b x y m n p q e = some_pair_parts m n x y (sym (varint_again a x m p) ∙ ap varint_at e ∙ varint_again b y n q)

-- ---- octets after others

wire_type-shifted : (by : ℕ) (body : Body) → wire_type body ≡ wire_type (shifted_body by body)
wire_type-shifted by (Varint n) = refl
wire_type-shifted by (Eight n) = refl
wire_type-shifted by (Octets from to) = refl
wire_type-shifted by (Four n) = refl

IsBody-shifted : (by place : ℕ) (octets : List ℕ) (body : Body) → IsBody place octets body → IsBody (by + place) octets (shifted_body by body)
IsBody-shifted by place octets (Varint n) is = is
IsBody-shifted by place octets (Eight n) is = is
IsBody-shifted by place octets (Octets from to) is = record {
  len = is.len;
  content = is.content;
  parts = is.parts;
  is_len = is.is_len;
  first = omega (arith, is.first);
  last = omega (arith, is.last);
}
IsBody-shifted by place octets (Four n) is = is

IsField-shifted : (by place : ℕ) (octets : List ℕ) (field : Field) → IsField place octets field → IsField (by + place) octets (record { number = field.number; body = shifted_body by field.body })
IsField-shifted by place octets field is = record {
  tag = is.tag;
  body = is.body;
  parts = is.parts;
  is_tag = subst (λ (kind : ℕ). IsVarint is.tag (field.number * 8 + kind)) (wire_type-shifted by field.body) is.is_tag;
  is_number = is.is_number;
  is_body = subst (λ (k : ℕ). IsBody k is.body (shifted_body by field.body)) (omega arith) (IsBody-shifted by (place + length is.tag) is.body field.body is.is_body);
}

pub AreFields-shifted : (by place : ℕ) (octets : List ℕ) (fields : List Field) → AreFields place octets fields → AreFields (by + place) octets (shifted by fields)
AreFields-shifted by place octets [] are = are
AreFields-shifted by place octets (field ∷ fields) are = (
  are.0,
  are.1,
  are.2,
  IsField-shifted by place are.0 field are.3,
  subst (λ (k : ℕ). AreFields k are.1 (shifted by fields)) (omega arith) (AreFields-shifted by (place + length are.0) are.1 fields are.4),
)

pub AreFields-append : (place : ℕ) (a b : List ℕ) (xs ys : List Field) → AreFields place a xs → AreFields (place + length a) b ys → AreFields place (a ++ b) (xs ++ ys)
AreFields-append place a b [] ys p q =
    let none : length a ≡ 0 = ap length p in
    let moved : AreFields place b ys = subst (λ (k : ℕ). AreFields k b ys) (omega (arith, none)) q in
    subst (λ (s : List ℕ). AreFields place (s ++ b) ys) (sym p) moved
AreFields-append place a b (x ∷ xs) ys p q =
    let sum : length a ≡ length p.0 + length p.1 = ap length p.2 ∙ length-append p.0 p.1 in
    let moved : AreFields (place + length p.0 + length p.1) b ys = subst (λ (k : ℕ). AreFields k b ys) (omega (arith, sum)) q in
    (p.0, p.1 ++ b, ap (λ (s : List ℕ). s ++ b) p.2 ∙ append_assoc p.0 p.1 b, p.3, AreFields-append (place + length p.0) p.1 b xs ys p.4 moved)

pub IsMessage-append : (a b : List ℕ) (xs ys : List Field) → IsMessage a xs → IsMessage b ys → IsMessage (a ++ b) (xs ++ shifted (length a) ys)
IsMessage-append a b xs ys p q =
    let moved : AreFields (0 + length a) b (shifted (length a) ys) = subst (λ (k : ℕ). AreFields k b (shifted (length a) ys)) (omega arith) (AreFields-shifted (length a) 0 b ys q.are_fields) in
    record { are_fields = AreFields-append 0 a b xs (shifted (length a) ys) p.are_fields moved }

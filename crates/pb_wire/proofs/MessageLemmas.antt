-- The fields that are read so far, and what is left of the message.
use Rattle.std.proofs.Common.{◌≡◌, ℕ, zero, suc, ◌+◌, ◌-◌, ◌<◌, ◌≤◌, List, [], ◌∷◌, ◌++◌, length, get_or, Option, Some, None, refl, sym, ap, ◌∙◌, subst, arith, append_assoc, append-nil}
use Rattle.std.proofs.lemmas.List.{length-append}
use Rattle.std.proofs.lemmas.Option.{some_pair_parts}
use Rattle.pb_wire.specs.declared.field.Field.{Field}
use Rattle.pb_wire.specs.declared.field.Body.{Body}
use Rattle.pb_wire.specs.declared.field.Body.TheVariants.{Varint, Eight, Octets, Four}
use Rattle.pb_wire.specs.Message.{IsBody, IsField, AreFields, IsMessage, IsWithin, AreWithin}
use Rattle.pb_wire.specs.inner.Reading.{varint_at, field_at}
use Rattle.pb_wire.proofs.FieldLemmas.{field_again, field_takes}

-- no field stands where no octets do
pub field_at-nil : (total : ℕ) → field_at total [] ≡ None
unfolding field_at varint_at
field_at-nil total = refl

clash : (x : Option (Field × List ℕ)) (y : Field × List ℕ) → x ≡ None → x ≡ Some y → ⊥
clash x y none read = cc

none_read : (total : ℕ) (rest : List ℕ) (x : Field × List ℕ) → rest ≡ [] → field_at total rest ≡ Some x → ⊥
none_read total rest x e read = let none : field_at total rest ≡ None = ap (field_at total) e ∙ field_at-nil total in clash _ x none read

-- what is read first is the first field
pub AreFields-first : (total place : ℕ) (octets : List ℕ) (field : Field) (fields : List Field) → place + length octets ≡ total → AreFields place octets (field ∷ fields) →
    (rest : List ℕ) × (field_at total octets ≡ Some (field, rest)) × (length rest ≤ length octets) × AreFields (total - length rest) rest fields
AreFields-first total place octets field fields all are =
    let front : List ℕ = are.0 in
    let rest : List ℕ = are.1 in
    let parts : octets ≡ front ++ rest = are.2 in
    let sum : length octets ≡ length front + length rest = ap length parts ∙ length-append front rest in
    let all_parts : place + length (front ++ rest) ≡ total = ap (λ (s : List ℕ). place + length s) (sym parts) ∙ all in
    let read : field_at total (front ++ rest) ≡ Some (field, rest) = field_again total place front rest field all_parts are.3 in
    let next : place + length front ≡ total - length rest = omega (arith, all, sum) in
    (rest, ap (field_at total) parts ∙ read, omega (arith, sum), subst (λ (k : ℕ). AreFields k rest fields) next are.4)

pub AreFields-nil : (place : ℕ) (fields : List Field) → AreFields place [] fields → fields ≡ []
AreFields-nil place [] are = refl
AreFields-nil place (field ∷ fields) are =
    let first = AreFields-first (place + 0) place [] field fields refl are in
    let none = field_at-nil (place + 0) in
    let read = first.1 in
    absurd (clash (field_at (place + 0) []) (field, first.0) none read)

-- the message begins with the fields that are read, and ends with the octets that are left
pub record SoFar (octets : List ℕ) (fields : List Field) (rest : List ℕ) : Type 0 where
  pub within : length rest ≤ length octets
  pub built : (more : List Field) → AreFields (length octets - length rest) rest more → AreFields 0 octets (fields ++ more)
  pub only : (all : List Field) → AreFields 0 octets all → (more : List Field) × (all ≡ fields ++ more) × AreFields (length octets - length rest) rest more

pub SoFar-none : (octets : List ℕ) → SoFar octets [] octets
SoFar-none octets =
    let here : length octets - length octets ≡ 0 = omega arith in
    record {
      within = omega arith;
      built = λ more are. subst (λ (k : ℕ). AreFields k octets more) here are;
      only = λ all are. (all, refl, subst (λ (k : ℕ). AreFields k octets all) (sym here) are);
    }

pub SoFar-more : (octets : List ℕ) (fields : List Field) (rest : List ℕ) (field : Field) (after : List ℕ) → SoFar octets fields rest → field_at (length octets) rest ≡ Some (field, after) → SoFar octets (fields ++ field ∷ []) after
SoFar-more octets fields rest field after so_far read =
    let place : ℕ = length octets - length rest in
    let within : length rest ≤ length octets = so_far.within in
    let all_is : place + length rest ≡ length octets = omega (arith, within) in
    let t = field_takes (length octets) place rest field after all_is read in
    let sum : length rest ≡ length t.front + length after = ap length t.parts ∙ length-append t.front after in
    let next : length octets - length after ≡ length octets - length rest + length t.front = omega (arith, within, sum) in
    record {
      within = omega (arith, within, sum);
      built = λ more are.
          let moved : AreFields (place + length t.front) after more = subst (λ (k : ℕ). AreFields k after more) next are in
          subst (λ (fs : List Field). AreFields 0 octets fs) (sym (append_assoc fields (field ∷ []) more)) (so_far.built (field ∷ more) (t.front, after, t.parts, t.is, moved));
      only = λ all are. let found = so_far.only all are in next_is octets fields rest field after all found.0 all_is read found.1 found.2;
    }
  where
    next_is : (octets : List ℕ) (fields : List Field) (rest : List ℕ) (field : Field) (after : List ℕ) (all more : List Field) → length octets - length rest + length rest ≡ length octets → field_at (length octets) rest ≡ Some (field, after) → all ≡ fields ++ more → AreFields (length octets - length rest) rest more
        → (others : List Field) × (all ≡ (fields ++ field ∷ []) ++ others) × AreFields (length octets - length after) after others
    next_is octets fields rest field after all [] all_is read e are =
        absurd (none_read (length octets) rest (field, after) are read)
    next_is octets fields rest field after all (other ∷ others) all_is read e are =
        let first = AreFields-first (length octets) (length octets - length rest) rest other others all_is are in
        let same = some_pair_parts other field first.0 after (sym first.1 ∙ read) in
        (others, e ∙ ap (λ (f : Field). fields ++ f ∷ others) same.0 ∙ sym (append_assoc fields (field ∷ []) others), subst (λ (s : List ℕ). AreFields (length octets - length s) s others) same.1 first.3)

-- nothing is left
pub SoFar-found : (octets : List ℕ) (fields : List Field) (rest : List ℕ) → SoFar octets fields rest → rest ≡ [] → IsMessage octets fields
SoFar-found octets fields rest so_far e =
    record { are_fields = subst (λ (fs : List Field). AreFields 0 octets fs) (append-nil fields) (so_far.built [] e) }

pub SoFar-only : (octets : List ℕ) (fields : List Field) (rest : List ℕ) → SoFar octets fields rest → rest ≡ [] → (others : List Field) → IsMessage octets others → others ≡ fields
SoFar-only octets fields rest so_far e others is =
    let found = so_far.only others is.are_fields in
    let none : AreFields (length octets - length rest) [] found.0 = subst (λ (s : List ℕ). AreFields (length octets - length rest) s found.0) e found.2 in
    found.1 ∙ ap (λ (fs : List Field). fields ++ fs) (AreFields-nil (length octets - length rest) found.0 none) ∙ append-nil fields

-- something is left, and does not begin with a field
pub SoFar-bad : (octets : List ℕ) (fields : List Field) (rest : List ℕ) → SoFar octets fields rest → (rest ≡ [] → ⊥) → field_at (length octets) rest ≡ None → (others : List Field) → IsMessage octets others → ⊥
SoFar-bad octets fields rest so_far some none others is =
    let found = so_far.only others is.are_fields in
    let within : length rest ≤ length octets = so_far.within in
    let all_is : length octets - length rest + length rest ≡ length octets = omega (arith, within) in
    refused octets rest found.0 all_is some none found.2
  where
    refused : (octets rest : List ℕ) (more : List Field) → length octets - length rest + length rest ≡ length octets → (rest ≡ [] → ⊥) → field_at (length octets) rest ≡ None → AreFields (length octets - length rest) rest more → ⊥
    refused octets rest [] all_is some none are = some are
    refused octets rest (field ∷ fields) all_is some none are =
        let first = AreFields-first (length octets) (length octets - length rest) rest field fields all_is are in
        clash _ (field, first.0) none first.1

-- ---- the places of octets are in the message

pub IsField-within : (total place : ℕ) (front : List ℕ) (field : Field) → place + length front ≤ total → IsField place front field → IsWithin total field.body
IsField-within total place front field le is =
    let sum : length front ≡ length is.tag + length is.body = ap length is.parts ∙ length-append is.tag is.body in
    body_is field.body (place + length is.tag) is.body (omega (arith, le, sum)) is.is_body
  where
    body_is : (body : Body) (place : ℕ) (octets : List ℕ) → place + length octets ≤ total → IsBody place octets body → IsWithin total body
    body_is (Varint n) place octets le is = tt
    body_is (Eight n) place octets le is = tt
    body_is (Octets from to) place octets le is =
        let sum : length octets ≡ length is.len + length is.content = ap length is.parts ∙ length-append is.len is.content in
        (omega (arith, is.last), omega (arith, is.first, is.last, sum, le))
    body_is (Four n) place octets le is = tt

AreFields-within : (total place : ℕ) (octets : List ℕ) (fields : List Field) → place + length octets ≤ total → AreFields place octets fields → (k : ℕ) (d : Field) → k < length fields → IsWithin total (get_or fields k d).body
AreFields-within total place octets [] le are k d lt = absurd (omega arith)
AreFields-within total place octets (field ∷ fields) le are zero d lt =
    let sum : length octets ≡ length are.0 + length are.1 = ap length are.2 ∙ length-append are.0 are.1 in
    IsField-within total place are.0 field (omega (arith, le, sum)) are.3
AreFields-within total place octets (field ∷ fields) le are (suc k) d lt =
    let sum : length octets ≡ length are.0 + length are.1 = ap length are.2 ∙ length-append are.0 are.1 in
    AreFields-within total (place + length are.0) are.1 fields (omega (arith, le, sum)) are.4 k d (omega arith)

pub IsMessage-within : (octets : List ℕ) (fields : List Field) → IsMessage octets fields → AreWithin octets fields
IsMessage-within octets fields is = AreFields-within (length octets) 0 octets fields (omega arith) is.are_fields

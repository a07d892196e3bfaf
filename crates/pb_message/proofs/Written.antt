-- What messages hold that are written field by field.
use Rattle.std.proofs.Common.{◌≡◌, ℕ, ◌+◌, ◌^◌, ◌<◌, ◌≤◌, Bool, true, false, cond, eqb, List, [], ◌∷◌, ◌++◌, length, Option, Some, None, refl, sym, ap, ◌∙◌, subst, arith, append-nil}
use Rattle.std.specs.Prelude.{filter, nat_eq}
use Rattle.std.specs.List.{concat, last_or, cons_option}
use Rattle.std.proofs.lemmas.Bool.{eq-eqb}
use Rattle.std.proofs.lemmas.List.Elements.{filter-append}
use Rattle.pb_wire.specs.declared.field.Field.{Field}
use Rattle.pb_wire.specs.declared.field.Body.TheVariants.{Varint}
use Rattle.pb_wire.specs.Message.{IsMessage, AreWithin}
use Rattle.pb_wire.specs.Writing.{varint_field, octets_field, octets_body, shifted}
use Rattle.pb_wire.specs.Values.{last_run, has_member, is_member, one_of, varints, occurrences, joined_octets}
use Rattle.pb_wire.proofs.LawLemmas.{IsMessage-append}
use Rattle.pb_wire.proofs.MessageLemmas.{IsMessage-within}
use Rattle.pb_wire.proofs.ValueLaws.{occurrences-append, varints-append, varints-written, occurrences-written}
use Rattle.pb_wire.proofs.WritingLemmas.{IsMessage-varint, IsMessage-octets}
use Rattle.pb_message.specs.Fields.{all_fields, is_message}
use Rattle.pb_message.specs.Values.{pieces_under, number_under, member_under, message_members, held_by}
use Rattle.pb_message.proofs.FieldSteps.{message_read, read_is_message}

abbrev Read : Type 0
Read = List Field × List ℕ

pub fields_are : (octets : List ℕ) (fields : List Field) → IsMessage octets fields → all_fields octets ≡ fields
fields_are octets fields is = ap (λ (r : Read). r.0) (message_read octets fields is)

pub passes : (octets : List ℕ) (fields : List Field) → IsMessage octets fields → is_message octets ≡ true
passes octets fields is = ap (λ (r : Read). nat_eq (length r.1) 0) (message_read octets fields is)

both_are : (a b : List ℕ) → is_message a ≡ true → is_message b ≡ true
    → IsMessage (a ++ b) (all_fields a ++ shifted (length a) (all_fields b))
both_are a b is_a is_b =
    IsMessage-append a b (all_fields a) (all_fields b) (read_is_message a is_a) (read_is_message b is_b)

pub message_appended : (a b : List ℕ) → is_message a ≡ true → is_message b ≡ true → is_message (a ++ b) ≡ true
message_appended a b is_a is_b = passes (a ++ b) _ (both_are a b is_a is_b)

pub pieces_appended : (number : ℕ) (a b : List ℕ) → is_message a ≡ true → is_message b ≡ true
    → pieces_under number (a ++ b) ≡ pieces_under number a ++ pieces_under number b
pieces_appended number a b is_a is_b =
    ap (occurrences (a ++ b) number) (fields_are (a ++ b) _ (both_are a b is_a is_b))
    ∙ occurrences-append a b number (all_fields a) (all_fields b)
    (IsMessage-within a (all_fields a) (read_is_message a is_a))

pub numbers_appended : (number : ℕ) (a b : List ℕ) → is_message a ≡ true → is_message b ≡ true
    → varints number (all_fields (a ++ b)) ≡ varints number (all_fields a) ++ varints number (all_fields b)
numbers_appended number a b is_a is_b =
    ap (varints number) (fields_are (a ++ b) _ (both_are a b is_a is_b))
    ∙ varints-append number (length a) (all_fields a) (all_fields b)

-- ---- one field

pub octets_fields : (number : ℕ) (octets : List ℕ) → 1 ≤ number → number ≤ 15 → length octets < 2 ^ 64
    → all_fields (octets_field number octets) ≡ record { number = number; body = octets_body octets } ∷ []
octets_fields number octets low high fits = fields_are _ _ (IsMessage-octets number octets low high fits)

pub varint_fields : (number value : ℕ) → 1 ≤ number → number ≤ 15 → value < 2 ^ 64
    → all_fields (varint_field number value) ≡ record { number = number; body = Varint value } ∷ []
varint_fields number value low high fits = fields_are _ _ (IsMessage-varint number value low high fits)

pub octets_pass : (number : ℕ) (octets : List ℕ) → 1 ≤ number → number ≤ 15 → length octets < 2 ^ 64
    → is_message (octets_field number octets) ≡ true
octets_pass number octets low high fits = passes _ _ (IsMessage-octets number octets low high fits)

pub varint_passes : (number value : ℕ) → 1 ≤ number → number ≤ 15 → value < 2 ^ 64
    → is_message (varint_field number value) ≡ true
varint_passes number value low high fits = passes _ _ (IsMessage-varint number value low high fits)

pub pieces_here : (number : ℕ) (octets : List ℕ) → 1 ≤ number → number ≤ 15 → length octets < 2 ^ 64
    → pieces_under number (octets_field number octets) ≡ octets ∷ []
pieces_here number octets low high fits =
    ap (occurrences (octets_field number octets) number) (octets_fields number octets low high fits)
    ∙ occurrences-written number octets

pub pieces_elsewhere : (other number : ℕ) (octets : List ℕ) → 1 ≤ number → number ≤ 15 → length octets < 2 ^ 64
    → eqb number other ≡ false → pieces_under other (octets_field number octets) ≡ []
pieces_elsewhere other number octets low high fits differ =
    ap (occurrences (octets_field number octets) other) (octets_fields number octets low high fits) ∙ rw differ refl

pub pieces_of_varint : (other number value : ℕ) → 1 ≤ number → number ≤ 15 → value < 2 ^ 64
    → pieces_under other (varint_field number value) ≡ []
pieces_of_varint other number value low high fits =
    ap (occurrences (varint_field number value) other) (varint_fields number value low high fits)
    ∙ by_test (eqb number other)
  where
    by_test : (b : Bool) → ◌≡◌ {A = List (List ℕ)} (cons_option (cond b None None) []) []
    by_test true = refl
    by_test false = refl

pub numbers_here : (number value : ℕ) → 1 ≤ number → number ≤ 15 → value < 2 ^ 64
    → varints number (all_fields (varint_field number value)) ≡ value ∷ []
numbers_here number value low high fits =
    ap (varints number) (varint_fields number value low high fits) ∙ varints-written number value

pub numbers_elsewhere : (other number value : ℕ) → 1 ≤ number → number ≤ 15 → value < 2 ^ 64 → eqb number other ≡ false
    → varints other (all_fields (varint_field number value)) ≡ []
numbers_elsewhere other number value low high fits differ =
    ap (varints other) (varint_fields number value low high fits) ∙ rw differ refl

-- ---- a oneof's only member, behind fields that are none

pub member_written : (numbers a : List ℕ) (number : ℕ) (octets : List ℕ) → 1 ≤ number → number ≤ 15
    → length octets < 2 ^ 64 → is_message a ≡ true
    → filter (is_member (message_members numbers)) (all_fields a) ≡ []
    → has_member (message_members numbers) number 2 ≡ true
    → member_under numbers (a ++ octets_field number octets) ≡ Some (number, octets)
member_written numbers a number octets low high fits is_a none is =
    let b : List ℕ = octets_field number octets in
    let members : List (ℕ × ℕ) = message_members numbers in
    let field : Field = record { number = number; body = octets_body octets } in
    let moved : List Field = shifted (length a) (field ∷ []) in
    let is_b : is_message b ≡ true = octets_pass number octets low high fits in
    let fields : all_fields (a ++ b) ≡ all_fields a ++ moved =
    fields_are (a ++ b) _ (both_are a b is_a is_b)
    ∙ ap (λ (fs : List Field). all_fields a ++ shifted (length a) fs) (octets_fields number octets low high fits) in
    let chosen : filter (is_member members) moved ≡ moved = ap (λ (t : Bool). cond t moved []) is in
    let run : one_of members (all_fields (a ++ b)) ≡ moved =
    ap (λ (fs : List Field). last_run (filter (is_member members) fs)) fields
    ∙ ap last_run (filter-append (is_member members) (all_fields a) moved ∙ ap (λ (fs : List Field). fs ++ filter (is_member members) moved) none)
    ∙ ap last_run chosen in
    let pieces : occurrences (a ++ b) number moved ≡ octets ∷ [] =
    occurrences-append a b number [] (field ∷ []) no_places ∙ occurrences-written number octets in
    ap (held_by (a ++ b)) run
    ∙ ap (λ (ps : List (List ℕ)). Some (number, concat ps)) pieces
    ∙ ap (λ (s : List ℕ). Some (number, s)) (append-nil octets)
  where
    no_places : AreWithin a []
    no_places = λ k d lt. absurd (omega arith)

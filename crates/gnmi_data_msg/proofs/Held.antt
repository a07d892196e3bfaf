-- What a run holds, fields that are no members left in it or not.
use Rattle.std.proofs.Common.{◌≡◌, ℕ, ◌+◌, true, List, length, drop, None, refl, sym, ap, subst, arith}
use Rattle.std.specs.Prelude.{filter}
use Rattle.std.specs.List.{last_or, concat}
use Rattle.std.proofs.lemmas.List.{get_or-drop, length-drop}
use Rattle.pb_wire.specs.declared.field.Field.{Field}
use Rattle.pb_wire.specs.Message.{IsWithin, AreWithin}
use Rattle.pb_wire.specs.Values.{is_member, last_scalar, last_octets, joined_octets, has_member}
use Rattle.pb_wire.proofs.MapLemmas.{varints-members, occurrences-members}
use Rattle.gnmi_data_msg.specs.Numbers.{string_val, int_val, uint_val, bool_val, bytes_val, decimal_val, leaflist_val, json_val, json_ietf_val}
use Rattle.gnmi_data_msg.specs.TypedValues.{members, number_in, scalar_in, given_in}

last_scalar-members : (number : ℕ) (fields : List Field) → has_member members number 0 ≡ true → last_scalar number (filter (is_member members) fields) ≡ last_scalar number fields
last_scalar-members number fields is = ap (last_or None) (varints-members members number fields is)

last_octets-members : (message : List ℕ) (number : ℕ) (fields : List Field) → has_member members number 2 ≡ true → last_octets message number (filter (is_member members) fields) ≡ last_octets message number fields
last_octets-members message number fields is = ap (last_or None) (occurrences-members members message number fields is)

joined-members : (message : List ℕ) (number : ℕ) (fields : List Field) → has_member members number 2 ≡ true → joined_octets message number (filter (is_member members) fields) ≡ joined_octets message number fields
joined-members message number fields is = ap concat (occurrences-members members message number fields is)

number-members : (fields : List Field) → number_in (filter (is_member members) fields) ≡ number_in fields
unfolding number_in
number-members fields =
    rw (last_scalar-members int_val fields refl, last_scalar-members uint_val fields refl, last_scalar-members bool_val fields refl) refl

pub scalar-members : (message : List ℕ) (fields : List Field) → scalar_in message (filter (is_member members) fields) ≡ scalar_in message fields
unfolding scalar_in
scalar-members message fields =
    rw (last_octets-members message string_val fields refl, last_octets-members message bytes_val fields refl, last_octets-members message decimal_val fields refl, joined-members message decimal_val fields refl, number-members fields) refl

pub given-members : (message : List ℕ) (fields : List Field) → given_in message (filter (is_member members) fields) ≡ given_in message fields
unfolding given_in
given-members message fields =
    rw (last_octets-members message json_val fields refl, last_octets-members message json_ietf_val fields refl, last_octets-members message leaflist_val fields refl, joined-members message leaflist_val fields refl, scalar-members message fields) refl

pub within-drop : (octets : List ℕ) (n : ℕ) (fields : List Field) → AreWithin octets fields → AreWithin octets (drop n fields)
within-drop octets n fields are k d lt =
    subst (λ (field : Field). IsWithin (length octets) field.body) (sym (get_or-drop n fields k d)) (are (n + k) d (omega (arith, length-drop n fields, lt)))

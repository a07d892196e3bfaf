-- The fields that are read are those of the message.
use Rattle.std.proofs.Common.{◌≡◌, ℕ, Bool, true, false, cond, List, Option, Some, None, refl, ap, ◌∙◌, subst}
use Rattle.pb_wire.specs.declared.field.Field.{Field}
use Rattle.pb_wire.specs.Message.{IsMessage}
use Rattle.pb_message.specs.Fields.{all_fields, is_message}
use Rattle.pb_message.proofs.FieldSteps.{read_is_message}
use Rattle.pb_message.proofs.Written.{fields_are, passes}
use Rattle.gnmi_data_msg.specs.Parts.{fields_in}

pub is_read : (octets : List ℕ) (fields : List Field) → IsMessage octets fields → fields_in octets ≡ Some fields
unfolding fields_in
is_read octets fields is =
    ap (λ (b : Bool). cond b (Some (all_fields octets)) None) (passes octets fields is) ∙ ap Some (fields_are octets fields is)

pub is_of_message : (octets : List ℕ) (fields : List Field) → fields_in octets ≡ Some fields → IsMessage octets fields
unfolding fields_in
is_of_message octets fields e = by (is_message octets) refl e
  where
    some_same : (a b : List Field) → ◌≡◌ {A = Option (List Field)} (Some a) (Some b) → a ≡ b
    some_same a b same = cc

    none_some : (a : List Field) → ◌≡◌ {A = Option (List Field)} None (Some a) → ⊥
    none_some a same = cc

    by : (b : Bool) → is_message octets ≡ b → cond b (Some (all_fields octets)) None ≡ Some fields → IsMessage octets fields
    by true is same = subst (λ (fs : List Field). IsMessage octets fs) (some_same (all_fields octets) fields same) (read_is_message octets is)
    by false is same = absurd (none_some fields same)

by_cases : (found : Option (List Field)) → ((fields : List Field) → found ≡ Some fields → ⊥) → found ≡ None
by_cases None none = refl
by_cases (Some fields) none = absurd (none fields refl)

pub none_read : (octets : List ℕ) → ((fields : List Field) → IsMessage octets fields → ⊥) → fields_in octets ≡ None
none_read octets none = by_cases (fields_in octets) (λ fields e. none fields (is_of_message octets fields e))

pub ruleset message_fields = (is_read, none_read)

-- The value that a key text is read as is the one whose key text it is.
use Rattle.std.proofs.Common.{◌≡◌, ℕ, ◌≤◌, List, Bool, true, false, ◌&&◌, leb, ℤ, Option, Some, None, refl, sym, ap, subst, ◌∙◌, codes}
use Rattle.std.specs.Option.{option_and_then, option_map}
use Rattle.std.specs.Result.{result_ok}
use Rattle.std.specs.Str.{bytes_eq}
use Rattle.std.proofs.lemmas.Bool.{and_parts, and_from, leb-true, cond-true, both_ways}
use Rattle.std.proofs.lemmas.Slice.Eq.{bytes_eq-Decides}
use Rattle.base64.specs.GeneralPurpose.{decode_of, decoded_of}
use Rattle.base64.specs.Engines.{standard}
use Rattle.base64.proofs.EngineFacts.{decode_of-encode_of}
use Rattle.base_kinds.specs.declared.value.Value.{Value}
use Rattle.base_kinds.specs.declared.value.Value.TheVariants as values
use Rattle.base_kinds.specs.declared.schema.Shape.{Shape}
use Rattle.base_kinds.specs.declared.schema.Shape.TheVariants as shapes
use Rattle.base_kinds.specs.Keys.{key_text}
use Rattle.base_kinds.specs.Legal.{is_fit_scalar}
use Rattle.base_kinds.specs.Texts.{bool_text, base64_text}
use Rattle.base_kinds.specs.Values.{has_shape}
use Rattle.plain_texts.proofs.Decimals.{left_out, natural_read}
use Rattle.value_core.specs.Base64.{octets_of}
use Rattle.value_core.specs.Decimals.{IsDecimal}
use Rattle.value_core.specs.KeyTexts.{is_stored, IsKeyOf}
use Rattle.value_core.specs.KeyValues.{value_read, is_key_of, if_key_of, key_value}
use Rattle.value_core.specs.laws.Texts.{KeysByFunction}
use Rattle.value_core.proofs.DecimalTexts.{read_back}
use Rattle.value_core.proofs.DecimalsRead.{decimal_read}
use Rattle.value_core.proofs.IntegersRead.{let_through, integer_read}
use Rattle.value_core.proofs.Keys.{bool_key, int_key, uint_key, dec_key, text_key, bin_key, enum_key, one_value}

truth_back : (is : Bool) → bytes_eq (bool_text is) (codes "true") ≡ is
truth_back true = refl
truth_back false = refl

octets_back : (text octets : List ℕ) → text ≡ base64_text octets → octets_of text ≡ result_ok (decode_of standard (base64_text octets))
unfolding decoded_of
octets_back text octets is = ap (λ t. result_ok (decode_of standard t)) is

fit_places : (digits : ℤ) (places : ℕ) → is_fit_scalar (values.Dec digits places) ≡ true → 1 ≤ places
fit_places digits places fits = leb-true 1 places (and_parts (leb 1 places) (leb places 18) fits).0

some_value : (a b : Value) → a ≡ b → Some a ≡ Some b
some_value a b is = ap (λ v. Some v) is

-- a key text is read as the value that it was written of
read_as : (shape : Shape) (text : List ℕ) (value : Value) → IsKeyOf shape text value → is_fit_scalar value ≡ true → value_read shape text ≡ Some value
read_as shapes.Bool text value key fits =
    let k = bool_key text value key in
    ap (λ is. Some (values.Bool is)) (ap (λ t. bytes_eq t (codes "true")) k.spelled ∙ truth_back k.is) ∙ some_value (values.Bool k.is) value (sym k.value_is)
read_as (shapes.Int width) text value key fits =
    let k = int_key width text value key in
    ap (option_map values.Int) (integer_read text k.number k.spelled k.held) ∙ some_value (values.Int k.number) value (sym k.value_is)
read_as (shapes.Uint width) text value key fits =
    let k = uint_key width text value key in
    ap (option_map values.Uint) (natural_read text k.number k.spelled k.held) ∙ some_value (values.Uint k.number) value (sym k.value_is)
read_as (shapes.Dec places) text value key fits =
    let k = dec_key places text value key in
    let some = fit_places k.digits places (sym (ap is_fit_scalar k.value_is) ∙ fits) in
    let d : IsDecimal places text k.digits = subst (λ o. IsDecimal places o k.digits) (sym k.spelled) (read_back places k.digits some k.held) in
    ap (option_map (λ digits. values.Dec digits places)) (decimal_read places text k.digits d) ∙ some_value (values.Dec k.digits places) value (sym k.value_is)
read_as shapes.Text text value key fits = some_value (values.Text text) value (sym (text_key text value key))
read_as shapes.Bin text value key fits =
    let k = bin_key text value key in
    ap (option_map values.Bin) (octets_back text k.octets k.spelled ∙ ap result_ok (decode_of-encode_of standard k.octets refl k.bytes)) ∙ some_value (values.Bin k.octets) value (sym k.value_is)
read_as (shapes.Enum texts) text value key fits = some_value (values.Enum text) value (sym (enum_key texts text value key).value_is)

-- the test and the fact

key_from : (shape : Shape) (text : List ℕ) (value : Value) → is_key_of shape text value ≡ true → IsKeyOf shape text value × (is_fit_scalar value ≡ true)
key_from shape text value is =
    let a = and_parts (is_stored value && is_fit_scalar value && has_shape shape value) (bytes_eq text (key_text value)) is in
    let b = and_parts (is_stored value && is_fit_scalar value) (has_shape shape value) a.0 in
    let d = and_parts (is_stored value) (is_fit_scalar value) b.0 in
    (record { stored = d.0; shaped = b.1; spelled = (bytes_eq-Decides text (key_text value)).0 a.1 }, d.1)

key_test : (shape : Shape) (text : List ℕ) (value : Value) → IsKeyOf shape text value → is_fit_scalar value ≡ true → is_key_of shape text value ≡ true
key_test shape text value key fits =
    and_from (is_stored value && is_fit_scalar value && has_shape shape value) (bytes_eq text (key_text value))
    (and_from (is_stored value && is_fit_scalar value) (has_shape shape value) (and_from (is_stored value) (is_fit_scalar value) key.stored fits) key.shaped)
    ((bytes_eq-Decides text (key_text value)).1 key.spelled)

-- a value that can't pass is left out
none_left : (shape : Shape) (text : List ℕ) (read : Option Value) → ((value : Value) → is_key_of shape text value ≡ true → ⊥) → option_and_then (if_key_of shape text) read ≡ None
none_left shape text None never = refl
none_left shape text (Some value) never = left_out (is_key_of shape text value) value (never value)

passed : (shape : Shape) (text : List ℕ) (read : Option Value) (value : Value) → option_and_then (if_key_of shape text) read ≡ Some value → is_key_of shape text value ≡ true
passed shape text None value is = absurd (cc)
passed shape text (Some found) value is =
    let through = let_through (is_key_of shape text found) found value is in
    subst (λ (v : Value). is_key_of shape text v ≡ true) through.1 through.0

-- the answers of a reading

pub key_there : (shape : Shape) (text : List ℕ) (value : Value) → IsKeyOf shape text value → is_fit_scalar value ≡ true → key_value shape text ≡ Some value
unfolding key_value
key_there shape text value key fits =
    ap (option_and_then (if_key_of shape text)) (read_as shape text value key fits)
    ∙ cond-true (is_key_of shape text value) (Some value) None (key_test shape text value key fits)

pub key_unfit : (shape : Shape) (text : List ℕ) (value : Value) → IsKeyOf shape text value → is_fit_scalar value ≡ false → key_value shape text ≡ None
unfolding key_value
key_unfit shape text value key unfit =
    none_left shape text (value_read shape text)
    (λ found is. let own = key_from shape text found is in
    both_ways (is_fit_scalar value) unfit (sym (ap is_fit_scalar (one_value shape text found value own.0 key)) ∙ own.1))

pub no_key : (shape : Shape) (text : List ℕ) → ((value : Value) → IsKeyOf shape text value → ⊥) → key_value shape text ≡ None
unfolding key_value
no_key shape text none = none_left shape text (value_read shape text) (λ found is. none found (key_from shape text found is).0)

pub keys_by_function : KeysByFunction
unfolding key_value
keys_by_function shape text value = (λ is. key_from shape text value (passed shape text (value_read shape text) value is), λ parts. key_there shape text value parts.0 parts.1)

-- Which value of a shape a key text is.
use Rattle.std.proofs.Common.{◌≡◌, ℕ, zero, suc, ◌^◌, ◌<◌, List, [], ◌∷◌, arith, Bool, true, false, nat_lt, ℤ, IsTrue, refl, sym, ap, subst, ◌∙◌}
use Rattle.std.specs.Fmt.{decimal, signed_decimal}
use Rattle.std.specs.List.{list_all, list_any}
use Rattle.std.specs.Str.{bytes_eq}
use Rattle.std.proofs.lemmas.Bool.{false≢true, eqb-true, ltb-true, lt-ltb, and_parts, and_from}
use Rattle.std.proofs.lemmas.Fmt.{decimal_injective, signed_decimal_injective}
use Rattle.base64.specs.GeneralPurpose.{IsBytes, decode_of}
use Rattle.base64.specs.Engines.{standard}
use Rattle.base64.proofs.EngineFacts.{decode_of-encode_of}
use Rattle.base_kinds.specs.declared.value.Value.{Value}
use Rattle.base_kinds.specs.declared.value.Value as v
use Rattle.base_kinds.specs.declared.schema.Shape.{Shape}
use Rattle.base_kinds.specs.declared.schema.Shape.TheVariants as shapes
use Rattle.base_kinds.specs.Texts.{bool_text, dec_text, base64_text}
use Rattle.base_kinds.specs.Values.{fits_signed, has_shape}
use Rattle.value_core.specs.KeyTexts.{IsKeyOf}
use Rattle.value_core.proofs.DecimalTexts.{dec_injective}
use Rattle.value_core.proofs.Ranges.{magnitude}

-- octets below 256, by the test and as base64 says it

pub bytes_from : (octets : List ℕ) → IsTrue (list_all (λ octet. nat_lt octet 256) octets) → IsBytes octets
bytes_from [] all i = omega arith
bytes_from (octet ∷ octets) all zero = ltb-true octet 256 (and_parts (nat_lt octet 256) (list_all (λ o. nat_lt o 256) octets) all).0
bytes_from (octet ∷ octets) all (suc i) = bytes_from octets (and_parts (nat_lt octet 256) (list_all (λ o. nat_lt o 256) octets) all).1 i

pub bytes_test : (octets : List ℕ) → IsBytes octets → IsTrue (list_all (λ octet. nat_lt octet 256) octets)
bytes_test [] bytes = refl
bytes_test (octet ∷ octets) bytes = and_from (nat_lt octet 256) (list_all (λ o. nat_lt o 256) octets) (lt-ltb octet 256 (bytes 0)) (bytes_test octets (λ i. bytes (suc i)))

other_kind : {P : Type 0} → IsTrue false → P
other_kind h = absurd (false≢true h)

pub record IsBoolKey (text : List ℕ) (value : Value) : Type 0 where
  pub is : Bool
  pub value_is : value ≡ v.Bool is
  pub spelled : text ≡ bool_text is

pub bool_key : (text : List ℕ) (value : Value) → IsKeyOf shapes.Bool text value → IsBoolKey text value
bool_key text (v.Bool is) k = record { is = is; value_is = refl; spelled = k.spelled }
bool_key text _ k = other_kind k.shaped

pub record IsIntKey (width : ℕ) (text : List ℕ) (value : Value) : Type 0 where
  pub number : ℤ
  pub value_is : value ≡ v.Int number
  pub held : IsTrue (fits_signed 64 number)
  pub fits : IsTrue (fits_signed width number)
  pub spelled : text ≡ signed_decimal number

pub int_key : (width : ℕ) (text : List ℕ) (value : Value) → IsKeyOf (shapes.Int width) text value → IsIntKey width text value
int_key width text (v.Int number) k = record { number = number; value_is = refl; held = k.stored; fits = k.shaped; spelled = k.spelled }
int_key width text _ k = other_kind k.shaped

pub record IsUintKey (width : ℕ) (text : List ℕ) (value : Value) : Type 0 where
  pub number : ℕ
  pub value_is : value ≡ v.Uint number
  pub held : number < 2 ^ 64
  pub fits : IsTrue (nat_lt number (2 ^ width))
  pub spelled : text ≡ decimal number

pub uint_key : (width : ℕ) (text : List ℕ) (value : Value) → IsKeyOf (shapes.Uint width) text value → IsUintKey width text value
uint_key width text (v.Uint number) k = record { number = number; value_is = refl; held = ltb-true number (2 ^ 64) k.stored; fits = k.shaped; spelled = k.spelled }
uint_key width text _ k = other_kind k.shaped

pub record IsDecKey (places : ℕ) (text : List ℕ) (value : Value) : Type 0 where
  pub digits : ℤ
  pub value_is : value ≡ v.Dec digits places
  pub held : IsTrue (fits_signed 64 digits)
  pub spelled : text ≡ dec_text digits places

pub dec_key : (places : ℕ) (text : List ℕ) (value : Value) → IsKeyOf (shapes.Dec places) text value → IsDecKey places text value
dec_key places text (v.Dec digits others) k =
    let same : others ≡ places = sym (eqb-true places others k.shaped) in
    record { digits = digits; value_is = ap (λ p. v.Dec digits p) same; held = k.stored; spelled = k.spelled ∙ ap (λ p. dec_text digits p) same }
dec_key places text _ k = other_kind k.shaped

pub text_key : (text : List ℕ) (value : Value) → IsKeyOf shapes.Text text value → value ≡ v.Text text
text_key text (v.Text own) k = ap (λ t. v.Text t) (sym k.spelled)
text_key text _ k = other_kind k.shaped

pub record IsBinKey (text : List ℕ) (value : Value) : Type 0 where
  pub octets : List ℕ
  pub value_is : value ≡ v.Bin octets
  pub bytes : IsBytes octets
  pub spelled : text ≡ base64_text octets

pub bin_key : (text : List ℕ) (value : Value) → IsKeyOf shapes.Bin text value → IsBinKey text value
bin_key text (v.Bin octets) k = record { octets = octets; value_is = refl; bytes = bytes_from octets k.stored; spelled = k.spelled }
bin_key text _ k = other_kind k.shaped

pub bin_from : (shape : Shape) (text octets : List ℕ) → shape ≡ shapes.Bin → IsBytes octets → text ≡ base64_text octets → IsKeyOf shape text (v.Bin octets)
bin_from shape text octets is bytes spelled = record { stored = bytes_test octets bytes; shaped = ap (λ s. has_shape s (v.Bin octets)) is; spelled = spelled }

pub record IsEnumKey (texts : List (List ℕ)) (text : List ℕ) (value : Value) : Type 0 where
  pub value_is : value ≡ v.Enum text
  pub listed : IsTrue (list_any (bytes_eq text) texts)

pub enum_key : (texts : List (List ℕ)) (text : List ℕ) (value : Value) → IsKeyOf (shapes.Enum texts) text value → IsEnumKey texts text value
enum_key texts text (v.Enum own) k = record { value_is = ap (λ t. v.Enum t) (sym k.spelled); listed = subst (λ t. IsTrue (list_any (bytes_eq t) texts)) (sym k.spelled) k.shaped }
enum_key texts text _ k = other_kind k.shaped

bool_injective : (a b : Bool) → bool_text a ≡ bool_text b → a ≡ b
bool_injective true true e = refl
bool_injective true false e = absurd (cc)
bool_injective false true e = absurd (cc)
bool_injective false false e = refl

-- octets that are written alike in base64 are the same
base64_injective : (a b : List ℕ) → IsBytes a → IsBytes b → base64_text a ≡ base64_text b → a ≡ b
base64_injective a b bytes bytes' same =
    let decoded = sym (decode_of-encode_of standard a refl bytes) ∙ ap (decode_of standard) same ∙ decode_of-encode_of standard b refl bytes' in
    cc

pub one_value : (shape : Shape) (text : List ℕ) (a b : Value) → IsKeyOf shape text a → IsKeyOf shape text b → a ≡ b
one_value shapes.Bool text a b k l =
    let x = bool_key text a k in
    let y = bool_key text b l in
    x.value_is ∙ ap (λ is. v.Bool is) (bool_injective x.is y.is (sym x.spelled ∙ y.spelled)) ∙ sym y.value_is
one_value (shapes.Int width) text a b k l =
    let x = int_key width text a k in
    let y = int_key width text b l in
    x.value_is ∙ ap (λ n. v.Int n) (signed_decimal_injective x.number y.number (magnitude x.number x.held) (magnitude y.number y.held) (sym x.spelled ∙ y.spelled)) ∙ sym y.value_is
one_value (shapes.Uint width) text a b k l =
    let x = uint_key width text a k in
    let y = uint_key width text b l in
    x.value_is ∙ ap (λ n. v.Uint n) (decimal_injective x.number y.number x.held y.held (sym x.spelled ∙ y.spelled)) ∙ sym y.value_is
one_value (shapes.Dec places) text a b k l =
    let x = dec_key places text a k in
    let y = dec_key places text b l in
    x.value_is ∙ ap (λ d. v.Dec d places) (dec_injective places x.digits y.digits x.held y.held (sym x.spelled ∙ y.spelled)) ∙ sym y.value_is
one_value shapes.Text text a b k l = text_key text a k ∙ sym (text_key text b l)
one_value shapes.Bin text a b k l =
    let x = bin_key text a k in
    let y = bin_key text b l in
    x.value_is ∙ ap (λ o. v.Bin o) (base64_injective x.octets y.octets x.bytes y.bytes (sym x.spelled ∙ y.spelled)) ∙ sym y.value_is
one_value (shapes.Enum texts) text a b k l = (enum_key texts text a k).value_is ∙ sym (enum_key texts text b l).value_is

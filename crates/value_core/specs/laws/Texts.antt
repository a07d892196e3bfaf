-- What holds of the texts of values.
use Rattle.std.specs.Prelude.{◌≡◌, ◌↔◌, ℕ, ◌^◌, ◌<◌, ◌≤◌, List, ℤ, Some, true, IsTrue}
use Rattle.std.specs.Fmt.{decimal, signed_decimal}
use Rattle.base_kinds.specs.declared.schema.Shape.{Shape}
use Rattle.base_kinds.specs.declared.value.Value.{Value}
use Rattle.base_kinds.specs.Legal.{is_fit_scalar}
use Rattle.base_kinds.specs.Texts.{dec_text}
use Rattle.base_kinds.specs.Values.{fits_signed}
use Rattle.plain_texts.specs.Numbers.{natural_of}
use Rattle.value_core.specs.Decimals.{IsDecimal, decimal_of}
use Rattle.value_core.specs.Integers.{integer_of}
use Rattle.value_core.specs.KeyTexts.{IsKeyOf}
use Rattle.value_core.specs.KeyValues.{key_value}

-- a text is the key of one value of a shape at most
abbrev pub OneValueAKey : Type 0
OneValueAKey =
    (shape : Shape) (text : List ℕ) (a b : Value)
    → IsKeyOf shape text a → IsKeyOf shape text b → a ≡ b

-- octets spell one decimal at most
abbrev pub OneDecimal : Type 0
OneDecimal =
    (places : ℕ) (octets : List ℕ) (a b : ℤ)
    → IsDecimal places octets a → IsDecimal places octets b → a ≡ b

-- a decimal that is written is read as itself
abbrev pub DecimalsReadBack : Type 0
DecimalsReadBack =
    (places : ℕ) (digits : ℤ) → 1 ≤ places → IsTrue (fits_signed 64 digits)
    → IsDecimal places (dec_text digits places) digits

-- the functions give just what the facts speak of

abbrev pub NaturalsByFunction : Type 0
NaturalsByFunction =
    (text : List ℕ) (number : ℕ)
    → (natural_of text ≡ Some number) ↔ ((text ≡ decimal number) × (number < 2 ^ 64))

abbrev pub IntegersByFunction : Type 0
IntegersByFunction =
    (text : List ℕ) (number : ℤ)
    → (integer_of text ≡ Some number)
    ↔ ((text ≡ signed_decimal number) × IsTrue (fits_signed 64 number))

abbrev pub DecimalsByFunction : Type 0
DecimalsByFunction =
    (places : ℕ) (text : List ℕ) (digits : ℤ)
    → (decimal_of places text ≡ Some digits) ↔ IsDecimal places text digits

-- a value of a leaf whose decimals have 1 to 18 digits behind the point
abbrev pub KeysByFunction : Type 0
KeysByFunction =
    (shape : Shape) (text : List ℕ) (value : Value)
    → (key_value shape text ≡ Some value)
    ↔ (IsKeyOf shape text value × (is_fit_scalar value ≡ true))

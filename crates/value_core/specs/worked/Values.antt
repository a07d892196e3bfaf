-- The definitions on worked examples (RFC 7950 9.3, RFC 4648 10).
use Rattle.std.specs.Prelude.{◌≡◌, [], ◌∷◌, codes, refl, pos, negsuc, true, false}
use Rattle.std.specs.Fmt.{digits}
use Rattle.base_kinds.specs.declared.schema.Shape.TheVariants as shapes
use Rattle.base_kinds.specs.declared.value.Value.TheVariants as values
use Rattle.base_kinds.specs.Keys.{key_text}
use Rattle.base_kinds.specs.Texts.{quoted}
use Rattle.base_kinds.specs.Values.{has_shape}
use Rattle.value_core.specs.Decimals.{signed, filled, point_text}

-- the digits 150 with two places are 1.5, -5 with one are -0.5, and a zero has one digit behind the point
one_and_a_half : key_text (values.Dec (pos 150) 2) ≡ codes "1.5"
unfolding digits
one_and_a_half = refl

minus_a_half : key_text (values.Dec (negsuc 4) 1) ≡ codes "-0.5"
unfolding digits
minus_a_half = refl

zero_in_cents : key_text (values.Dec (pos 0) 2) ≡ codes "0.0"
unfolding digits
zero_in_cents = refl

least : key_text (values.Dec (negsuc 9223372036854775807) 18) ≡ codes "-9.223372036854775808"
unfolding digits
least = refl

-- a sign in front of a zero says nothing
minus_zero : signed true 0 ≡ pos 0
minus_zero = refl

-- `1.5` with three places writes the digits 1500
filled_up : filled 3 (codes "5") ≡ codes "500"
filled_up = refl

no_point : point_text [] ≡ []
no_point = refl

-- the bounds of eight bits
int8_most : has_shape (shapes.Int 8) (values.Int (pos 127)) ≡ true
int8_most = refl

int8_more : has_shape (shapes.Int 8) (values.Int (pos 128)) ≡ false
int8_more = refl

int8_least : has_shape (shapes.Int 8) (values.Int (negsuc 127)) ≡ true
int8_least = refl

int8_less : has_shape (shapes.Int 8) (values.Int (negsuc 128)) ≡ false
int8_less = refl

-- a quote, a backslash, and octets outside the printable ones are escaped
escapes : quoted (34 ∷ 92 ∷ 31 ∷ 32 ∷ 126 ∷ 127 ∷ 195 ∷ 169 ∷ [])
    ≡ codes "\"\\22\\5c\\1f ~\\7f\\c3\\a9\""
escapes = refl

-- The texts of paths and values on worked examples.
use Rattle.std.specs.Prelude.{◌≡◌, [], ◌∷◌, codes, refl, true, pos, negsuc}
use Rattle.std.specs.Fmt.{digits}
use Rattle.base64.specs.Rfc4648.{encode_symbols}
use Rattle.base_kinds.specs.declared.value.Value.TheVariants as values
use Rattle.base_kinds.specs.Texts.{path_text, value_text, dec_text}
use Rattle.base_kinds.specs.worked.Samples.{plain}

-- texts of paths, with and without octets that are escaped
root_text : path_text [] ≡ codes "/"
root_text = refl

key_text : path_text (record {
  name =
      codes "interface";
  keys = (codes "name", codes "eth 0/1]") ∷ [];
} ∷ plain (codes "mtu")
    ∷ []) ≡ codes "/interface[name=eth\\200/1\\5d]/mtu"
key_text = refl

-- decimals
dec_one_and_a_half : dec_text (pos 150) 2 ≡ codes "1.5"
unfolding digits
dec_one_and_a_half = refl

dec_negative : dec_text (negsuc 4) 1 ≡ codes "-0.5"
unfolding digits
dec_negative = refl

dec_zero : dec_text (pos 0) 2 ≡ codes "0.0"
unfolding digits
dec_zero = refl

dec_inner_zeros : dec_text (pos 1203040) 5 ≡ codes "12.0304"
unfolding digits
dec_inner_zeros = refl

-- values
quoted_text : value_text (values.Text (codes "a\"b\\c~")) ≡ codes "\"a\\22b\\5cc~\""
quoted_text = refl

number_text : value_text (values.Uint 18446744073709551615) ≡ codes "18446744073709551615"
unfolding digits
number_text = refl

list_text : value_text (values.List (values.Text (codes "x") ∷ values.Bool true ∷ [])) ≡
    codes "[\"x\",true]"
unfolding Rattle.base_kinds.specs.declared.value.Value.TheBlock.hidden-the_row-Value-0 denote.Hole.Carrier.hidden
list_text = refl

binary_text : value_text (values.Bin (1 ∷ 2 ∷ [])) ≡ codes "b:AQI="
unfolding encode_symbols
binary_text = refl

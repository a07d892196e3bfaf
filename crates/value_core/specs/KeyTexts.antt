-- Which text is the key of which value (gNMI path conventions 2.2.1, RFC 7951 6).
use Rattle.std.specs.Prelude.{◌≡◌, ℕ, ◌^◌, List, Bool, true, nat_lt, IsTrue}
use Rattle.std.specs.List.{list_all}
use Rattle.base_kinds.specs.declared.value.Value.{Value}
use Rattle.base_kinds.specs.declared.value.Value as v
use Rattle.base_kinds.specs.declared.schema.Shape.{Shape}
use Rattle.base_kinds.specs.Keys.{key_text}
use Rattle.base_kinds.specs.Values.{fits_signed, has_shape}

-- the numbers have 64 bits, and octets are below 256: so is every value in memory
abbrev pub is_stored : Value → Bool
is_stored (v.Int number) = fits_signed 64 number
is_stored (v.Uint number) = nat_lt number (2 ^ 64)
is_stored (v.Dec digits places) = fits_signed 64 digits
is_stored (v.Bin octets) = list_all (λ octet. nat_lt octet 256) octets
is_stored _ = true

abbrev pub IsStored : Value → Type 0
IsStored value = IsTrue (is_stored value)

-- the text is the key text of the value, which is one of a leaf of this shape
pub record IsKeyOf (shape : Shape) (text : List ℕ) (value : Value) : Type 0 where
  pub stored : IsStored value
  pub shaped : IsTrue (has_shape shape value)
  pub spelled : text ≡ key_text value

-- Numbers and octets as bits, the most significant bit first.
use Rattle.std.specs.Prelude.{ℕ, zero, suc, ◌==◌, Bool, List, [], ◌∷◌}
use Rattle.std.specs.Int.{bit_at}
use Rattle.std.specs.List.{flat_map}

-- the lowest n bits of a number
unfoldable pub bits_of : ℕ → ℕ → List Bool
bits_of zero value = []
bits_of (suc n) value = (bit_at value n == 1) ∷ bits_of n value

-- the bits of a run of octets
unfoldable pub octet_bits : List ℕ → List Bool
octet_bits octets = flat_map (bits_of 8) octets

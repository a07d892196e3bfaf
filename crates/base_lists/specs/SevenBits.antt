-- Numbers in groups of seven bits, the lowest first, where the top bit of an octet says that another group follows: the
-- integers of header blocks past their prefix (RFC 7541 5.1), and varints (protobuf.dev, "Encoding", "Base 128 Varints").
use Rattle.std.specs.Prelude.{ℕ, zero, suc, ◌+◌, ◌*◌, ◌/◌, ◌%◌, ◌<◌, ◌≤◌, List, [], ◌∷◌, nat_lt, if◌then◌else◌}

-- the number whose groups are the low seven bits of each octet
abbrev pub number_of_groups : List ℕ → ℕ
number_of_groups [] = 0
number_of_groups (octet ∷ octets) = octet % 128 + 128 * number_of_groups octets

-- each octet but the last has its top bit set
abbrev pub IsMarked : List ℕ → Type 0
IsMarked [] = ⊥
IsMarked (octet ∷ []) = octet < 128
IsMarked (octet ∷ next ∷ octets) = (128 ≤ octet) × IsMarked (next ∷ octets)

-- the fewest groups of a number, where so many at most stand before the last
abbrev pub groups_of : ℕ → ℕ → List ℕ
groups_of zero n = n ∷ []
groups_of (suc more) n = if nat_lt n 128 then n ∷ [] else (n % 128 + 128) ∷ groups_of more (n / 128)

-- Base 128 varints (protobuf.dev, "Encoding", "Base 128 Varints").
use Rattle.std.specs.Prelude.{◌≡◌, ℕ, ◌^◌, ◌<◌, ◌≤◌, List, length}
use Rattle.base_lists.specs.SevenBits.{number_of_groups, IsMarked, groups_of}

-- how many octets a varint has at most
abbrev pub most_octets : ℕ
most_octets = 10

-- The octets spell the number: in 64 bits and at most ten octets. They need not be the fewest.
pub record IsVarint (octets : List ℕ) (n : ℕ) : Type 0 where
  pub marked : IsMarked octets
  pub short : length octets ≤ most_octets
  pub value : number_of_groups octets ≡ n
  pub fits : n < 2 ^ 64

-- the shortest spelling
unfoldable pub shortest : ℕ → List ℕ
shortest n = groups_of 9 n

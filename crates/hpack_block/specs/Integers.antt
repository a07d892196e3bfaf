-- Integers of header blocks (RFC 7541, section 5.1).
use Rattle.std.specs.Prelude.{◌≡◌, ℕ, ◌+◌, ◌-◌, ◌%◌, ◌^◌, ◌<◌, ◌≤◌, ◌⊎◌, List, [], ◌∷◌, ◌++◌, length}
use Rattle.base_lists.specs.SevenBits.{number_of_groups, IsMarked}

-- what an integer is here at most
abbrev pub largest_integer : ℕ
largest_integer = 2147483647

-- how many octets an integer has here at most behind its prefix
abbrev pub most_groups : ℕ
most_groups = 5

-- The prefix holds the integer: it is less than the largest that the prefix can hold.
pub record InPrefix (low most : ℕ) (after : List ℕ) (n : ℕ) (rest : List ℕ) : Type 0 where
  pub fits : low < most
  pub value : n ≡ low
  pub follows : after ≡ rest

-- The prefix is full, and further octets hold what is above it.
pub record PastPrefix (low most : ℕ) (after : List ℕ) (n : ℕ) (rest : List ℕ) : Type 0 where
  pub full : low ≡ most
  pub groups : List ℕ
  pub follows : after ≡ groups ++ rest
  pub marked : IsMarked groups
  pub few : length groups ≤ most_groups
  pub value : n ≡ most + number_of_groups groups
  pub bounded : n ≤ largest_integer

-- The octets begin with the integer, which has a prefix of so many bits in the first octet, and the rest follows.
-- The bits above the prefix are not looked at.
abbrev pub IsInteger : ℕ → List ℕ → ℕ → List ℕ → Type 0
IsInteger bits [] n rest = ⊥
IsInteger bits (first ∷ after) n rest =
    InPrefix (first % 2 ^ bits) (2 ^ bits - 1) after n rest
    ⊎ PastPrefix (first % 2 ^ bits) (2 ^ bits - 1) after n rest

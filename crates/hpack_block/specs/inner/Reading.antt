-- Reading an integer from the left. Only private functions cite these steps: what an integer is stands in
-- Integers.antt, and each step is proved to agree.
use Rattle.std.specs.Prelude.{ℕ, zero, suc, ◌+◌, ◌-◌, ◌*◌, ◌%◌, ◌^◌, List, [], ◌∷◌, Option, Some, None, nat_lt, nat_le, if◌then◌else◌}
use Rattle.hpack_block.specs.Integers.{largest_integer, most_groups}

abbrev pub bounded : ℕ → List ℕ → Option (ℕ × List ℕ)
bounded n rest = if nat_le n largest_integer then Some (n, rest) else None

-- one octet before the others
abbrev pub with_group : ℕ → Option (ℕ × List ℕ) → Option (ℕ × List ℕ)
with_group b None = None
with_group b (Some higher) = bounded (b % 128 + 128 * higher.0) higher.1

abbrev pub groups_at : ℕ → List ℕ → Option (ℕ × List ℕ)
groups_at zero octets = None
groups_at (suc more) [] = None
groups_at (suc more) (b ∷ bs) = if nat_lt b 128 then Some (b, bs)
    else with_group b (groups_at more bs)

abbrev pub above : ℕ → Option (ℕ × List ℕ) → Option (ℕ × List ℕ)
above most None = None
above most (Some more) = bounded (most + more.0) more.1

abbrev pub integer_at : ℕ → List ℕ → Option (ℕ × List ℕ)
integer_at bits [] = None
integer_at bits (first ∷ after) = if nat_lt (first % 2 ^ bits) (2 ^ bits - 1)
    then Some (first % 2 ^ bits, after) else above (2 ^ bits - 1) (groups_at most_groups after)

-- What is set: an interface and its mtu, drawn by a generator that goes on from a seed.
use Rattle.std.specs.Prelude.{ℕ, ◌+◌, ◌*◌, ◌/◌, ◌%◌, ◌^◌, List, ◌++◌, codes}
use Rattle.std.specs.Fmt.{decimal}

-- The state behind this one: a linear congruential generator with Knuth's constants for MMIX
-- (The Art of Computer Programming, volume 2, 3.3.4).
abbrev pub state_behind : ℕ → ℕ
state_behind state = (state * 6364136223846793005 + 1442695040888963407) % 2 ^ 64

-- what is drawn at a state: its upper 31 bits
abbrev pub drawn_at : ℕ → ℕ
drawn_at state = state / 2 ^ 33

-- one of 64 interfaces
abbrev pub interface_of : ℕ → List ℕ
interface_of drawn = codes "eth" ++ decimal (drawn % 64)

-- one of 8,000 sizes
abbrev pub mtu_of : ℕ → ℕ
mtu_of drawn = 1280 + drawn / 64 % 8000

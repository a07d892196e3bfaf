-- The checksum of what was read, value by value.
use Rattle.std.specs.Prelude.{ℕ, ◌+◌, ◌*◌, ◌%◌, ◌^◌}

-- 31 times the checksum before, and a value, in 64 bits
abbrev pub added : ℕ → ℕ → ℕ
added before value = (before * 31 + value) % 2 ^ 64

-- How much waits on streams.
use Rattle.std.specs.Prelude.{ℕ, ◌+◌, ◌-◌, ◌^◌, min, List, [], ◌∷◌, length}
use Rattle.h2_windows.specs.declared.stream.Stream.{Stream}

-- the octets that wait on all of the streams
abbrev pub waiting : List Stream → ℕ
waiting [] = 0
waiting (s ∷ streams) = length s.pending + waiting streams

-- a count stands still at the end of a u64
abbrev pub counted : ℕ → ℕ
counted count = min count (2 ^ 64 - 1)

-- The checksum of messages.
use Rattle.std.specs.Prelude.{ℕ, List, length}
use Rattle.benches.specs.Checksum.{added}

-- how many octets a message has
abbrev pub with_length : ℕ → List ℕ → ℕ
with_length before message = added before (length message)

-- The octet at a gate. An open gate stands in front of an entry's record, and every other octet is
-- a closed one (this project's own).
use Rattle.std.specs.Prelude.{ℕ}

-- 0xA5
abbrev pub open_gate : ℕ
open_gate = 165

-- the closed gate that is written
abbrev pub closed_gate : ℕ
closed_gate = 0

-- How long replies, and the name of a target, may be: this project's own bounds.
use Rattle.std.specs.Prelude.{ℕ, Bool, nat_lt}

-- the octets of the reply to a Get or a Set
abbrev pub most_reply_octets : ℕ
most_reply_octets = 4194304

-- A Set's reply ends with its timestamp, which isn't known before the Set is judged: a field of ten octets at most, since a
-- stamp is below 2^63.
abbrev pub stamp_octets : ℕ
stamp_octets = 10

abbrev pub is_too_large : ℕ → Bool
is_too_large octets = nat_lt most_reply_octets octets

-- the octets of the target's name in the prefix of a Get
abbrev pub most_target_octets : ℕ
most_target_octets = 1024

-- Single messages, numbers, truth values and enums. What is absent is read as its default (protobuf.dev, "Language Guide
-- (proto 3)", "Default Field Values").
use Rattle.std.specs.Prelude.{ℕ, ◌%◌, ◌^◌, List, [], Bool, not, ◌==◌, unwrap_or}
use Rattle.pb_message.specs.Values.{number_under, message_under}

-- the octets of a single message; an absent one is read as one without fields
abbrev pub single_message : ℕ → List ℕ → List ℕ
single_message number octets = unwrap_or (message_under number octets) []

-- a uint64; an absent one is 0
abbrev pub count_under : ℕ → List ℕ → ℕ
count_under number octets = unwrap_or (number_under number octets) 0

-- a bool, which every number but 0 sets; an absent one is false
abbrev pub flag_under : ℕ → List ℕ → Bool
flag_under number octets = not (count_under number octets == 0)

-- An enum has 32 bits, of which a longer varint gives the low ones ("Updating A Message Type"); an absent one is 0.
abbrev pub enum_under : ℕ → List ℕ → ℕ
enum_under number octets = count_under number octets % 2 ^ 32

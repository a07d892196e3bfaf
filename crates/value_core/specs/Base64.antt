-- Octets in base64 with padding (RFC 4648 4).
use Rattle.std.specs.Prelude.{ℕ, List, Option}
use Rattle.base64.specs.Engines.{standard}
use Rattle.base64.specs.GeneralPurpose.{decoded_of}

-- the octets whose base64 the text is, with its padding and with no bits behind the last octet
abbrev pub octets_of : List ℕ → Option (List ℕ)
octets_of text = decoded_of standard text

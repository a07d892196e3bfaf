-- The headers of a reply (gRPC over HTTP/2, "Responses").
use Rattle.std.specs.Prelude.{ℕ, ◌+◌, ◌/◌, ◌%◌, List, [], ◌∷◌, Option, Some, None, codes, decimal, nat_lt, nat_le, nat_eq, not, ◌&&◌, if◌then◌else◌}
use Rattle.std.specs.List.{flat_map}
use Rattle.base_kinds.specs.declared.refusal.Refusal.{Refusal}
use Rattle.base_kinds.specs.Refusals.{code_of, text_of}
use Rattle.hpack_block.specs.declared.header.Header.{Header}
use Rattle.hpack_block.specs.StaticTable.{pair}

-- before the first message ("Response-Headers")
abbrev pub opening_headers : List Header
opening_headers =
    pair (codes ":status") (codes "200")
    ∷ pair (codes "content-type") (codes "application/grpc") ∷ []

-- 0 to 9 and A to F
abbrev pub hex_digit : ℕ → ℕ
hex_digit n = if nat_lt n 10 then 48 + n else 55 + n

-- A space or another octet that is printed stands for itself, but for the percent sign; any other is the percent sign and
-- two digits ("Percent-Encoded").
abbrev pub percent_encoded_octet : ℕ → List ℕ
percent_encoded_octet octet =
    if nat_le 0x20 octet && nat_le octet 0x7e && not (nat_eq octet 0x25) then octet ∷ []
    else 0x25 ∷ hex_digit (octet / 16) ∷ hex_digit (octet % 16) ∷ []

abbrev pub percent_encoded : List ℕ → List ℕ
percent_encoded text = flat_map percent_encoded_octet text

-- Behind the last message ("Trailers"): status 0, or the code of a refusal and its text. Where there is no message they
-- stand behind the opening headers ("Trailers-Only").
abbrev pub trailers : Option Refusal → List Header
trailers None = pair (codes "grpc-status") (codes "0") ∷ []
trailers (Some refusal) =
    pair (codes "grpc-status") (decimal (code_of refusal))
    ∷ pair (codes "grpc-message") (percent_encoded (text_of refusal))
    ∷ []

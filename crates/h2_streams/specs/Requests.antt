-- Header lists of requests, by those rules of RFC 9113 8.2 and 8.3 that decide a call: pseudo-headers (8.3.1), names in upper
-- case (8.2.1) and headers of connections (8.2.2). In this project's profile the other octets that 8.2.1 forbids, `te`,
-- `content-length` (8.1.1) and an empty `:path` aren't looked at, and a request by CONNECT (8.5) is malformed.
use Rattle.std.specs.Prelude.{ℕ, List, [], ◌∷◌, Bool, true, false, not, ◌&&◌, ◌||◌, ◌==◌, nat_le, codes, bytes_eq, count_by, slice_index, if◌then◌else◌}
use Rattle.hpack_block.specs.declared.header.Header.{Header}

abbrev pub is_pseudo : Header → Bool
is_pseudo header = slice_index header.name 0 == 58

abbrev pub named : List ℕ → Header → Bool
named name header = bytes_eq header.name name

-- the pseudo-headers of a request
abbrev pub is_request_pseudo : Header → Bool
is_request_pseudo header =
    named (codes ":method") header || named (codes ":scheme") header || named (codes ":path") header
    || named (codes ":authority") header

-- headers of HTTP/1.1's connections
abbrev pub is_of_connection : Header → Bool
is_of_connection header =
    named (codes "connection") header || named (codes "proxy-connection") header
    || named (codes "keep-alive") header
    || named (codes "transfer-encoding") header || named (codes "upgrade") header

abbrev pub has_upper_case : List ℕ → Bool
has_upper_case [] = false
has_upper_case (octet ∷ octets) = (nat_le 65 octet && nat_le octet 90) || has_upper_case octets

abbrev pub is_regular : Header → Bool
is_regular header =
    not (is_pseudo header) && not (is_of_connection header) && not (has_upper_case header.name)

abbrev pub are_regular : List Header → Bool
are_regular [] = true
are_regular (header ∷ headers) = is_regular header && are_regular headers

-- pseudo-headers of a request, and behind them others
abbrev pub are_in_order : List Header → Bool
are_in_order [] = true
are_in_order (header ∷ headers) =
    if is_request_pseudo header then are_in_order headers else are_regular (header ∷ headers)

abbrev pub is_well_formed : List Header → Bool
is_well_formed headers =
    are_in_order headers && (count_by (named (codes ":method")) headers == 1)
    && (count_by (named (codes ":scheme")) headers == 1)
    && (count_by (named (codes ":path")) headers == 1)
    && nat_le (count_by (named (codes ":authority")) headers) 1

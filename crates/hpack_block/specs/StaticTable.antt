-- The static table (RFC 7541, appendix A).
use Rattle.std.specs.Prelude.{ℕ, List, [], ◌∷◌, codes}
use Rattle.hpack_block.specs.declared.header.Header.{Header}

abbrev pub pair : List ℕ → List ℕ → Header
pair name value = record { name = name; value = value }

abbrev pub nothing : Header
nothing = pair [] []

-- its entries, from index 1 on
unfoldable pub static_table : List Header
static_table =
    pair (codes ":authority") [] ∷
    pair (codes ":method") (codes "GET") ∷
    pair (codes ":method") (codes "POST") ∷
    pair (codes ":path") (codes "/") ∷
    pair (codes ":path") (codes "/index.html") ∷
    pair (codes ":scheme") (codes "http") ∷
    pair (codes ":scheme") (codes "https") ∷
    pair (codes ":status") (codes "200") ∷
    pair (codes ":status") (codes "204") ∷
    pair (codes ":status") (codes "206") ∷
    pair (codes ":status") (codes "304") ∷
    pair (codes ":status") (codes "400") ∷
    pair (codes ":status") (codes "404") ∷
    pair (codes ":status") (codes "500") ∷
    pair (codes "accept-charset") [] ∷
    pair (codes "accept-encoding") (codes "gzip, deflate") ∷
    pair (codes "accept-language") [] ∷
    pair (codes "accept-ranges") [] ∷
    pair (codes "accept") [] ∷
    pair (codes "access-control-allow-origin") [] ∷
    pair (codes "age") [] ∷
    pair (codes "allow") [] ∷
    pair (codes "authorization") [] ∷
    pair (codes "cache-control") [] ∷
    pair (codes "content-disposition") [] ∷
    pair (codes "content-encoding") [] ∷
    pair (codes "content-language") [] ∷
    pair (codes "content-length") [] ∷
    pair (codes "content-location") [] ∷
    pair (codes "content-range") [] ∷
    pair (codes "content-type") [] ∷
    pair (codes "cookie") [] ∷
    pair (codes "date") [] ∷
    pair (codes "etag") [] ∷
    pair (codes "expect") [] ∷
    pair (codes "expires") [] ∷
    pair (codes "from") [] ∷
    pair (codes "host") [] ∷
    pair (codes "if-match") [] ∷
    pair (codes "if-modified-since") [] ∷
    pair (codes "if-none-match") [] ∷
    pair (codes "if-range") [] ∷
    pair (codes "if-unmodified-since") [] ∷
    pair (codes "last-modified") [] ∷
    pair (codes "link") [] ∷
    pair (codes "location") [] ∷
    pair (codes "max-forwards") [] ∷
    pair (codes "proxy-authenticate") [] ∷
    pair (codes "proxy-authorization") [] ∷
    pair (codes "range") [] ∷
    pair (codes "referer") [] ∷
    pair (codes "refresh") [] ∷
    pair (codes "retry-after") [] ∷
    pair (codes "server") [] ∷
    pair (codes "set-cookie") [] ∷
    pair (codes "strict-transport-security") [] ∷
    pair (codes "transfer-encoding") [] ∷
    pair (codes "user-agent") [] ∷
    pair (codes "vary") [] ∷
    pair (codes "via") [] ∷
    pair (codes "www-authenticate") [] ∷
    []

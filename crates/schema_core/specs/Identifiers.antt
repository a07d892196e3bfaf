-- The colon, which stands between a module's name and a node's (RFC 7951 4) and in no identifier (RFC 7950 6.2).
use Rattle.std.specs.Prelude.{ℕ, List, Bool, not, ◌==◌}
use Rattle.std.specs.List.{list_all}

abbrev pub is_colon : ℕ → Bool
is_colon octet = octet == 58

abbrev pub lacks_colon : List ℕ → Bool
lacks_colon text = list_all (λ octet. not (is_colon octet)) text

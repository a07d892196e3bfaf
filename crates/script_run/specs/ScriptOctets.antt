-- The octets of a script, and those of them that are looked at where it is too long.
use Rattle.std.specs.Prelude.{ℕ, ◌==◌, nat_lt, List, [], ◌∷◌, Bool, length, take, if◌then◌else◌}
use Rattle.base_kinds.specs.Limits.{most_script_octets}

-- an octet in front of others, but for one other than a line feed in front of none
abbrev pub before_feed : ℕ → List ℕ → List ℕ
before_feed octet [] = if octet == 10 then octet ∷ [] else []
before_feed octet (other ∷ others) = octet ∷ other ∷ others

-- the text up to its last line feed
abbrev pub to_last_feed : List ℕ → List ℕ
to_last_feed [] = []
to_last_feed (octet ∷ octets) = before_feed octet (to_last_feed octets)

-- the script has more octets than a script may have, its line feeds counted
abbrev pub is_too_long : List ℕ → Bool
is_too_long script = nat_lt most_script_octets (length script)

-- the lines of a script, or those of a longer one that end within that limit
abbrev pub within_limit : List ℕ → List ℕ
within_limit script =
    if is_too_long script then to_last_feed (take most_script_octets script) else script

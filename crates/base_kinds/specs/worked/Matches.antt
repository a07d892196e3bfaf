-- Which patterns match which paths, worked out by hand from the rule (gNMI path conventions, wildcards in paths).
use Rattle.std.specs.Prelude.{◌≡◌, ℕ, List, [], ◌∷◌, true, false, not, codes, refl}
use Rattle.std.specs.List.{list_all}
use Rattle.base_kinds.specs.declared.path.Elem.{Elem}
use Rattle.base_kinds.specs.worked.Samples.{plain}
use Rattle.base_kinds.specs.Match.{matches, covers}

abbrev a : Elem
a = plain (codes "a")

abbrev b : Elem
b = plain (codes "b")

abbrev c : Elem
c = plain (codes "c")

abbrev any : Elem
any = plain (codes "*")

abbrev many : Elem
many = plain (codes "...")

-- `l` with one key, and with two
abbrev one_key : List ℕ → Elem
one_key value = record { name = codes "l"; keys = (codes "k", value) ∷ [] }

abbrev two_keys : List ℕ → List ℕ → Elem
two_keys first second =
    record { name = codes "l"; keys = (codes "j", first) ∷ (codes "k", second) ∷ [] }

abbrev x : List ℕ
x = codes "x"

abbrev y : List ℕ
y = codes "y"

abbrev star : List ℕ
star = codes "*"

-- pairs of a pattern and a path that it matches
abbrev matching : List (List Elem × List Elem)
matching =
    ([], [])
    ∷ (a ∷ [], a ∷ [])
    ∷ (a ∷ b ∷ [], a ∷ b ∷ [])
    ∷ (any ∷ [], a ∷ [])
    ∷ (a ∷ any ∷ c ∷ [], a ∷ b ∷ c ∷ [])
    ∷ (many ∷ [], [])
    ∷ (many ∷ [], a ∷ b ∷ c ∷ [])
    -- in the middle, for none, one and two elements
    ∷ (a ∷ many ∷ c ∷ [], a ∷ c ∷ [])
    ∷ (a ∷ many ∷ c ∷ [], a ∷ b ∷ c ∷ [])
    ∷ (a ∷ many ∷ c ∷ [], a ∷ b ∷ b ∷ c ∷ [])
    -- past an element that matches too
    ∷ (many ∷ c ∷ [], c ∷ b ∷ c ∷ [])
    -- at the end, for none and for two
    ∷ (a ∷ many ∷ [], a ∷ [])
    ∷ (a ∷ many ∷ [], a ∷ b ∷ c ∷ [])
    -- twice
    ∷ (many ∷ b ∷ many ∷ [], a ∷ b ∷ c ∷ [])
    ∷ (many ∷ many ∷ [], [])
    ∷ (many ∷ b ∷ many ∷ b ∷ [], b ∷ a ∷ b ∷ [])
    ∷ (many ∷ any ∷ [], a ∷ [])
    -- keys
    ∷ (one_key x ∷ [], one_key x ∷ [])
    ∷ (one_key star ∷ [], one_key x ∷ [])
    ∷ (plain (codes "l") ∷ [], one_key x ∷ [])
    ∷ (one_key x ∷ [], two_keys y x ∷ [])
    ∷ (two_keys star x ∷ [], two_keys y x ∷ [])
    ∷ (two_keys x star ∷ [], two_keys x y ∷ [])
    ∷ (any ∷ [], two_keys x y ∷ [])
    ∷ (record any { keys = (codes "k", x) ∷ [] } ∷ [], one_key x ∷ [])
    ∷ (many ∷ one_key x ∷ [], a ∷ one_key y ∷ one_key x ∷ [])
    -- keys of `...` aren't looked at, and a key with `*` needn't stand in the path
    ∷ (record many { keys = (codes "k", x) ∷ [] } ∷ [], a ∷ [])
    ∷ (record a { keys = (codes "k", star) ∷ [] } ∷ [], a ∷ [])
    ∷ []

-- and with one that it doesn't match
abbrev not_matching : List (List Elem × List Elem)
not_matching =
    ([], a ∷ [])
    ∷ (a ∷ [], [])
    ∷ (a ∷ [], b ∷ [])
    ∷ (a ∷ [], a ∷ b ∷ [])
    ∷ (a ∷ b ∷ [], a ∷ [])
    ∷ (any ∷ [], [])
    ∷ (any ∷ [], a ∷ b ∷ [])
    ∷ (a ∷ many ∷ c ∷ [], a ∷ b ∷ [])
    ∷ (a ∷ many ∷ c ∷ [], c ∷ [])
    ∷ (many ∷ b ∷ many ∷ b ∷ [], a ∷ b ∷ [])
    ∷ (many ∷ any ∷ [], [])
    ∷ (many ∷ c ∷ [], c ∷ b ∷ [])
    ∷ (one_key x ∷ [], one_key y ∷ [])
    ∷ (one_key x ∷ [], plain (codes "l") ∷ [])
    ∷ (two_keys x x ∷ [], two_keys x y ∷ [])
    ∷ (two_keys star x ∷ [], one_key y ∷ [])
    ∷ (plain (codes "**") ∷ [], a ∷ [])
    ∷ []

all_match : list_all (λ pair. matches pair.0 pair.1) matching ≡ true
all_match = refl

none_matches : list_all (λ pair. not (matches pair.0 pair.1)) not_matching ≡ true
none_matches = refl

-- a pattern covers what it matches and what is below that
below_is_covered : covers (any ∷ one_key star ∷ []) (a ∷ one_key x ∷ b ∷ []) ≡ true
below_is_covered = refl

root_covers : covers [] (a ∷ b ∷ []) ≡ true
root_covers = refl

above_is_not_covered : covers (a ∷ b ∷ []) (a ∷ []) ≡ false
above_is_not_covered = refl

other_is_not_covered : covers (a ∷ many ∷ c ∷ []) (a ∷ b ∷ []) ≡ false
other_is_not_covered = refl

-- The order of paths. gNMI leaves it open; here it is that of octets, element by element.
use Rattle.std.specs.Prelude.{ℕ, List, Bool}
use Rattle.std.specs.declared.cmp.Ordering.{Ordering}
use Rattle.std.specs.Ordering.{nat_cmp, ordering_then, is_eq}
use Rattle.std.specs.Cmp.Lexicographic.{slice_cmp}
use Rattle.base_kinds.specs.declared.path.Elem.{Elem}

-- octet by octet, and a front of a text comes before it
abbrev pub text_cmp : List ℕ → List ℕ → Ordering
text_cmp = slice_cmp nat_cmp

-- a key by its name, and then by its value
abbrev pub key_cmp : List ℕ × List ℕ → List ℕ × List ℕ → Ordering
key_cmp a b = ordering_then (text_cmp a.0 b.0) (text_cmp a.1 b.1)

-- an element by its name, and then by its keys, pair by pair
abbrev pub elem_cmp : Elem → Elem → Ordering
elem_cmp a b = ordering_then (text_cmp a.name b.name) (slice_cmp key_cmp a.keys b.keys)

-- a path element by element, and a front of a path comes before it
abbrev pub path_cmp : List Elem → List Elem → Ordering
path_cmp = slice_cmp elem_cmp

-- the paths are equal
abbrev pub same_path : List Elem → List Elem → Bool
same_path a b = is_eq (path_cmp a b)

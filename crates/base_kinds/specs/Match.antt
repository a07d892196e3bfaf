-- Which paths a pattern matches, and which it covers (gNMI path conventions, wildcards in paths).
use Rattle.std.specs.Prelude.{ℕ, List, [], ◌∷◌, Bool, true, false, ◌&&◌, ◌||◌, codes, map, if◌then◌else◌}
use Rattle.std.specs.List.{list_any, list_all}
use Rattle.std.specs.Str.{bytes_eq}
use Rattle.base_kinds.specs.declared.path.Elem.{Elem}

-- what is left of a path behind each of its fronts, the whole path first
abbrev pub suffixes : List Elem → List (List Elem)
suffixes [] = [] ∷ []
suffixes (elem ∷ elems) = (elem ∷ elems) ∷ suffixes elems

-- the fronts of a path, the empty one first
abbrev pub prefixes : List Elem → List (List Elem)
prefixes [] = [] ∷ []
prefixes (elem ∷ elems) = [] ∷ map (λ front. elem ∷ front) (prefixes elems)

-- the pattern's key has the value `*`, or stands in the element with its value
abbrev pub key_matches : Elem → List ℕ × List ℕ → Bool
key_matches elem key =
    bytes_eq key.1 (codes "*")
    || list_any (λ other. bytes_eq key.0 other.0 && bytes_eq key.1 other.1) elem.keys

-- the pattern's name is `*` or the element's, and so is each key that the pattern names
abbrev pub elem_matches : Elem → Elem → Bool
elem_matches pattern elem =
    (bytes_eq pattern.name (codes "*") || bytes_eq pattern.name elem.name)
    && list_all (key_matches elem) pattern.keys

-- the first element matches, and the rest passes the test
abbrev pub first_matches : Elem → (List Elem → Bool) → List Elem → Bool
first_matches pattern test [] = false
first_matches pattern test (elem ∷ elems) = elem_matches pattern elem && test elems

-- `...` stands for any number of elements, none included, and each other element of a pattern for one
abbrev pub matches : List Elem → List Elem → Bool
matches [] [] = true
matches [] (elem ∷ elems) = false
matches (pattern ∷ patterns) path =
    if bytes_eq pattern.name (codes "...") then list_any (matches patterns) (suffixes path)
    else first_matches pattern (matches patterns) path

-- some front of the path matches
abbrev pub covers : List Elem → List Elem → Bool
covers pattern path = list_any (matches pattern) (prefixes path)

-- A text cut at a separator.
use Rattle.std.specs.Prelude.{◌≡◌, ℕ, List, [], ◌∷◌, ◌++◌, Bool, not, ◌==◌, Option, Some, None, IsTrue}
use Rattle.std.specs.List.{list_all, slice_split}

-- the parts between the separators: a text without one is one part, and parts may be empty
abbrev pub parts_of : ℕ → List ℕ → List (List ℕ)
parts_of separator octets = slice_split (λ octet. octet == separator) octets

-- the parts of what is left, where something is left
abbrev pub parts_left : ℕ → Option (List ℕ) → List (List ℕ)
parts_left separator None = []
parts_left separator (Some octets) = parts_of separator octets

-- none of the octets is the separator
abbrev pub lacks : ℕ → List ℕ → Bool
lacks separator octets = list_all (λ octet. not (octet == separator)) octets

-- nothing, or a text that begins with the separator
abbrev pub BeginsOrEnds : ℕ → List ℕ → Type 0
BeginsOrEnds separator [] = Unit {0}
BeginsOrEnds separator (octet ∷ octets) = octet ≡ separator

-- what stands before the first separator, and what is left from there on
pub record IsCut (separator : ℕ) (octets front rest : List ℕ) : Type 0 where
  pub whole : octets ≡ front ++ rest
  pub lacking : IsTrue (lacks separator front)
  pub begins : BeginsOrEnds separator rest

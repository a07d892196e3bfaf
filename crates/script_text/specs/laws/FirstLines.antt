-- What the front of a text decides about its first line, whatever follows the front.
use Rattle.std.specs.Prelude.{◌≡◌, ℕ, ◌+◌, ◌≤◌, List, [], ◌∷◌, ◌++◌, length, ◌⊎◌}
use Rattle.script_text.specs.Lines.{lines_of}

-- the line ends in the front: it is the same with what follows, and so are the lines after it
pub record EndsInFront (front more first rest : List ℕ) : Type 0 where
  pub alone : lines_of front ≡ first ∷ lines_of rest
  pub followed : lines_of (front ++ more) ≡ first ∷ lines_of (rest ++ more)
  pub cut : front ≡ first ++ 10 ∷ rest
  pub whole : length front ≡ length first + 1 + length rest

-- the front is one line without its line feed, and the first line of the whole is at least as long
pub record EndsLater (front more longer : List ℕ) (others : List (List ℕ)) : Type 0 where
  pub alone : lines_of front ≡ front ∷ []
  pub followed : lines_of (front ++ more) ≡ longer ∷ others
  pub longest : length front ≤ length longer

abbrev pub FirstLineStays : List ℕ → List ℕ → Type 0
FirstLineStays front more =
    ((first : List ℕ) × ((rest : List ℕ) × EndsInFront front more first rest))
    ⊎ ((longer : List ℕ) × ((others : List (List ℕ)) × EndsLater front more longer others))

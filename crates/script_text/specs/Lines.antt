-- The lines of a text. That the last one may lack its line feed is this project's own.
use Rattle.std.specs.Prelude.{◌≡◌, ℕ, List, [], ◌∷◌, ◌++◌, ◌⊎◌}
use Rattle.plain_texts.specs.Splits.{parts_of}

-- the parts, without the last one where it is empty
abbrev pub without_empty_last : List (List ℕ) → List (List ℕ)
without_empty_last [] = []
without_empty_last ([] ∷ []) = []
without_empty_last (part ∷ parts) = part ∷ without_empty_last parts

-- what stands between the line feeds of a text, without them; the last line may lack its line feed
abbrev pub lines_of : List ℕ → List (List ℕ)
lines_of text = without_empty_last (parts_of 10 text)

-- the text is this line, a line feed and this rest, or this line alone
abbrev pub IsFirstCut : List ℕ → List ℕ → List ℕ → Type 0
IsFirstCut text line rest = (text ≡ line ++ 10 ∷ rest) ⊎ ((text ≡ line) × (rest ≡ []))

-- The rows that patterns choose, with one row more.
use Rattle.std.proofs.Common.{◌≡◌, ℕ, ◌+◌, ◌<◌, take, get_or, ◌++◌, List, [], ◌∷◌, length, true, false, cond, sym, ap, ◌∙◌, append-nil}
use Rattle.std.proofs.lemmas.List.Elements.{filter_more}
use Rattle.base_kinds.specs.declared.path.Elem.{Elem}
use Rattle.base_kinds.specs.declared.operation.Row.{Row}
use Rattle.base_kinds.specs.Parts.{is_covered, part}

part_more : (patterns : List (List Elem)) (rows : List Row) (i : ℕ) (row : Row) → i < length rows → row ≡ get_or rows i row → part patterns (take (i + 1) rows) ≡ part patterns (take i rows) ++ cond (is_covered patterns row.path) (row ∷ []) []
part_more patterns rows i row within is = filter_more (λ (r : Row). is_covered patterns r.path) rows i row within ∙ ap (λ (r : Row). part patterns (take i rows) ++ cond (is_covered patterns r.path) (r ∷ []) []) (sym is)

pub part_with : (patterns : List (List Elem)) (rows : List Row) (i : ℕ) (row : Row) → i < length rows → row ≡ get_or rows i row → is_covered patterns row.path ≡ true → part patterns (take (i + 1) rows) ≡ part patterns (take i rows) ++ row ∷ []
part_with patterns rows i row within is covered = part_more patterns rows i row within is ∙ ap (λ c. part patterns (take i rows) ++ cond c (row ∷ []) []) covered

pub part_without : (patterns : List (List Elem)) (rows : List Row) (i : ℕ) (row : Row) → i < length rows → row ≡ get_or rows i row → is_covered patterns row.path ≡ false → part patterns (take (i + 1) rows) ≡ part patterns (take i rows)
part_without patterns rows i row within is uncovered = part_more patterns rows i row within is ∙ ap (λ c. part patterns (take i rows) ++ cond c (row ∷ []) []) uncovered ∙ append-nil (part patterns (take i rows))

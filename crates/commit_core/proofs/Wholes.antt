-- The root's pattern covers every row.
use Rattle.std.proofs.Common.{◌≡◌, List, [], ◌∷◌, true, cond, refl, ap, ◌∙◌}
use Rattle.base_kinds.specs.declared.path.Elem.{Elem}
use Rattle.base_kinds.specs.declared.operation.Row.{Row}
use Rattle.base_kinds.specs.Parts.{is_covered, part}

abbrev root : List (List Elem)
root = [] ∷ []

covered : (path : List Elem) → is_covered root path ≡ true
covered [] = refl
covered (elem ∷ elems) = refl

pub whole : (rows : List Row) → part root rows ≡ rows
whole [] = refl
whole (row ∷ rows) = ap (λ c. cond c (row ∷ part root rows) (part root rows)) (covered row.path) ∙ ap (λ rest. row ∷ rest) (whole rows)

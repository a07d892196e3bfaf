-- Rows that stand side by side.
use Rattle.std.specs.Prelude.{ℕ, List, [], ◌∷◌, Bool, false, Option, Some, None, slice_get, if◌then◌else◌}
use Rattle.std.specs.Ordering.{is_eq}
use Rattle.std.specs.Str.{bytes_eq}
use Rattle.base_kinds.specs.declared.path.Elem.{Elem}
use Rattle.base_kinds.specs.declared.operation.Row.{Row}
use Rattle.base_kinds.specs.Paths.{elem_cmp}

-- the row in front: in the first run, where it goes with that run's first row, or else in a run of its own
abbrev pub with_front : (Row → Row → Bool) → Row → List (List Row) → List (List Row)
with_front same row [] = (row ∷ []) ∷ []
with_front same row ([] ∷ others) = (row ∷ []) ∷ others
with_front same row ((next ∷ run) ∷ others) =
    if same row next then (row ∷ next ∷ run) ∷ others else (row ∷ []) ∷ (next ∷ run) ∷ others

-- the rows cut between each two neighbours that differ
abbrev pub runs : (Row → Row → Bool) → List Row → List (List Row)
runs same [] = []
runs same (row ∷ rows) = with_front same row (runs same rows)

-- both are there, and pass the test
abbrev pub both : (Elem → Elem → Bool) → Option Elem → Option Elem → Bool
both test (Some a) (Some b) = test a b
both test _ _ = false

abbrev pub same_name : Elem → Elem → Bool
same_name a b = bytes_eq a.name b.name

abbrev pub same_elem : Elem → Elem → Bool
same_elem a b = is_eq (elem_cmp a b)

-- the paths of the rows have the same name at this depth, counted from 0
abbrev pub share_name : ℕ → Row → Row → Bool
share_name depth a b = both same_name (slice_get a.path depth) (slice_get b.path depth)

-- they have the same name and keys there: the rows stand in one entry of a list
abbrev pub share_entry : ℕ → Row → Row → Bool
share_entry depth a b = both same_elem (slice_get a.path depth) (slice_get b.path depth)

-- the element of the first row at this depth
abbrev pub first_elem : ℕ → List Row → Option Elem
first_elem depth [] = None
first_elem depth (row ∷ rows) = slice_get row.path depth

-- What a turn finds of the rows of each group, as its two walks find it.
use Rattle.std.specs.Prelude.{ℕ, zero, suc, List, [], ◌∷◌, Bool, true, false, ◌||◌, Option, Some, None, fold, length, replicate}
use Rattle.base_kinds.specs.declared.operation.Row.{Row}
use Rattle.sub_plan.specs.declared.plan.Line.{Line}
use Rattle.sub_plan.specs.Groups.{group_of}
use Rattle.stream_core.specs.declared.walk.Found.{Found}
use Rattle.stream_laws.specs.Differences.{is_gone, is_new_or_changed}

abbrev pub nothing_found : List Found → List Found
nothing_found found = replicate (length found) (record { differs = false; some = false })

-- a row of the group is found, that differs or doesn't
abbrev pub found_row : Bool → Found → Found
found_row differs found = record { differs = found.differs || differs; some = true }

abbrev pub found_at : ℕ → Bool → List Found → List Found
found_at number differs [] = []
found_at zero differs (one ∷ found) = found_row differs one ∷ found
found_at (suc number) differs (one ∷ found) = one ∷ found_at number differs found

-- a row of no group, or of one that isn't there, is nothing
abbrev pub found_in : Option ℕ → Bool → List Found → List Found
found_in None differs found = found
found_in (Some number) differs found = found_at number differs found

-- a walk over rows, each of which differs or doesn't
abbrev pub found_by : List Line → (Row → Bool) → List Found → List Row → List Found
found_by lines differs found rows =
    fold (λ found row. found_in (group_of lines row.path) (differs row) found) found rows

abbrev pub found_gone : List Line → List Row → List Found → List Row → List Found
found_gone lines rows found sent = found_by lines (is_gone rows) found sent

abbrev pub found_new : List Line → List Row → List Found → List Row → List Found
found_new lines sent found rows = found_by lines (is_new_or_changed sent) found rows

abbrev pub found_all : List Line → List Row → List Row → List Found → List Found
found_all lines sent rows found =
    found_new lines sent (found_gone lines rows (nothing_found found) sent) rows

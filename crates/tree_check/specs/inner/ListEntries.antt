-- The entries of one list as they come up along rows that rise by path: those of one instance of its parent stand
-- together, and an entry's rows too. So it is enough to remember the last entry and how many its parent has so far.
-- Private functions alone cite this.
use Rattle.std.specs.Prelude.{ℕ, ◌+◌, List, [], ◌∷◌, Bool, true, ◌&&◌, ◌==◌, Option, Some, None, length, take, nat_lt, nat_le, option_to_list, if◌then◌else◌}
use Rattle.std.specs.List.{flat_map}
use Rattle.base_kinds.specs.declared.path.Elem.{Elem}
use Rattle.base_kinds.specs.declared.operation.Row.{Row}
use Rattle.base_kinds.specs.Schema.{names_of, same_names}
use Rattle.base_kinds.specs.Paths.{same_path}
use Rattle.base_kinds.specs.Ancestors.{parent_of}

-- the path stands below an entry of the list with these names
abbrev pub is_below : List (List ℕ) → List Elem → Bool
is_below names path =
    nat_lt (length names) (length path) && same_names (names_of (take (length names) path)) names

-- that entry
abbrev pub entry_of : List (List ℕ) → List Elem → Option (List Elem)
entry_of names path = if is_below names path then Some (take (length names) path) else None

-- how many entries the parent of the last one has so far, where this entry comes up; before the first entry there are none
abbrev pub count_after : List Elem → ℕ → List Elem → ℕ
count_after last count entry =
    if count == 0 then 1 else
    if same_path last entry then count else
    if same_path (parent_of last) (parent_of entry) then count + 1 else 1

-- no parent gets more than so many entries, where the last entry is this one, its parent has so many so far, and these come up
abbrev pub few_behind : ℕ → List Elem → ℕ → List (List Elem) → Bool
few_behind most last count [] = true
few_behind most last count (entry ∷ entries) =
    nat_le (count_after last count entry) most
    && few_behind most entry (count_after last count entry) entries

-- the entries that come up along the rows
abbrev pub entries_along : List (List ℕ) → List Row → List (List Elem)
entries_along names rows = flat_map (λ row. option_to_list (entry_of names row.path)) rows

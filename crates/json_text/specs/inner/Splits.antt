-- How runs of rows are cut.
use Rattle.std.specs.Prelude.{ℕ, suc, List, [], ◌∷◌, Bool, if◌then◌else◌}
use Rattle.base_kinds.specs.declared.operation.Row.{Row}
use Rattle.json_text.specs.declared.runs.Shared.{Shared}
use Rattle.json_text.specs.declared.runs.Shared.TheVariants.{Name, Entry}
use Rattle.json_text.specs.Runs.{share_name, share_entry}

-- the two rows share this at a depth
abbrev pub shares : Shared → ℕ → Row → Row → Bool
shares Name = share_name
shares Entry = share_entry

-- so many of these rows go on the run of the row before them
abbrev pub run_length : (Row → Row → Bool) → Row → List Row → ℕ
run_length same last [] = 0
run_length same last (row ∷ rows) = if same last row then suc (run_length same row rows) else 0

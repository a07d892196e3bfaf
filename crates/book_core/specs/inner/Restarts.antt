-- The entry that ends a trial which is open where a target is started anew.
use Rattle.std.specs.Prelude.{◌≡◌, ℕ, List, [], ◌∷◌, ◌++◌, Option, Some, None, true, false}
use Rattle.base_kinds.specs.declared.entry.Entry.{Entry}
use Rattle.base_kinds.specs.History.{world_of}
use Rattle.base_kinds.specs.Step.{is_open}
use Rattle.book_port.specs.Opened.{restart_entry}

-- it is there exactly where a trial is open
abbrev pub IsRestartOf : List Entry → ℕ → Option Entry → Type 0
IsRestartOf h now None = is_open (world_of h).trial ≡ false
IsRestartOf h now (Some entry) = (is_open (world_of h).trial ≡ true) × (entry ≡ restart_entry h now)

-- the history with the entry, where there is one
abbrev pub with_one : List Entry → Option Entry → List Entry
with_one h None = h
with_one h (Some entry) = h ++ entry ∷ []

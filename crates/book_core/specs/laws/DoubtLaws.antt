-- What a book has in doubt is an entry that may stand behind its history: the histories that calls go
-- through are runs of the book, and so is the one with the attempt.
use Rattle.std.specs.Prelude.{ℕ, ◌<◌, List, [], ◌∷◌, ◌++◌, Option, Some, None}
use Rattle.std.specs.List.{AllByRecursion}
use Rattle.base_kinds.specs.declared.entry.Ask.{Ask}
use Rattle.base_kinds.specs.declared.entry.Entry.{Entry}
use Rattle.base_kinds.specs.Legal.{IsFit}
use Rattle.book_port.specs.Answers.{set_stages, look_stages}
use Rattle.book_port.specs.Opened.{Opened, IsRun, rules_in}
use Rattle.book_core.specs.Moments.{IsDoubted}

-- the history with what is in doubt, where anything is, is a run too
abbrev pub IsRunWith : Opened → List Entry → Option Entry → Type 0
IsRunWith opened h None = Unit {0}
IsRunWith opened h (Some attempt) = IsRun opened (h ++ attempt ∷ [])

-- the histories that a Set goes through
abbrev pub SetStagesAreRuns : Type 0
SetStagesAreRuns = (opened : Opened) (h : List Entry) (now author : ℕ) (ask : Ask) → IsRun opened h
    → 0 < author → IsFit ask
    → AllByRecursion (IsRun opened) (set_stages (rules_in opened) h now author ask)

-- and those that a look goes through
abbrev pub LookStagesAreRuns : Type 0
LookStagesAreRuns = (opened : Opened) (h : List Entry) (now : ℕ) → IsRun opened h
    → AllByRecursion (IsRun opened) (look_stages h now)

-- so what a call leaves in doubt may stand, where what it found in doubt may
abbrev pub DoubtIsRun : Type 0
DoubtIsRun = (opened : Opened) (stages : List (List Entry)) (h : List Entry) (doubt : Option Entry)
    (left : List Entry) (doubt_left : Option Entry) → AllByRecursion (IsRun opened) stages
    → IsRunWith opened h doubt → IsDoubted stages h doubt left doubt_left
    → IsRunWith opened left doubt_left

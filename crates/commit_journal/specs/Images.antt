-- Which journals a stop leaves of a ledger.
use Rattle.std.specs.Prelude.{◌≡◌, ◌⊎◌, ℕ, List, [], ◌∷◌, ◌++◌, Option, Some, None}
use Rattle.base_kinds.specs.declared.entry.Entry.{Entry}
use Rattle.base_kinds.specs.declared.entry.Limits.{Limits}
use Rattle.journal_format.specs.Journal.{IsJournal}

-- the history is one of these
abbrev pub IsOneOf : List (List Entry) → List Entry → Type 0
IsOneOf [] h = ⊥
IsOneOf (first ∷ histories) h = (h ≡ first) ⊎ IsOneOf histories h

-- the octets are a journal of one of these histories
abbrev pub IsJournalOfAny : Limits → List (List Entry) → List ℕ → Type 0
IsJournalOfAny limits [] octets = ⊥
IsJournalOfAny limits (h ∷ histories) octets =
    IsJournal octets limits h ⊎ IsJournalOfAny limits histories octets

-- the history, and the history with the attempt, where there is one
abbrev pub histories_or : List Entry → Option Entry → List (List Entry)
histories_or h None = h ∷ []
histories_or h (Some attempt) = h ∷ (h ++ attempt ∷ []) ∷ []

-- the octets are a journal of the history, or of the history with the attempt, where there is one
abbrev pub IsJournalOr : Limits → List Entry → Option Entry → List ℕ → Type 0
IsJournalOr limits h None octets = IsJournal octets limits h
IsJournalOr limits h (Some attempt) octets =
    IsJournal octets limits h ⊎ IsJournal octets limits (h ++ attempt ∷ [])

-- Which journals a stop leaves of a book, at each moment since a call began.
use Rattle.std.specs.Prelude.{◌≡◌, ◌⊎◌, List, [], ◌∷◌, ◌++◌, Option, Some, None, IsSome}
use Rattle.base_kinds.specs.declared.entry.Entry.{Entry}
use Rattle.base_kinds.specs.declared.entry.Limits.{Limits}
use Rattle.disk_model.specs.Content.{Content, WhereTold}
use Rattle.disk_model.specs.Moments.{Leaves, LeavesOnly, HoldsThroughout}
use Rattle.commit_journal.specs.Images.{IsJournalOr, IsJournalOfAny}

-- What was in doubt is settled at a moment between, up to which the history may stand with the
-- attempt. From then on images are journals of one of these histories.
pub record Settles (limits : Limits) (h : List Entry) (doubt : Option Entry)
    (stages : List (List Entry)) (old new : Content) : Type 0 where
  pub between : Content
  pub before : HoldsThroughout (Leaves (IsJournalOr limits h doubt)) old between
  pub after : HoldsThroughout (Leaves (IsJournalOfAny limits stages)) between new

-- The doubt stayed, since its repair failed and nothing else was done. Or it was settled first.
abbrev pub GoesThrough : Limits → List Entry → Option Entry → List (List Entry) → Option Entry
    → Option Content → Option Content → Type 0
GoesThrough limits h doubt stages left old new =
    (IsSome doubt × (left ≡ doubt) × LeavesOnly (IsJournalOr limits h doubt) old new)
    ⊎ WhereTold old new (Settles limits h doubt stages)

-- what is left in doubt is the last entry of one of these histories
abbrev pub IsAttempted : List (List Entry) → List Entry → Option Entry → Type 0
IsAttempted stages h None = Unit {0}
IsAttempted [] h (Some attempt) = ⊥
IsAttempted (stage ∷ others) h (Some attempt) =
    (h ++ attempt ∷ [] ≡ stage) ⊎ IsAttempted others h (Some attempt)

-- and so it is, or it was in doubt before, over the same history
abbrev pub IsDoubted : List (List Entry) → List Entry → Option Entry → List Entry → Option Entry
    → Type 0
IsDoubted stages h doubt left doubt_left =
    IsAttempted stages left doubt_left ⊎ ((left ≡ h) × (doubt_left ≡ doubt))

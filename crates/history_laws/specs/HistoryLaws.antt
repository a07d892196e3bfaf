-- What holds of histories and of the states that they stand for.
use Rattle.std.specs.Prelude.{◌≡◌, ◌+◌, ◌<◌, List, [], ◌∷◌, ◌++◌, length, Some}
use Rattle.base_kinds.specs.declared.entry.Entry.{Entry}
use Rattle.base_kinds.specs.History.{IsHistory, OpenTrial, world_after, world_from, world_of, stamp_of}
use Rattle.base_kinds.specs.Rising.{IsRising}

-- one more entry changes the state by what its kind says
abbrev pub StateAfterOne : Type 0
StateAfterOne =
    (h : List Entry) (entry : Entry) →
    world_of (h ++ entry ∷ []) ≡ world_after entry.kind (world_of h)

-- and so do more entries, one after another
abbrev pub StateAfterMore : Type 0
StateAfterMore = (h more : List Entry) → world_of (h ++ more) ≡ world_from (world_of h) more

-- the state's stamp is that of the last entry
abbrev pub StampAfterOne : Type 0
StampAfterOne = (h : List Entry) (entry : Entry) → stamp_of (h ++ entry ∷ []) ≡ entry.stamp

-- an entry with the next number and a later stamp goes on with a history
abbrev pub NextGoesOn : Type 0
NextGoesOn =
    (h : List Entry) (entry : Entry) → IsHistory h → entry.number ≡ length h + 1 →
    stamp_of h < entry.stamp → IsHistory (h ++ entry ∷ [])

-- a front of a history is one
abbrev pub FrontsAreHistories : Type 0
FrontsAreHistories = (h more : List Entry) → IsHistory (h ++ more) → IsHistory h

-- the rows of the tree rise
abbrev pub TreesRise : Type 0
TreesRise = (h : List Entry) → IsRising (world_of h).tree

-- and so do those of the tree before an open trial
abbrev pub TreesBeforeRise : Type 0
TreesBeforeRise =
    (h : List Entry) (trial : OpenTrial) → (world_of h).trial ≡ Some trial → IsRising trial.before

-- What a stream keeps true of its parts, and how its groups move on.
use Rattle.std.specs.Prelude.{◌≡◌, ℕ, List, [], ◌∷◌, length}
use Rattle.base_kinds.specs.declared.operation.Row.{Row}
use Rattle.base_kinds.specs.Rising.{IsRising}
use Rattle.stream_laws.specs.declared.kinds.Beat.{Beat}
use Rattle.stream_laws.specs.declared.kinds.GroupState.{GroupState}
use Rattle.stream_laws.specs.Beats.{moved_on}
use Rattle.stream_core.specs.declared.walk.Found.{Found}

-- the rows that were sent rise, and there is room for what is found of each group and for its beat
pub record IsKept (states : List GroupState) (findings : List Found) (beats : List Beat)
    (sent : List Row) : Type 0 where
  pub rising : IsRising sent
  pub found : length findings ≡ length states
  pub room : length beats ≡ length states

-- each group moves on by its beat
abbrev pub moved_all : ℕ → List GroupState → List Beat → List GroupState
moved_all time [] all = []
moved_all time (state ∷ states) [] = []
moved_all time (state ∷ states) (one ∷ all) = moved_on time one state ∷ moved_all time states all

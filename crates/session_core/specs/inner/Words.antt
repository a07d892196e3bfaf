-- Words that wait to be said.
use Rattle.std.specs.Prelude.{ℕ, List, [], ◌∷◌}
use Rattle.h2_events.specs.declared.said.Said.{Said}
use Rattle.session_core.specs.declared.waiting.Waiting.{Waiting}

-- all of them on one stream
abbrev pub words : ℕ → List Said → List Waiting
words stream [] = []
words stream (said ∷ others) = record { stream = stream; said = said } ∷ words stream others

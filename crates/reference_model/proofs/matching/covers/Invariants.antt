use Rattle.std.proofs.Common.{◌≡◌, ℕ, ◌<◌, take, false}
use Rattle.base_kinds.specs.Match.{matches}
use Rattle.reference_model.proofs.matching.covers.Given as goal

-- none of the shorter fronts matches
abbrev pub invariant-loop-n : goal.invariant-loop-n
invariant-loop-n l = (k : ℕ) → k < l.n → matches l.pattern-2 (take k l.path-2) ≡ false

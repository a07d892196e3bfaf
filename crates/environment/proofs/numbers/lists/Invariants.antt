use Rattle.std.proofs.Common.{◌≡◌, ℕ, ◌<◌, get_or, decimal}
use Rattle.environment.proofs.numbers.lists.Given as goal

-- none of the texts so far is the number
abbrev pub invariant-loop-text : goal.invariant-loop-text
invariant-loop-text l = (k : ℕ) → k < l.text-index → get_or l.texts k (decimal l.number) ≡ decimal l.number → ⊥

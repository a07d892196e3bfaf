use Rattle.std.proofs.Common.{◌≡◌, take, false}
use Rattle.base_kinds.specs.Parts.{is_covered}
use Rattle.plain_tree.proofs.rows.is_covered.Given as goal

-- none so far covers it
abbrev pub invariant-loop-pattern : goal.invariant-loop-pattern
invariant-loop-pattern l = is_covered (take l.pattern-index l.patterns) l.path ≡ false

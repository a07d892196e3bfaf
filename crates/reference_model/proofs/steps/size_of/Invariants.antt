use Rattle.std.proofs.Common.{◌≡◌, take}
use Rattle.base_kinds.specs.Records.{counted}
use Rattle.base_kinds.specs.Rules.{size_of}
use Rattle.reference_model.proofs.steps.size_of.Given as goal

-- the entries so far are counted
abbrev pub invariant-loop-entry : goal.invariant-loop-entry
invariant-loop-entry l = l.size ≡ counted (size_of (take l.entry-index l.entries))

use Rattle.std.proofs.Common.{◌≡◌, take}
use Rattle.base_kinds.specs.Records.{counted}
use Rattle.base_kinds.specs.Rules.{size_of}
use Rattle.commit_core.proofs.replay.journal_octets.Given as goal

abbrev pub invariant-loop-entry : goal.invariant-loop-entry
invariant-loop-entry l = l.octets ≡ counted (size_of (take l.entry-index l.entries))

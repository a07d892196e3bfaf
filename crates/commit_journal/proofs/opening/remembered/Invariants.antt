use Rattle.std.proofs.Common.{◌≡◌, take}
use Rattle.commit_journal.proofs.opening.remembered.Given as goal

abbrev pub invariant-loop-entry : goal.invariant-loop-entry
invariant-loop-entry l = l.history ≡ take l.entry-index l.entries

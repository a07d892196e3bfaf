use Rattle.std.proofs.Common.{◌≡◌, drop}
use Rattle.base_kinds.specs.History.{last_stamp, stamp_of}
use Rattle.commit_core.proofs.replay.last_stamp.Given as goal

abbrev pub invariant-loop-entry : goal.invariant-loop-entry
invariant-loop-entry l = last_stamp l.stamp (drop l.entry-index l.entries) ≡ stamp_of l.entries

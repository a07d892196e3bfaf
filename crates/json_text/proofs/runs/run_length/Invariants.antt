use Rattle.std.proofs.Common.{◌≡◌, ◌+◌, drop}
use Rattle.json_text.specs.inner.Splits.{run_length, shares}
use Rattle.json_text.proofs.runs.run_length.Given as goal

-- the rows so far, and those of the rest that go on their run
abbrev pub invariant-loop-count : goal.invariant-loop-count
invariant-loop-count l = l.count + run_length (shares l.shared l.depth) l.last (drop l.count l.rows) ≡ run_length (shares l.shared l.depth) l.first l.rows

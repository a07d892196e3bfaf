use Rattle.std.proofs.Common.{◌≡◌, length, take}
use Rattle.stream_core.specs.inner.Walks.{found_gone}
use Rattle.stream_core.proofs.walk.find_gone.Given as goal

-- what was found so far
abbrev pub invariant-loop-row : goal.invariant-loop-row
invariant-loop-row l = record {
  room : length l.found ≡ length l.fn.found;
  found : l.found ≡ found_gone l.lines l.rows l.fn.found (take l.row-index l.sent);
}

use Rattle.std.proofs.Common.{◌≡◌, ◌≤◌, ◌*◌, ◌+◌, ◌-◌, ◌^◌, drop}
use Rattle.h2_windows.specs.Bounds.{largest_pending}
use Rattle.h2_windows.specs.Holding.{waiting, counted}
use Rattle.h2_windows.proofs.holding.held.Given as goal

-- the streams before the place are counted
abbrev pub invariant-loop-stream : goal.invariant-loop-stream
invariant-loop-stream l = record {
  is : counted (waiting l.fn.streams) ≡ counted (l.count + waiting (drop l.stream-index l.streams));
  bound : l.count ≤ largest_pending * l.stream-index;
  fits : l.count ≤ 2 ^ 64 - 1;
}

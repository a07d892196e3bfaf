use Rattle.std.proofs.Common.{◌≡◌, ◌≤◌, ◌+◌, ◌++◌, drop}
use Rattle.sub_plan.specs.Plans.{numbered_lines}
use Rattle.sub_plan.proofs.reading.numbered_lines.Given as goal

abbrev pub invariant-loop-line : goal.invariant-loop-line
invariant-loop-line l =
    (l.made ++ numbered_lines l.prefix l.next (drop l.line-index l.lines) ≡ numbered_lines l.prefix 1 l.lines)
    × (l.next ≤ l.line-index + 1)

use Rattle.std.proofs.Common.{◌≡◌, take, map}
use Rattle.sub_plan.specs.Plans.{line_of}
use Rattle.sub_plan.proofs.reading.one_group.Given as goal

abbrev pub invariant-loop-line : goal.invariant-loop-line
invariant-loop-line l = l.made ≡ map (line_of l.prefix 0) (take l.line-index l.lines)

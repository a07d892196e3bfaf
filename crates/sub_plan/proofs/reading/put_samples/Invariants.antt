use Rattle.std.proofs.Common.{◌≡◌, ◌++◌, take, map, filter}
use Rattle.base_kinds.specs.declared.request.SubLine.{SubLine}
use Rattle.sub_plan.specs.Plans.{is_sample, sample_group}
use Rattle.sub_plan.proofs.reading.put_samples.Given as goal

abbrev pub invariant-loop-line : goal.invariant-loop-line
invariant-loop-line l =
    l.groups ≡ l.fn.groups ++ map sample_group (filter (λ (line : SubLine). is_sample line.mode) (take l.line-index l.lines))

use Rattle.std.proofs.Common.{◌≡◌, ◌+◌, ◌-◌, ◌/◌, arith, sym, ap, subst, ◌∙◌, Some}
use Rattle.base_kinds.specs.declared.operation.Row.{Row}
use Rattle.stream_core.specs.inner.Gaps.{IsBetween}
use Rattle.stream_core.proofs.Found.{behind_middle, found_there, nothing_between}
use Rattle.stream_core.proofs.search.value_of.Goals as goal

pub returns-in-Equal : goal.returns-in-Equal
returns-in-Equal c =
    let is = c.index-rows-middle.is in
    let short = c.loop-low-test.true in
    let inside = c.loop-low.invariant.inside in
    let ordered = c.loop-low.invariant.ordered in
    ap (λ (r : Row). Some r.value) is ∙ found_there _ c.index-rows-middle.result _ (c.loop-low.low + (c.loop-low.high - c.loop-low.low) / 2) c.requires (omega (arith, short, inside)) (rw (← is) (sym c.cmp_paths.ensures ∙ c.in-Equal.is))

pub loop-low-preserved-in-Less : goal.loop-low-preserved-in-Less
loop-low-preserved-in-Less c =
    let short = c.loop-low-test.true in
    let is = c.index-rows-middle.is in
    behind_middle _ c.index-rows-middle.result _ c.loop-low.low _ _ c.requires c.loop-low.invariant (omega arith) (omega (arith, short)) (rw (← is) (sym c.cmp_paths.ensures ∙ c.in-Less.is))

pub returns : goal.returns
returns c =
    let past = c.loop-low-test.false in
    let ordered = c.loop-low.invariant.ordered in
    let same : c.loop-low.high ≡ c.loop-low.low = omega (arith, past, ordered) in
    nothing_between _ _ c.loop-low.low c.requires (subst (λ high. IsBetween c.args.path.now c.args.rows.now c.loop-low.low high) same c.loop-low.invariant)

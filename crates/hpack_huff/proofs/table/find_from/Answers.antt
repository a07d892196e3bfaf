use Rattle.std.proofs.Common.{arith, ◌≤◌}
use Rattle.hpack_huff.specs.inner.Window.{limit}
use Rattle.hpack_huff.proofs.CodeLemmas.{limit_step, rank_low, first-from_rank}
use Rattle.hpack_huff.proofs.table.find_from.Goals as goal

pub loop-length-smaller : goal.loop-length-smaller
loop-length-smaller c =
    let inv = c.loop-length.invariant in
    let above : limit c.loop-length.length ≤ c.args.window = omega (arith, c.limit.ensures) in
    let step = limit_step c.loop-length.length c.args.window inv.1 above c.requires.fits in
    omega arith

pub loop-length-preserved : goal.loop-length-preserved
loop-length-preserved c =
    let inv = c.loop-length.invariant in
    let above : limit c.loop-length.length ≤ c.args.window = omega (arith, c.limit.ensures) in
    let step = limit_step c.loop-length.length c.args.window inv.1 above c.requires.fits in
    (omega arith, step.0, step.1)

pub symbol_of-requires-clause-has_code : goal.symbol_of-requires-clause-has_code
symbol_of-requires-clause-has_code c =
    let low = rank_low c.args.window c.loop-length.length c.loop-length.invariant.2 (omega (arith, c.limit.ensures)) in
    omega (arith, c.first_code.ensures, low.1)

pub returns : goal.returns
returns c =
    let low = rank_low c.args.window c.loop-length.length c.loop-length.invariant.2 (omega (arith, c.limit.ensures)) in
    first-from_rank c.args.window c.loop-length.length c.symbol_of.result low.0 (rw c.first_code.ensures at c.symbol_of.ensures)

use Rattle.std.proofs.Common.{sym, arith}
use Rattle.journal_format.proofs.Headers.{limits_found, no_limits, limits_out}
use Rattle.journal_format.proofs.header.legal_limits_in.Goals as goal

pub returns-in_err-limits : goal.returns-in_err-limits
returns-in_err-limits c = rw c.from_residual.ensures (no_limits c.args.octets.now (sym c.in_err-limits.ensures))

pub returns-then-not-in_range : goal.returns-then-not-in_range
returns-then-not-in_range c = limits_out c.args.octets.now c.in_ok-limits.limits c.in_ok-limits.rest.now (sym c.in_ok-limits.ensures) (λ range. let t = c.in_range.ensures.1 range in let f = c.if-not-in_range.true in cc)

pub returns : goal.returns
returns c = (c.in_range.ensures.0 c.if-not-in_range.false, limits_found c.args.octets.now c.in_ok-limits.limits c.in_ok-limits.rest.now (λ i. omega (arith, c.type_inv.octets i)) (sym c.in_ok-limits.ensures))

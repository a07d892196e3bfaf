use Rattle.journal_format.proofs.Headers.{no_mark, header_after}
use Rattle.journal_format.proofs.header.header_in.Goals as goal

pub returns-in_err-rest : goal.returns-in_err-rest
returns-in_err-rest c = rw c.from_residual.ensures (no_mark c.args.octets.now c.in_err-rest.ensures)

pub returns : goal.returns
returns c = header_after c.args.octets.now c.in_ok-rest.rest.now c.legal_limits_in.result c.in_ok-rest.ensures c.legal_limits_in.ensures

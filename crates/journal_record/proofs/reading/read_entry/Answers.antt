use Rattle.std.proofs.Common.{arith}
use Rattle.journal_record.proofs.Answered.{is_found, is_only, is_none}
use Rattle.journal_record.proofs.reading.read_entry.Goals as goal

pub returns-clause-found : goal.returns-clause-found
returns-clause-found c = is_found c.args.number c.args.octets.now c.entry_at.result (λ i. omega (arith, c.type_inv.octets i)) c.entry_at.ensures

pub returns-clause-only : goal.returns-clause-only
returns-clause-only c = is_only c.args.number c.args.octets.now c.entry_at.result c.entry_at.ensures

pub returns-clause-none : goal.returns-clause-none
returns-clause-none c = is_none c.args.number c.args.octets.now c.entry_at.result c.entry_at.ensures

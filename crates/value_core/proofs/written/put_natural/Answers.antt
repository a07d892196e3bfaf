use Rattle.std.proofs.Common.{arith}
use Rattle.value_core.proofs.Ascii.{decimal_utf8}
use Rattle.value_core.proofs.written.put_natural.Goals as goal

pub returns-in-Ok-clause-is_utf8 : goal.returns-in-Ok-clause-is_utf8
returns-in-Ok-clause-is_utf8 c = decimal_utf8 c.args.number (omega arith)

pub returns-in-Err-clause-is_utf8 : goal.returns-in-Err-clause-is_utf8
returns-in-Err-clause-is_utf8 c = decimal_utf8 c.args.number (omega arith)

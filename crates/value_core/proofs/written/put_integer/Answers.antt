use Rattle.value_core.proofs.Ascii.{signed_utf8}
use Rattle.value_core.proofs.written.put_integer.Goals as goal

pub returns-in-Ok-clause-is_utf8 : goal.returns-in-Ok-clause-is_utf8
returns-in-Ok-clause-is_utf8 c = signed_utf8 c.args.number c.ranges.number.sfits

pub returns-in-Err-clause-is_utf8 : goal.returns-in-Err-clause-is_utf8
returns-in-Err-clause-is_utf8 c = signed_utf8 c.args.number c.ranges.number.sfits

use Rattle.value_core.proofs.Ascii.{dec_utf8}
use Rattle.value_core.proofs.written.put_decimal.Goals as goal

pub returns-in_err-push-clause-is_utf8 : goal.returns-in_err-push-clause-is_utf8
returns-in_err-push-clause-is_utf8 c = dec_utf8 c.args.digits c.args.places c.ranges.digits.sfits

pub returns-clause-is_utf8 : goal.returns-clause-is_utf8
returns-clause-is_utf8 c = dec_utf8 c.args.digits c.args.places c.ranges.digits.sfits

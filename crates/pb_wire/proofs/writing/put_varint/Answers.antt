use Rattle.std.proofs.Common.{arith}
use Rattle.pb_wire.proofs.WritingLemmas.{IsMessage-varint}
use Rattle.pb_wire.proofs.writing.put_varint.Goals as goal

pub returns-in_err-push-clause-is_field : goal.returns-in_err-push-clause-is_field
returns-in_err-push-clause-is_field c = IsMessage-varint c.args.number c.args.value c.requires.some c.requires.one_octet (omega arith)

pub returns-clause-is_field : goal.returns-clause-is_field
returns-clause-is_field c = IsMessage-varint c.args.number c.args.value c.requires.some c.requires.one_octet (omega arith)

use Rattle.std.proofs.Common.{arith}
use Rattle.pb_wire.proofs.WritingLemmas.{IsMessage-octets}
use Rattle.pb_wire.proofs.writing.put_octets.Goals as goal

pub returns-in_err-push-clause-is_field : goal.returns-in_err-push-clause-is_field
returns-in_err-push-clause-is_field c = IsMessage-octets c.args.number c.args.octets.now c.requires.some c.requires.one_octet (omega arith)

pub returns-in_err-put_shortest-clause-is_field : goal.returns-in_err-put_shortest-clause-is_field
returns-in_err-put_shortest-clause-is_field c = IsMessage-octets c.args.number c.args.octets.now c.requires.some c.requires.one_octet (omega arith)

pub returns-clause-is_field : goal.returns-clause-is_field
returns-clause-is_field c = IsMessage-octets c.args.number c.args.octets.now c.requires.some c.requires.one_octet (omega arith)

use Rattle.pb_wire.proofs.ValueLaws.{varints-written, occurrences-written}
use Rattle.pb_wire.proofs.laws.written_values.Goals as goal

pub returns-clause-varint : goal.returns-clause-varint
returns-clause-varint c = varints-written

pub returns-clause-octets : goal.returns-clause-octets
returns-clause-octets c = occurrences-written

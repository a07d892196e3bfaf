use Rattle.pb_wire.proofs.ValueLaws.{varints-append, occurrences-append}
use Rattle.pb_wire.proofs.laws.appended_values.Goals as goal

pub returns-clause-varints : goal.returns-clause-varints
returns-clause-varints c = varints-append

pub returns-clause-octets : goal.returns-clause-octets
returns-clause-octets c = occurrences-append

use Rattle.pb_wire.proofs.MapLemmas.{varints-members, occurrences-members}
use Rattle.pb_wire.proofs.laws.members_alone.Goals as goal

pub returns-clause-varints : goal.returns-clause-varints
returns-clause-varints c = varints-members

pub returns-clause-octets : goal.returns-clause-octets
returns-clause-octets c = occurrences-members
